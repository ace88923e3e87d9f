-- Identifiers of ASCII letters, digits and underscores (WGSL, "Identifiers").
use Rattle.std.specs.Prelude.{ℕ, Bool, true, false, not, ◌&&◌, ◌||◌, [], ◌∷◌, ◌==◌, codes, bytes_eq}
use Rattle.std.specs.List.{list_all}
use Rattle.std.specs.Char.{is_ascii_digit, is_ascii_alphanumeric}
use Rattle.wesl_tree_names.specs.Path.{Text, Origin, absolute, relative, from_package, Path}
use Rattle.wesl_mangle_forms.specs.Escape.{parts_of}

-- an ASCII letter or digit, or an underscore
abbrev pub is_identifier_byte : ℕ → Bool
is_identifier_byte c = is_ascii_alphanumeric c || c == 95

-- letters, digits and underscores, no digit first, and no underscore alone
abbrev pub is_ascii_identifier : Text → Bool
is_ascii_identifier [] = false
is_ascii_identifier (c ∷ cs) = not (is_ascii_digit c) && (not (bytes_eq (c ∷ cs) (codes "_")) && list_all is_identifier_byte (c ∷ cs))

-- whether a text begins with `__`, as no identifier of WGSL does
abbrev pub begins_with_two_underscores : Text → Bool
begins_with_two_underscores (c ∷ d ∷ cs) = (c == 95) && (d == 95)
begins_with_two_underscores _ = false

-- whether each part of a package's name is such an identifier; any other origin passes
abbrev pub is_identifier_origin : Origin → Bool
is_identifier_origin absolute = true
is_identifier_origin (relative n) = true
is_identifier_origin (from_package n) = list_all is_ascii_identifier (parts_of n)

-- every name is such an identifier, a package's name such identifiers with a slash between each two
abbrev pub has_identifiers : Path → Text → Bool
has_identifiers p i = is_identifier_origin p.origin && (list_all is_ascii_identifier p.components && is_ascii_identifier i)
