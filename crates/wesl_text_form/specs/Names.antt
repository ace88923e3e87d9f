-- Which texts are names, words and numbers.
use Rattle.std.specs.Prelude.{Bool, true, false, not, ◌&&◌, ◌||◌, if◌then◌else◌, List, [], ◌∷◌, Option, Some, None, codes, bytes_eq}
use Rattle.wesl_tree_names.specs.Path.{Text, Path, Origin, absolute, relative, from_package}
use Rattle.wesl_tree_base.specs.Pieces.{cut, slash}
use Rattle.wesl_text_tokens.specs.Tokens.{Token, name, number, tokens}
use Rattle.wesl_text_form.specs.Slots.{same_token}

-- whether a text is one of these
abbrev pub is_among : List Text → Text → Bool
is_among [] t = false
is_among (u ∷ us) t = bytes_eq t u || is_among us t

-- the keywords of WGSL
abbrev pub keywords : List Text
keywords =
    codes "alias" ∷ codes "break" ∷ codes "case" ∷ codes "const" ∷ codes "const_assert" ∷ codes "continue" ∷
    codes "continuing" ∷ codes "default" ∷ codes "diagnostic" ∷ codes "discard" ∷ codes "else" ∷
    codes "enable" ∷ codes "false" ∷ codes "fn" ∷ codes "for" ∷ codes "if" ∷ codes "let" ∷ codes "loop" ∷
    codes "override" ∷ codes "requires" ∷ codes "return" ∷ codes "struct" ∷ codes "switch" ∷ codes "true" ∷
    codes "var" ∷ codes "while" ∷ []

-- the words that WGSL reserves
abbrev pub reserved_words : List Text
reserved_words =
    codes "NULL" ∷ codes "Self" ∷ codes "abstract" ∷ codes "active" ∷ codes "alignas" ∷ codes "alignof" ∷
    codes "as" ∷ codes "asm" ∷ codes "asm_fragment" ∷ codes "async" ∷ codes "attribute" ∷ codes "auto" ∷
    codes "await" ∷ codes "become" ∷ codes "cast" ∷ codes "catch" ∷ codes "class" ∷ codes "co_await" ∷
    codes "co_return" ∷ codes "co_yield" ∷ codes "coherent" ∷ codes "column_major" ∷ codes "common" ∷
    codes "compile" ∷ codes "compile_fragment" ∷ codes "concept" ∷ codes "const_cast" ∷ codes "consteval" ∷
    codes "constexpr" ∷ codes "constinit" ∷ codes "crate" ∷ codes "debugger" ∷ codes "decltype" ∷
    codes "delete" ∷ codes "demote" ∷ codes "demote_to_helper" ∷ codes "do" ∷ codes "dynamic_cast" ∷
    codes "enum" ∷ codes "explicit" ∷ codes "export" ∷ codes "extends" ∷ codes "extern" ∷ codes "external" ∷
    codes "fallthrough" ∷ codes "filter" ∷ codes "final" ∷ codes "finally" ∷ codes "friend" ∷ codes "from" ∷
    codes "fxgroup" ∷ codes "get" ∷ codes "goto" ∷ codes "groupshared" ∷ codes "highp" ∷ codes "impl" ∷
    codes "implements" ∷ codes "import" ∷ codes "inline" ∷ codes "instanceof" ∷ codes "interface" ∷
    codes "layout" ∷ codes "lowp" ∷ codes "macro" ∷ codes "macro_rules" ∷ codes "match" ∷ codes "mediump" ∷
    codes "meta" ∷ codes "mod" ∷ codes "module" ∷ codes "move" ∷ codes "mut" ∷ codes "mutable" ∷
    codes "namespace" ∷ codes "new" ∷ codes "nil" ∷ codes "noexcept" ∷ codes "noinline" ∷
    codes "nointerpolation" ∷ codes "non_coherent" ∷ codes "noncoherent" ∷ codes "noperspective" ∷
    codes "null" ∷ codes "nullptr" ∷ codes "of" ∷ codes "operator" ∷ codes "package" ∷ codes "packoffset" ∷
    codes "partial" ∷ codes "pass" ∷ codes "patch" ∷ codes "pixelfragment" ∷ codes "precise" ∷
    codes "precision" ∷ codes "premerge" ∷ codes "priv" ∷ codes "protected" ∷ codes "pub" ∷ codes "public" ∷
    codes "readonly" ∷ codes "ref" ∷ codes "regardless" ∷ codes "register" ∷ codes "reinterpret_cast" ∷
    codes "require" ∷ codes "resource" ∷ codes "restrict" ∷ codes "self" ∷ codes "set" ∷ codes "shared" ∷
    codes "sizeof" ∷ codes "smooth" ∷ codes "snorm" ∷ codes "static" ∷ codes "static_assert" ∷
    codes "static_cast" ∷ codes "std" ∷ codes "subroutine" ∷ codes "super" ∷ codes "target" ∷
    codes "template" ∷ codes "this" ∷ codes "thread_local" ∷ codes "throw" ∷ codes "trait" ∷ codes "try" ∷
    codes "type" ∷ codes "typedef" ∷ codes "typeid" ∷ codes "typename" ∷ codes "typeof" ∷ codes "union" ∷
    codes "unless" ∷ codes "unorm" ∷ codes "unsafe" ∷ codes "unsized" ∷ codes "use" ∷ codes "using" ∷
    codes "varying" ∷ codes "virtual" ∷ codes "volatile" ∷ codes "wgsl" ∷ codes "where" ∷ codes "with" ∷
    codes "writeonly" ∷ codes "yield" ∷ []

-- whether what has been read is this token alone
abbrev pub is_alone : Token → Option (List Token) → Bool
is_alone t (Some (u ∷ [])) = same_token t u
is_alone t _ = false

-- whether a text is one word: a name that may be a keyword
abbrev pub is_word : Text → Bool
is_word t = is_alone (name t) (tokens t)

-- whether a text is one number
abbrev pub is_number : Text → Bool
is_number t = is_alone (number t) (tokens t)

-- two underscores at the beginning
abbrev pub begins_private : Text → Bool
begins_private (a ∷ b ∷ t) = bytes_eq (a ∷ b ∷ []) (codes "__")
begins_private _ = false

-- whether a word may be declared and used as a name
abbrev pub is_free : Text → Bool
is_free t = not (bytes_eq t (codes "_") || begins_private t || is_among keywords t || is_among reserved_words t)

-- whether a text is such a word
abbrev pub is_name : Text → Bool
is_name t = is_word t && is_free t

-- whether all of them are words, or names; of none it holds
abbrev pub are_words : List Text → Bool
are_words [] = true
are_words (t ∷ ts) = is_word t && are_words ts

abbrev pub are_names : List Text → Bool
are_names [] = true
are_names (t ∷ ts) = is_name t && are_names ts

-- whether an origin may be written: a package's name has slashes in imports alone
abbrev pub is_origin : Bool → Origin → Bool
is_origin slashes (from_package p) = if slashes then are_names (cut slash p) else is_name p
is_origin slashes _ = true

-- whether a path may be written in an import, or before a name
abbrev pub is_path : Bool → Path → Bool
is_path slashes p = is_origin slashes p.origin && are_names p.components

-- the attributes that have nodes of their own: none of them is written as one of another name
abbrev pub known_attributes : List Text
known_attributes =
    codes "align" ∷ codes "binding" ∷ codes "blend_src" ∷ codes "builtin" ∷ codes "compute" ∷ codes "const" ∷
    codes "diagnostic" ∷ codes "elif" ∷ codes "else" ∷ codes "fragment" ∷ codes "group" ∷ codes "id" ∷
    codes "if" ∷ codes "interpolate" ∷ codes "invariant" ∷ codes "location" ∷ codes "must_use" ∷
    codes "publish" ∷ codes "size" ∷ codes "vertex" ∷ codes "workgroup_size" ∷ []
