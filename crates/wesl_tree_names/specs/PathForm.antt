-- The paths that have a text (WESL, "Imports").
use Rattle.std.specs.Prelude.{◌≡◌, ◌↔◌, Bool, true, not, ◌&&◌, List, [], ◌∷◌, Some}
use Rattle.wesl_tree_names.specs.Path.{Text, Origin, absolute, relative, from_package, Path}
use Rattle.wesl_tree_base.specs.Pieces.{has, colon, is_empty, is_keyword, is_package_name}
use Rattle.wesl_tree_names.specs.PathText.{are_components, parse, to_text}

-- not empty, and without a colon
abbrev pub is_piece : Text → Bool
is_piece t = not (is_empty t) && not (has colon t)

-- whether each text is nonempty and without a colon
abbrev pub are_pieces : List Text → Bool
are_pieces [] = true
are_pieces (t ∷ ts) = is_piece t && are_pieces ts

-- the name of a package is a piece that is nonempty names joined by slashes, and no keyword
abbrev pub is_written_origin : Origin → Bool
is_written_origin absolute = true
is_written_origin (relative n) = true
is_written_origin (from_package name) = is_piece name && (is_package_name name && not (is_keyword name))

-- each part of the path is what the text of a path can have there
abbrev pub is_written : Path → Bool
is_written p = is_written_origin p.origin && (are_pieces p.components && are_components p.components)

-- those are the paths that their text says
abbrev pub WrittenReadsBack : Type 0
WrittenReadsBack = (p : Path) → (is_written p ≡ true) ↔ (parse (to_text p) ≡ Some p)
