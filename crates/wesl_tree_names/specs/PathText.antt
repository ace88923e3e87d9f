-- The texts of paths (WESL, "Imports").
use Rattle.std.specs.Prelude.{ℕ, suc, Bool, true, not, ◌&&◌, if◌then◌else◌, Option, Some, None, List, [], ◌∷◌, ◌++◌, bytes_eq, codes}
use Rattle.wesl_tree_base.specs.Pieces.{Text, has, slash, is_keyword, is_package_name, pieces, relative_pieces, joined}
use Rattle.wesl_tree_names.specs.Path.{Origin, absolute, relative, from_package, Path}

-- whether a piece may be a component: it holds no slash and is not `package`, `self` or `super`
abbrev pub is_component : Text → Bool
is_component t = not (has slash t) && not (is_keyword t)

-- whether each of the pieces may be a component; of no pieces it holds
abbrev pub are_components : List Text → Bool
are_components [] = true
are_components (t ∷ ts) = is_component t && are_components ts

-- the path with this origin and these components; none where a piece may not be a component
abbrev pub path_with : Origin → List Text → Option Path
path_with o ts = if are_components ts then Some (record { origin = o; components = ts }) else None

-- after a run of n leading `super`
abbrev pub after_super : ℕ → List Text → Option Path
after_super n [] = path_with (relative n) []
after_super n (t ∷ ts) = if bytes_eq t (codes "super") then after_super (suc n) ts else path_with (relative n) (t ∷ ts)

-- The path that the pieces say. First comes the origin: `package`, `self`, a run of `super`, or else the name of a package;
-- the rest are components. None where there are no pieces, or where one may not stand at its place.
abbrev pub path_of_pieces : List Text → Option Path
path_of_pieces [] = None
path_of_pieces (t ∷ ts) =
    if bytes_eq t (codes "package") then path_with absolute ts
    else if bytes_eq t (codes "self") then path_with (relative 0) ts
    else if bytes_eq t (codes "super") then after_super 1 ts
    else if is_package_name t then path_with (from_package t) ts
    else None

-- the path that the pieces of a text say; none where the text has no pieces
abbrev pub parsed_pieces : Option (List Text) → Option Path
parsed_pieces None = None
parsed_pieces (Some ts) = path_of_pieces ts

-- the path that a text says, if it says one
abbrev pub parse : Text → Option Path
parse text = parsed_pieces (pieces text)

-- the pieces that an origin is written as: `package`; `self`, or `super` for each level; a package's name as one piece
abbrev pub origin_pieces : Origin → List Text
origin_pieces absolute = codes "package" ∷ []
origin_pieces (relative n) = relative_pieces n
origin_pieces (from_package name) = name ∷ []

-- the text of a path: the pieces of its origin and its components, joined by `::`
abbrev pub to_text : Path → Text
to_text p = joined (origin_pieces p.origin ++ p.components)
