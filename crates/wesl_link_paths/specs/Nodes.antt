-- Paths by numbers: each is a part behind one that stands before it.
use Rattle.std.specs.Prelude.{◌≡◌, ◌<◌, ◌⊎◌, ◌-◌, ℕ, Bool, true, false, List, [], ◌∷◌, ◌++◌, Some, length, get_or, slice_get, take}
use Rattle.std.specs.List.{list_any}
use Rattle.wesl_tree_base.specs.Pieces.{has, slash}
use Rattle.wesl_tree_names.specs.Path.{Text, Origin, Path, from_package, root_path, push, join_origin, is_relative, same_origin}
use Rattle.wesl_tree_base.specs.declared.ids.NameId.{NameId}
use Rattle.wesl_link_symbols.specs.declared.ids.PathId.{PathId}
use Rattle.wesl_link_paths.specs.Longer.{path_in}
use Rattle.wesl_link_paths.specs.declared.node.PathNode.{PathNode}
use Rattle.wesl_link_paths.specs.declared.node.PathNode.TheVariants.{Root, Package, Under}

-- the root of the package with this name
abbrev pub package_root : Text → Path
package_root name = record { origin = from_package name; components = [] }

-- the root of the package that has this name in that of a path
abbrev pub in_package : Path → Text → Path
in_package p name = record { origin = join_origin p.origin (from_package name); components = [] }

-- the origin of the package to which these names of packages lead from that of an origin, each a dependency of the one before
abbrev pub packaged : Origin → List Text → Origin
packaged o [] = o
packaged o (name ∷ names) = packaged (join_origin o (from_package name)) names

-- the root of that package
abbrev pub packaged_root : Path → List Text → Path
packaged_root p names = record { origin = packaged p.origin names; components = [] }

-- the root of the package of a path
abbrev pub root_of : Path → Path
root_of p = record { origin = p.origin; components = [] }

-- the path without its last components, so many of them; the root of its package where it has no more
abbrev pub above : Path → ℕ → Path
above p levels = record { origin = p.origin; components = take (length p.components - levels) p.components }

-- whether there are no texts
abbrev pub has_none : List Text → Bool
has_none [] = true
has_none (t ∷ ts) = false

-- whether a path is the root of a package
abbrev pub is_root : Path → Bool
is_root p = has_none p.components

-- the part with this number; the empty text where none has it
abbrev pub part_in : List Text → NameId → Text
part_in parts n = get_or parts n.0 []

-- the path of a node, whose numbers are those of these parts and of these paths
abbrev pub node_path : List Text → List Path → PathNode → Path
node_path parts paths Root = root_path
node_path parts paths (Package p n) = in_package (path_in paths p) (part_in parts n)
node_path parts paths (Under r p n) = push (path_in paths p) (part_in parts n)

-- the paths of nodes behind these
abbrev pub paths_after : List Text → List Path → List PathNode → List Path
paths_after parts known [] = known
paths_after parts known (n ∷ ns) = paths_after parts (known ++ node_path parts known n ∷ []) ns

-- the paths of nodes
abbrev pub paths_by : List Text → List PathNode → List Path
paths_by parts nodes = paths_after parts [] nodes

-- The node with the number i: the package has a number before it and is a package's root, and the name, which has a number,
-- has no slash.
pub record IsWholePackage (parts : List Text) (paths : List Path) (i : ℕ) (p : PathId) (n : NameId) : Type 0 where
  pub name : n.0 < length parts
  pub clear : has slash (part_in parts n) ≡ false
  pub before : p.0 < i
  pub root : is_root (path_in paths p) ≡ true
  pub asked : is_relative (path_in paths p) ≡ false

-- The same of a path: the one before it and the component have numbers, and the other number is that of the root of its package.
pub record IsWholePath (parts : List Text) (paths : List Path) (i : ℕ) (r p : PathId) (n : NameId) : Type 0 where
  pub name : n.0 < length parts
  pub before : p.0 < i
  pub outer : r.0 < i
  pub root : is_root (path_in paths r) ≡ true
  pub origin : same_origin (path_in paths r).origin (path_in paths p).origin ≡ true

-- the numbers of a node with the number i are those of parts and of paths before it
abbrev pub IsWhole : List Text → List Path → ℕ → PathNode → Type 0
IsWhole parts paths i Root = Unit {0}
IsWhole parts paths i (Package p n) = IsWholePackage parts paths i p n
IsWhole parts paths i (Under r p n) = IsWholePath parts paths i r p n

-- so it is for all nodes
pub record AreWhole (parts : List Text) (nodes : List PathNode) : Type 0 where
  pub packages : (i : ℕ) (p : PathId) (n : NameId) → slice_get nodes i ≡ Some (Package p n) → IsWholePackage parts (paths_by parts nodes) i p n
  pub paths : (i : ℕ) (r p : PathId) (n : NameId) → slice_get nodes i ≡ Some (Under r p n) → IsWholePath parts (paths_by parts nodes) i r p n

-- the keys stay as they are, as they do where memory is wanting, or a key that equals none of them goes last
abbrev pub Puts : {K : Type 0} → (K → K → Bool) → List K → K → List K → Type 0
Puts eq old key new = (new ≡ old) ⊎ ((list_any (eq key) old ≡ false) × (new ≡ old ++ key ∷ []))
