-- Which module of a link the number of a path is that of.
use Rattle.std.specs.Prelude.{◌≡◌, ℕ, Some, List, Contains, slice_get}
use Rattle.wesl_tree_names.specs.Path.{Text, Path, path_view}
use Rattle.wesl_link_symbols.specs.Keyed.{Puts}
use Rattle.wesl_link_symbols.specs.declared.ids.PathId.{PathId}
use Rattle.wesl_tree_base.specs.declared.ids.NameId.{NameId}
use Rattle.wesl_link_symbols.specs.Tables.{Table}
use Rattle.wesl_link_reach.specs.Linking.{paths}
use Rattle.wesl_link_reasons.specs.declared.node.Node.{Node}
use Rattle.wesl_link_reasons.specs.declared.node.Node.TheVariants as node
use Rattle.wesl_link_tables.specs.Numbering.{NameAt, PathAt}
use Rattle.wesl_link_tables.specs.TextsView.{numbering_of_texts as numbering}
use Rattle.wesl_link_engine.specs.Keeping.{all_loaded}
use Rattle.wesl_link_engine.specs.declared.link.Link.{Link}
use Rattle.wesl_link_engine.specs.declared.loaded.LoadedModule.{LoadedModule}

-- the number is that of the path of a module with this index: the root's is 0
abbrev pub IsHomeAt : Link → PathId → ℕ → Type 0
IsHomeAt l p i = (m : LoadedModule) × (slice_get (all_loaded l) i ≡ Some m) × PathAt (numbering l.numbers) p (path_view m.path)

-- a module of the link has the path with this number
abbrev pub IsEntered : Link → PathId → Type 0
IsEntered l p = Contains (paths l.linked.tables) p

-- of the number of each module's path it is noted which module it is, and nothing else is
pub record AreHomes (l : Link) (homes : List (PathId × ℕ)) : Type 0 where
  pub right : (p : PathId) (i : ℕ) → Contains homes (p, i) → IsHomeAt l p i
  pub all : (p : PathId) → IsEntered l p → (i : ℕ) × Contains homes (p, i)

-- the index is noted for the path of the module's table
abbrev pub AddsHome : List (Table PathId NameId) → LoadedModule → ℕ → List (PathId × ℕ) → List (PathId × ℕ) → Type 0
AddsHome ts m i old new = (t : Table PathId NameId) × (slice_get ts m.place ≡ Some t) × Puts old t.path i new

-- the node's name has a text, and its path is that of a module of the link, as far as it has them
abbrev pub IsTellable : Link → Node PathId NameId → Type 0
IsTellable l (node.KeptName n) = (x : Text) × NameAt (numbering l.numbers) n x
IsTellable l (node.Module p) = IsEntered l p
IsTellable l (node.Item s) = IsEntered l s.path × ((x : Text) × NameAt (numbering l.numbers) s.name x)

-- so it is for all these nodes
abbrev pub AreTellable : Link → List (Node PathId NameId) → Type 0
AreTellable l xs = (x : Node PathId NameId) → Contains xs x → IsTellable l x

-- no module of the link stands at the path
abbrev pub HasNone : Link → Path → Type 0
HasNone l q = (m : LoadedModule) → Contains (all_loaded l) m → path_view m.path ≡ q → ⊥
