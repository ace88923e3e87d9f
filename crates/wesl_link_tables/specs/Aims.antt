-- What paths aim at in a module whose imports are known by numbers.
use Rattle.std.specs.Prelude.{◌≡◌, ◌<◌, List, [], ◌∷◌, length, get_or}
use Rattle.wesl_tree_names.specs.Path.{Text, Path, root_path}
use Rattle.wesl_link_symbols.specs.declared.ids.PathId.{PathId}
use Rattle.wesl_tree_base.specs.declared.ids.NameId.{NameId}
use Rattle.wesl_link_split.specs.declared.binders.Binder.{Binder}
use Rattle.wesl_link_tables.specs.Numbering.{Numbering, PathAt}

-- its numbers are numbers of names and of a path
pub record IsKnown (nb : Numbering) (b : Binder PathId NameId) : Type 0 where
  pub path : b.path.0 < length nb.paths
  pub item : b.item.0 < length nb.names

-- a binder as these names and paths spell it
abbrev pub spelled_binder : Numbering → Binder PathId NameId → Binder Path Text
spelled_binder nb b = record { bound = get_or nb.names b.bound.0 []; path = get_or nb.paths b.path.0 root_path; item = get_or nb.names b.item.0 []; declares = b.declares; stands = b.stands }

-- the number is that of the one path
abbrev pub Aims : Numbering → PathId → List Path → Type 0
Aims nb p qs = (q : Path) × PathAt nb p q × (qs ≡ q ∷ [])
