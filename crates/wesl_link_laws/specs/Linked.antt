-- Links, as laws of their units speak of them.
use Rattle.std.specs.Prelude.{◌≡◌, List, [], ◌∷◌, Contains}
use Rattle.wesl_tree_names.specs.Path.{Text, Path}
use Rattle.wesl_tree_syntax.specs.Unit.{UnitOf, spelled}
use Rattle.wesl_tree.specs.Translation.{unit_view}
use Rattle.wesl_tree.specs.declared.unit.TranslationUnit.{TranslationUnit}
use Rattle.wesl_link_reach.specs.World.{Task, Entered}
use Rattle.wesl_link_reach.specs.Faults.{AreDistinct}
use Rattle.wesl_link_engine.specs.Worlds.{Module, tables, task_of}
use Rattle.wesl_link_engine.specs.Resolved.{Resolved, paths_of}

-- the unit is the spelling of a `TranslationUnit`
abbrev pub IsUnitOfCode : UnitOf Text → Type 0
IsUnitOfCode u = (t : TranslationUnit) × (spelled (unit_view t) ≡ u)

-- The modules of a link, as each link promises them that succeeds: their units are those of code, no path stands twice, and
-- each module is entered.
pub record IsFound (w : List Module) (task : Task Path Text) : Type 0 where
  pub units : (m : Module) → Contains w m → IsUnitOfCode m.unit
  pub once : AreDistinct (paths_of w)
  pub entered : (m : Module) → Contains w m → Entered (tables w) task m.path

-- each module of the link is entered from its root, as where the clause `linked` of `resolve_lazy` and `resolve_eager` holds
abbrev pub AreEntered : Resolved → List Module → Type 0
AreEntered r [] = Unit {0}
AreEntered r (root ∷ others) = (m : Module) → Contains (root ∷ others) m → Entered (tables (root ∷ others)) (task_of root r.kept r.is_eager) m.path

-- each module of a `Resolutions` is entered from its root
abbrev pub IsEntered : Resolved → Type 0
IsEntered r = AreEntered r r.modules
