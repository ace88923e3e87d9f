-- What a link of a given root promises: what it finds, why it is refused, and where it is not.
use Rattle.std.specs.Prelude.{◌≡◌}
use Rattle.wesl_tree_names.specs.declared.errors.Diagnostic.{Diagnostic, out-Diagnostic}
use Rattle.wesl_tree_names.specs.declared.errors.Error as error
use Rattle.wesl_tree.specs.declared.unit.TranslationUnit.{TranslationUnit}
use Rattle.wesl_resolve_base.specs.declared.resolver.Resolver.{Ghosts}
use Rattle.wesl_tree_syntax.specs.Unit.{spelled}
use Rattle.wesl_tree.specs.Translation.{unit_view}
use Rattle.wesl_link_engine.specs.Asking.{Request, task_for}
use Rattle.wesl_link_engine.specs.Refusal.{TellsFault}
use Rattle.wesl_link_engine.specs.Resolved.{Resolved}
use Rattle.wesl_link_engine.specs.Worlds.{Module, IsModuleOrder, TakesTurns, IsLinked, IsRefused, IsFaultless}

-- the diagnostic tells want of memory
abbrev pub TellsMemory : Diagnostic → Type 0
TellsMemory d = (out-Diagnostic d).error ≡ error.Memory

-- the root of a link: a unit that stands at the path that is asked for
abbrev pub asked_root : Request → TranslationUnit → Module
asked_root q unit = record { path = q.root; unit = spelled (unit_view unit) }

-- the root first, and the others in path order
abbrev pub IsOrderFrom : Request → TranslationUnit → Resolved → Type 0
IsOrderFrom q unit found = IsModuleOrder (asked_root q unit) found.modules

-- it took as many turns as it has modules and reached symbols
abbrev pub CountsTurns : Request → Resolved → Type 0
CountsTurns q found = TakesTurns found.modules (task_for q) found.turns

-- The root is a unit that stands at its path; it is linked with what its kept names reach, or with all that is declared, of
-- what the resolver hands out.
module _ {R : Type 0} (g : Ghosts R) (resolver : R) (q : Request) (unit : TranslationUnit) where
  -- what is found is a link of the root
  abbrev pub LinksRoot : Resolved → Type 0
  LinksRoot found = IsLinked (g.hands resolver) (g.refuses resolver) (asked_root q unit) (task_for q) q.limit found.turns found.modules

  -- the diagnostic tells a fault that stands in a world of the root and the module that holds it, or want of memory
  abbrev pub RefusesRoot : Diagnostic → Type 0
  RefusesRoot d = TellsFault (IsRefused (g.hands resolver) (g.refuses resolver) (asked_root q unit) (task_for q) q.limit) d

  -- no fault can stand in a world of the root, but that the resolver wants memory
  abbrev pub IsFaultlessRoot : Type 0
  IsFaultlessRoot = IsFaultless (g.hands resolver) (g.refuses resolver) (asked_root q unit) (task_for q) q.limit
