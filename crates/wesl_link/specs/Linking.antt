-- What a link promises whose root is handed out as every other module is.
use Rattle.std.specs.Prelude.{◌≡◌, ◌⊎◌, ℕ, Bool, List, Option}
use Rattle.wesl_tree_names.specs.Path.{Text, Path}
use Rattle.wesl_tree_names.specs.Errors.{OrMemory, error_of_resolve, IsBare}
use Rattle.wesl_tree_names.specs.declared.errors.Diagnostic.{Diagnostic}
use Rattle.wesl_tree_names.specs.declared.errors.ResolveError.{ResolveError}
use Rattle.wesl_tree_syntax.specs.Unit.{UnitOf}
use Rattle.wesl_cond_features.specs.declared.features.Features.{Features}
pub use Rattle.wesl_link_engine.specs.Asking.{kept_names, task_at}
use Rattle.wesl_link_engine.specs.Worlds.{Module, task_of, IsLinked, IsRefused, IsModuleOrder}
use Rattle.wesl_link_engine.specs.Refusal.{TellsFault}
use Rattle.wesl_link.specs.Conditions.{HandsLeft, RefusesLeft}

module _ (hands : Path → UnitOf Text → Type 0) (refuses : Path → ResolveError → Type 0) where
  -- the root's unit is handed out at its path
  abbrev pub IsRoot : Path → Module → Type 0
  IsRoot p root = (root.path ≡ p) × hands p root.unit

  -- a link from such a root, from the names that are kept or from all that is declared, in module order
  abbrev pub Links : Path → List Text → Bool → ℕ → ℕ → List Module → Type 0
  Links p keep is_eager limit turns w = (root : Module) × IsRoot p root × IsLinked hands refuses root (task_of root (kept_names is_eager keep) is_eager) limit turns w × IsModuleOrder root w

  -- the diagnostic tells why the root is refused, and no module, or why a link from it is, and the module that holds that fault
  abbrev pub RefusesLink : Path → List Text → Bool → ℕ → Diagnostic → Type 0
  RefusesLink p keep is_eager limit d =
      ((fault : ResolveError) × OrMemory (refuses p) fault × IsBare (error_of_resolve fault) d)
      ⊎ ((root : Module) × IsRoot p root × TellsFault (IsRefused hands refuses root (task_of root (kept_names is_eager keep) is_eager) limit) d)

module _ (hands : Path → UnitOf Text → Type 0) (refuses : Path → ResolveError → Type 0) (features : Option Features) where
  -- what is left of the units that are handed out
  abbrev pub hands_left : Path → UnitOf Text → Type 0
  hands_left p u = HandsLeft features (hands p) u

  -- what is refused, or has a fault of a condition
  abbrev pub refuses_left : Path → ResolveError → Type 0
  refuses_left p e = refuses p e ⊎ RefusesLeft features (hands p) p e

  -- a link of what is left of the units that are handed out
  abbrev pub LinksLeft : Path → List Text → Bool → ℕ → ℕ → List Module → Type 0
  LinksLeft p keep is_eager limit turns w = Links hands_left refuses_left p keep is_eager limit turns w

  -- the diagnostic tells why such a link is refused
  abbrev pub RefusesLinkLeft : Path → List Text → Bool → ℕ → Diagnostic → Type 0
  RefusesLinkLeft p keep is_eager limit d = RefusesLink hands_left refuses_left p keep is_eager limit d
