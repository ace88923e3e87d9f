-- What features leave of the units that are handed out; without features no condition is judged.
use Rattle.std.specs.Prelude.{Option}
use Rattle.wesl_tree_names.specs.Path.{Text, Path}
use Rattle.wesl_tree_names.specs.declared.errors.ResolveError.{ResolveError}
use Rattle.wesl_tree_syntax.specs.Unit.{UnitOf}
use Rattle.wesl_cond_features.specs.declared.features.Features.{Features}
use Rattle.wesl_cond.specs.Conditioned.{IsConditioned}
use Rattle.wesl_resolve.specs.Preprocessor.{IsMade, IsMadeFault, AnyName}

-- what is left of a unit that is handed out
abbrev pub HandsLeft : Option Features → (UnitOf Text → Type 0) → UnitOf Text → Type 0
HandsLeft features hands u = IsMade hands (λ given answer. IsConditioned features given answer) u

-- a fault of a condition stands in a unit that is handed out, and the refusal tells this path and no source
abbrev pub RefusesLeft : Option Features → (UnitOf Text → Type 0) → Path → ResolveError → Type 0
RefusesLeft features hands p e = IsMadeFault hands (λ given answer. IsConditioned features given answer) p AnyName e
