-- A law of the definitions, as a function of the crate cites it.
use Rattle.std.specs.Prelude.{◌≡◌, ℕ, List, get_or, map}
use Rattle.wesl_tree_syntax.specs.Tree.{respell_forest}
use Rattle.wesl_tree_syntax.specs.Unit.{UnitView}
use Rattle.wesl_validate_builtins.specs.Builtins.{BuiltinNames}
use Rattle.wesl_validate_calls.specs.Verdicts.{AreMisfits}
use Rattle.wesl_validate_misfits.specs.Placed.{ArePlaced}
use Rattle.wesl_validate_misfits.specs.declared.placed.PlacedMisfit.{PlacedMisfit}

-- the declarations of the module `placed` are those of u, where each identifier is a place in the list at which its number stands
abbrev pub HavePlaces : UnitView → List ℕ → UnitView → Type 0
HavePlaces u numbers placed = respell_forest (λ p. get_or numbers p 0) placed.declarations.children ≡ respell_forest (λ n. n) u.declarations.children

-- then the calls that fit nothing by their places are the misfits of u, in their order
abbrev pub PlacedAreMisfits : Type 0
PlacedAreMisfits =
    (u placed : UnitView) (b : BuiltinNames) (numbers : List ℕ) (ms : List PlacedMisfit)
    → HavePlaces u numbers placed → ArePlaced u b numbers placed ms → AreMisfits u b (map (λ m. (m.declaration, m.misfit)) ms)
