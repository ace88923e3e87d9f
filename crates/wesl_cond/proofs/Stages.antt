-- What is left of a unit, in stages, again and under choices.
use Rattle.std.proofs.Common.{◌≡◌, ℕ, false, List, sym, ap, ◌∙◌, subst}
use mathlib.Core.Path.{fun_ext}
use Rattle.wesl_cond_chains.proofs.Located.{stands_without}
use Rattle.wesl_cond_chains.specs.Judging.{RefusesIn}
use Rattle.wesl_cond_chains.specs.Laws.{IsFaultless, RunsInStages, TwiceIsOnce, PicksTheSame, ThenIsInStages, LaterStagesAreFaultless, BothStagesAreFaultless}
use Rattle.wesl_cond_chains.specs.Picked.{picked_unit}
use Rattle.wesl_cond_chains.specs.Residual.{residual_unit}
use Rattle.wesl_cond.specs.Units.{left_of, GoesOn, IsFaultlessUnit, IsLeftOver, AreTwoStages, Picks}
use Rattle.wesl_cond_unit.specs.Left.{LeavesNoFault}
use Rattle.wesl_cond_features.specs.Features.{Replies, known, by_number, HoldsNoError, then_replies}
use Rattle.wesl_tree_names.specs.Path.{Text}
use Rattle.wesl_tree_names.specs.declared.errors.Diagnostic.{Diagnostic}
use Rattle.wesl_tree_syntax.specs.Unit.{UnitView, UnitOf, forest_of_unit, trees_of, name_in}
use Rattle.wesl_cond_unit.proofs.Whole.{with_trees}

left_twice : TwiceIsOnce → (reply : Replies Text) (u : UnitView) → left_of reply (left_of reply u) ≡ left_of reply u
left_twice twice reply u = ap (with_trees u.names) (twice (known (by_number u.names reply)) (trees_of u))

pub left_in_stages : RunsInStages → ThenIsInStages → (first second : Replies Text) (u : UnitView) → HoldsNoError first → left_of second (left_of first u) ≡ left_of (then_replies first second) u
left_in_stages stages both first second u h =
    let f = by_number u.names first in
    let g = by_number u.names second in
    ap (with_trees u.names) (stages (known f) (known g) (trees_of u))
    ∙ ap (λ a. with_trees u.names (residual_unit a (trees_of u))) (sym (both f g (λ i. h (name_in u.names i))))

pub settled_is : TwiceIsOnce → (reply : Replies Text) (before after : UnitView) → after ≡ left_of reply before → left_of reply after ≡ after
settled_is twice reply before after e = ap (left_of reply) e ∙ left_twice twice reply before ∙ sym e

pub goes_on : RunsInStages → ThenIsInStages → (reply : Replies Text) (before after : UnitView) → after ≡ left_of reply before → GoesOn reply before after
goes_on stages both reply before after e = λ first u h was. e ∙ ap (left_of reply) was ∙ left_in_stages stages both first reply u h

pub picks_same : PicksTheSame → (reply : Replies Text) (before after : UnitView) → after ≡ left_of reply before → Picks reply before after
picks_same picks reply before after e = λ choice agrees. ap (λ u. picked_unit choice (trees_of u)) e ∙ picks (known (by_number before.names reply)) choice (trees_of before) agrees

-- Faults.
pub not_faultless : (names : List Text) (reply : Replies ℕ) (u : UnitOf ℕ) (told : Diagnostic) → RefusesIn names reply (forest_of_unit u) told → IsFaultless reply u → ⊥
not_faultless names reply u told h faultless = faultless h.0.fault (stands_without reply false (forest_of_unit u) h.0 h.1)

pub left_over_faultless : LaterStagesAreFaultless → (second : Replies Text) (before : UnitView) → HoldsNoError second → IsLeftOver before → IsFaultlessUnit second before
left_over_faultless later second before h left =
    let first = left.0 in
    let u = left.1 in
    subst (IsFaultlessUnit second) (sym left.3) (later (by_number u.names first) (by_number u.names second) (trees_of u) (λ i. h (name_in u.names i)) left.2)

pub two_stages_faultless : BothStagesAreFaultless → (reply : Replies Text) (u : UnitView) → AreTwoStages reply u → IsFaultlessUnit reply u
two_stages_faultless both reply u stages =
    let first = stages.0 in
    let second = stages.1 in
    subst (λ r. IsFaultlessUnit r u) (sym (fun_ext stages.5))
    (both (by_number u.names first) (by_number u.names second) (trees_of u) (λ i. stages.2 (name_in u.names i)) (λ i. stages.3 (name_in u.names i)) stages.4)

pub settled_faultless_is : LeavesNoFault → (reply : Replies Text) (before after : UnitView) → after ≡ left_of reply before → IsFaultlessUnit reply before → IsFaultlessUnit reply after
settled_faultless_is leaves reply before after e faultless = subst (IsFaultlessUnit reply) (sym e) (leaves (by_number before.names reply) (trees_of before) faultless)
