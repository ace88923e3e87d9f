-- What is left of a unit, by its spelling.
use Rattle.std.proofs.Common.{◌≡◌, List, false, refl, sym, ap, ◌∙◌, subst}
use Rattle.wesl_cond_chains.proofs.Natural.{through_natural}
use Rattle.wesl_cond_chains.specs.Laws.{IsFaultless, BothStagesAreFaultless, LaterStagesAreFaultless, RunsInStages, SpellingTellsFaults, ThenIsInStages}
use Rattle.wesl_cond_chains.specs.Residual.{first_tree, residual_tree, residual_unit}
use Rattle.wesl_cond.proofs.Stages.{left_in_stages, left_over_faultless, two_stages_faultless}
use Rattle.wesl_cond.specs.Units.{left_of, AreSpelledTwoStages, GoesOnSpelled, IsFaultlessUnit, IsSpelledLeftOver, SpellsWhatIsLeft}
use Rattle.wesl_cond_features.specs.Features.{Replies, known, by_number, HoldsNoError}
use Rattle.wesl_tree_names.specs.Path.{Text}
use Rattle.wesl_tree_syntax.specs.Tree.{Tree, end, tree, respell}
use Rattle.wesl_tree_syntax.specs.Unit.{UnitView, spelled, name_in}

tree_spelled : (names : List Text) (reply : Replies Text) (t : Tree) → respell (name_in names) (residual_tree (known (by_number names reply)) t) ≡ residual_tree (known reply) (respell (name_in names) t)
tree_spelled names reply t =
    sym (ap (first_tree (respell (name_in names) t)) (through_natural (name_in names) (known (by_number names reply)) (known reply) (λ i. refl) false (tree t.label t.children end)))

pub left_spelled : SpellsWhatIsLeft
left_spelled reply u = rw (tree_spelled u.names reply u.imports, tree_spelled u.names reply u.directives, tree_spelled u.names reply u.declarations) refl

pub goes_on_spelled : RunsInStages → ThenIsInStages → (reply : Replies Text) (before after : UnitView) → after ≡ left_of reply before → GoesOnSpelled reply before after
goes_on_spelled stages both reply before after e = λ first u h was.
    ap spelled e
    ∙ left_spelled reply before
    ∙ ap (residual_unit (known reply)) was
    ∙ sym (left_spelled reply (left_of first u))
    ∙ ap spelled (left_in_stages stages both first reply u h)

-- Faults.
faultless_spelled : SpellingTellsFaults → (reply : Replies Text) (a b : UnitView) → spelled a ≡ spelled b → IsFaultlessUnit reply a → IsFaultlessUnit reply b
faultless_spelled tells reply a b e h = (tells reply b).1 (subst (IsFaultless reply) e ((tells reply a).0 h))

pub spelled_left_over_faultless : SpellingTellsFaults → LaterStagesAreFaultless → (second : Replies Text) (before : UnitView) → HoldsNoError second → IsSpelledLeftOver before → IsFaultlessUnit second before
spelled_left_over_faultless tells later second before h left =
    let u = left_of left.0 left.1 in
    faultless_spelled tells second u before (sym left.3) (left_over_faultless later second u h (left.0, left.1, left.2, refl))

pub spelled_two_stages_faultless : SpellingTellsFaults → BothStagesAreFaultless → (reply : Replies Text) (before : UnitView) → AreSpelledTwoStages reply before → IsFaultlessUnit reply before
spelled_two_stages_faultless tells both reply before stages = faultless_spelled tells reply stages.0 before (sym stages.2) (two_stages_faultless both reply stages.0 stages.1)
