use Rattle.std.proofs.Common.{◌<◌, ◌∙◌, length, map, ap, arith}
use Rattle.std.specs.Prelude.{Result, Ok, Err, IfOk}
use Rattle.std.specs.List.{list_any}
use Rattle.wesl_scope_occurrences.specs.Views.{occurrence_view}
use Rattle.wesl_scope_occurrences.specs.Walk.{Found}
use Rattle.wesl_scope_strip.specs.Marks.{mark_at}
use Rattle.wesl_scope_numbers.specs.Test.{has_number}
use Rattle.wesl_scope_clashes.specs.Sightings.{groups_view, first_in, first_met, is_seen, is_declared}
use Rattle.wesl_scope_clashes.proofs.Steps.{same_clashes}
use Rattle.wesl_scope_clashes.proofs.Misread.{all_viewed}
use Rattle.wesl_scope_clashes.proofs.whole.clashes_among.Goals as goal

of_ok : {A E : Type 0} {P Q : A → Type 0} (r : Result A E) → ((x : A) → P x → Q x) → IfOk r P → IfOk r Q
of_ok (Ok x) f p = f x p
of_ok (Err e) f p = p

pub returns : goal.returns
returns c =
    let names = c.args.names.now in
    let means = c.args.means.now in
    let os = map occurrence_view c.args.all.now in
    of_ok c.clashes_by_tables.result (λ r e. e
    ∙ same_clashes (first_in (groups_view c.in_ok-visible.visible.of.items)) (first_met is_seen means os) (first_in (groups_view c.in_ok-globals.globals.of.items)) (first_met is_declared means os) (mark_at c.deref.result.now) (λ m. list_any (has_number m) os) names
    c.in_ok-visible.ensures c.in_ok-globals.ensures (λ m h. ap (λ ms. mark_at ms m) c.deref.ensures.value ∙ c.in_ok-bound.ensures m (omega (arith, h, c.len.ensures))) means os
    (all_viewed (λ (o : Found). o.name < length names) c.args.all.now c.requires.named)) c.clashes_by_tables.ensures
