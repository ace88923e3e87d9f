use Rattle.std.proofs.Common.{◌≤◌, List, ℕ, [], map, take, get_or, length, refl, subst}
use Rattle.std.proofs.lemmas.List.{take_all}
use Rattle.wesl_link_assembly.specs.Denotations.{free_name}
use Rattle.wesl_link_assembly.specs.Views.{Meaning, denotation_view}
use Rattle.wesl_link_assembly.specs.declared.denotation.Denotation.{Denotation}
use Rattle.wesl_link_assembly.specs.declared.denotation.Denotation.TheVariants as made
use Rattle.wesl_link_assembly.proofs.Denoted.{denotation_eq, decides}
use Rattle.wesl_link_assembly.proofs.Numbering.{Numbered, numbered}
use Rattle.wesl_link_assembly.proofs.Given.{put, next_taken}
use Rattle.wesl_link_assembly.proofs.Whole.{leads_to, all_below, all_used}
use Rattle.wesl_link_assembly.proofs.numbers.numbers.Goals as goal

abbrev none : Denotation
none = made.Symbol (record { path = record { 0 = 0 }; name = record { 0 = 0 } })

pub loop-denotation-preserved : goal.loop-denotation-preserved
loop-denotation-preserved c =
    let xs = c.args.denotations.now in
    let i = c.loop-denotation.denotation-index in
    let k : Denotation = get_or xs i none in
    let (stored, at, same) = c.in_ok-number.ensures.stored in
    let step = put denotation_view (free_name []) denotation_eq decides k c.loop-denotation.different.keys c.insert_full.new.self.keys (map denotation_view (take i xs)) c.loop-denotation.numbers.items c.in_ok-number.number stored c.in_ok-number.ensures.keys at same c.loop-denotation.invariant in
    next_taken denotation_view xs i k none c.loop-denotation-test.true refl c.loop-denotation.numbers.items c.push.new.self.items c.in_ok-number.number (map denotation_view c.insert_full.new.self.keys) c.in_ok-push.ensures.items step

whole : (xs : List Denotation) (i : ℕ) (ns : List ℕ) (seen : List Meaning) → length xs ≤ i → Numbered (free_name []) (map denotation_view (take i xs)) ns seen → Numbered (free_name []) (map denotation_view xs) ns seen
whole xs i ns seen h s = subst (λ ys. Numbered (free_name []) (map denotation_view ys) ns seen) (take_all i xs h) s

pub returns-clause-numbers : goal.returns-clause-numbers
returns-clause-numbers c = numbered (free_name []) (map denotation_view c.args.denotations.now) c.loop-denotation.numbers.items (map denotation_view c.loop-denotation.different.keys) (whole c.args.denotations.now c.loop-denotation.denotation-index c.loop-denotation.numbers.items (map denotation_view c.loop-denotation.different.keys) c.loop-denotation-test.false c.loop-denotation.invariant)

pub returns-clause-leads : goal.returns-clause-leads
returns-clause-leads c = leads_to (free_name []) (map denotation_view c.loop-denotation.different.keys) (map denotation_view c.args.denotations.now) c.loop-denotation.numbers.items (whole c.args.denotations.now c.loop-denotation.denotation-index c.loop-denotation.numbers.items (map denotation_view c.loop-denotation.different.keys) c.loop-denotation-test.false c.loop-denotation.invariant)

pub returns-clause-below : goal.returns-clause-below
returns-clause-below c = all_below (free_name []) (map denotation_view c.loop-denotation.different.keys) (map denotation_view c.args.denotations.now) c.loop-denotation.numbers.items (whole c.args.denotations.now c.loop-denotation.denotation-index c.loop-denotation.numbers.items (map denotation_view c.loop-denotation.different.keys) c.loop-denotation-test.false c.loop-denotation.invariant)

pub returns-clause-used : goal.returns-clause-used
returns-clause-used c = all_used (free_name []) (map denotation_view c.loop-denotation.different.keys) (map denotation_view c.args.denotations.now) c.loop-denotation.numbers.items (whole c.args.denotations.now c.loop-denotation.denotation-index c.loop-denotation.numbers.items (map denotation_view c.loop-denotation.different.keys) c.loop-denotation-test.false c.loop-denotation.invariant)
