use Rattle.std.proofs.Common.{◌≡◌, ◌∙◌, map, ap, sym}
use Rattle.wesl_tree.specs.Translation.{unit_view}
use Rattle.wesl_scope_occurrences.specs.Ways.{way}
use Rattle.wesl_scope_clashes.specs.Clashes.{clash_view, clashes}
use Rattle.wesl_scope_clashes.proofs.Misread.{same_count, told_are, none_told}
use Rattle.wesl_scope_clashes.proofs.whole.clashes.Goals as goal

pub clashes_among-requires-clause-same_length : goal.clashes_among-requires-clause-same_length
clashes_among-requires-clause-same_length c =
    same_count c.law_of_occurrences.ensures.spelling (unit_view c.args.unit.now) (way c.in_ok-found.found.outer.items) c.in_ok-found.found.all.items c.deref.result.now c.in_ok-means.means.items c.deref-2.result.now c.in_ok-found.ensures.all c.in_ok-means.ensures.numbers c.deref.ensures.value c.deref-2.ensures.value

pub returns-clause-told : goal.returns-clause-told
returns-clause-told c =
    c.in_ok-told.ensures
    ∙ told_are c.law_of_ways.ensures c.law_of_occurrences.ensures.spelling (unit_view c.args.unit.now) c.in_ok-found.found.outer.items c.in_ok-found.found.all.items c.deref.result.now c.in_ok-means.means.items c.deref-2.result.now c.names.result.now
    c.in_ok-found.ensures.nested c.in_ok-found.ensures.blocks c.in_ok-found.ensures.all c.in_ok-means.ensures.numbers c.names.ensures.names c.deref.ensures.value c.deref-2.ensures.value

pub returns-clause-none : goal.returns-clause-none
returns-clause-none c =
    let law = c.law_of_clashes.ensures (unit_view c.args.unit.now) in
    let told : map clash_view c.in_ok-told.told.items ≡ clashes (unit_view c.args.unit.now) = returns-clause-told c in
    (λ e. law.0 (sym told ∙ ap (map clash_view) e), λ f. none_told c.in_ok-told.told.items (told ∙ law.1 f))
