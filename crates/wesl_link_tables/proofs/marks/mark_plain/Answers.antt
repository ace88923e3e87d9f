use Rattle.std.proofs.Common.{◌∙◌, ◌++◌, ap, refl}
use Rattle.std.specs.Prelude.{if◌then◌else◌}
use Rattle.wesl_link_split.specs.Grouped.{ids}
use Rattle.wesl_link_split.specs.ScopeView.{scope_view}
use Rattle.wesl_link_split.specs.Split.{asked_plain}
use Rattle.wesl_link_tables.specs.NumbersView.{numbering}
use Rattle.wesl_link_tables.proofs.Marking.{plain_unclear, plain_clear}
use Rattle.wesl_link_tables.proofs.Walked.{if_on}
use Rattle.wesl_link_tables.proofs.marks.mark_plain.Goals as goal

pub returns-then-is_unclear : goal.returns-then-is_unclear
returns-then-is_unclear c =
    let numbers = c.args.numbers.now in
    let old = c.args.found.now.references.items in
    let (said, found) = c.in_ok-is_unclear.ensures in
    let asked = asked_plain ids (scope_view c.args.reading.now.scope.now) c.args.name c.args.here in
    let none = found ∙ ap (λ b. if b then old else old ++ asked) c.if-is_unclear.true in
    if_on c.mark_unclear.result
    (λ m m_is more x n. plain_unclear c.args.reading.now (numbering numbers) numbers.names.different numbers.paths.different c.requires.numbered c.args.here c.args.name x n c.args.found.now _ m
    c.in_ok-is_unclear.is_unclear said c.if-is_unclear.true m_is (c.mark_unclear.ensures.references ∙ none) more) c.mark_unclear.ensures.mark c.mark_unclear.ensures.unclear

pub returns : goal.returns
returns c = λ x n.
    let numbers = c.args.numbers.now in
    let old = c.args.found.now.references.items in
    let (said, found) = c.in_ok-is_unclear.ensures in
    let asked = asked_plain ids (scope_view c.args.reading.now.scope.now) c.args.name c.args.here in
    let more = found ∙ ap (λ b. if b then old else old ++ asked) c.if-is_unclear.false in
    plain_clear c.args.reading.now (numbering numbers) numbers.names.different numbers.paths.different c.requires.numbered c.args.here c.args.name x n c.args.found.now _ c.mark_after.result
    c.in_ok-is_unclear.is_unclear said c.if-is_unclear.false c.deref.result.now c.len-before.result refl (c.len-before.ensures ∙ c.args.found.now.references.ok.0) more c.deref.ensures.value c.mark_after.ensures
