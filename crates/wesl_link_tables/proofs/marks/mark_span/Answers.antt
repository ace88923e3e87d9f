use Rattle.std.proofs.Common.{◌∙◌, ◌≡◌, ◌+◌, ◌<◌, ◌≤◌, ◌++◌, ◌∷◌, [], sym, subst, arith, length}
use Rattle.std.specs.Prelude.{flat_map}
use Rattle.wesl_link_tables.specs.Marks.{IsMark}
use Rattle.wesl_link_tables.specs.Numbering.{AreRelated, AreNumberedNames, AreNumberedReferences}
use Rattle.wesl_link_tables.specs.NumbersView.{numbering}
use Rattle.wesl_link_tables.specs.Reading.{all_uses, use_at, span}
use Rattle.wesl_link_tables.specs.Uses.{asked, unclear_in, local}
use Rattle.wesl_link_tables.proofs.Added.{marks_one, asked_next, unclear_next, numbered_later}
use Rattle.wesl_link_tables.proofs.Pieced.{span_none, span_next}
use Rattle.wesl_link_tables.proofs.Related.{grows_itself, grows_trans}
use Rattle.wesl_link_tables.proofs.Seen.{uses_length}
use Rattle.wesl_link_tables.proofs.marks.mark_span.Goals as goal

pub loop-index-init : goal.loop-index-init
loop-index-init c =
    let a = numbering c.args.numbers.now in
    let none = span_none c.args.from (all_uses c.args.reading.now) in
    record {
      marks = subst (λ ms. AreRelated (IsMark a) ms (span c.args.from c.args.from (all_uses c.args.reading.now))) (sym (c.reserve_exact.ensures.items ∙ c.requires.unmarked)) (subst (λ us. AreRelated (IsMark a) [] us) (sym none) tt);
      references = subst (λ rs. AreNumberedReferences a rs (flat_map asked (span c.args.from c.args.from (all_uses c.args.reading.now)))) (sym c.requires.unasked)
          (subst (λ us. AreNumberedReferences a [] (flat_map asked us)) (sym none) tt);
      unclear = subst (λ ns. AreNumberedNames a ns (flat_map unclear_in (span c.args.from c.args.from (all_uses c.args.reading.now)))) (sym c.requires.clear)
          (subst (λ us. AreNumberedNames a [] (flat_map unclear_in us)) (sym none) tt);
      grows = grows_itself a;
    }

pub mark_at-requires-clause-numbered : goal.mark_at-requires-clause-numbered
mark_at-requires-clause-numbered c = numbered_later (numbering c.args.numbers.now) (numbering c.loop-index.numbers) c.loop-index.invariant.grows c.args.reading.now c.requires.numbered

pub loop-index-preserved : goal.loop-index-preserved
loop-index-preserved c =
    let a = numbering c.loop-index.numbers in
    let b = numbering c.mark_at.new.numbers in
    let g = c.mark_at.ensures.grows in
    let r = c.args.reading.now in
    let uses = all_uses r in
    let i = c.loop-index.index in
    let so_far = span c.args.from i uses in
    let inside : i < length uses = omega (arith, c.loop-index-test.true, c.requires.inside, uses_length r c.requires.read) in
    let low : c.args.from ≤ i = omega (arith, c.loop-index.auto.index) in
    let next : span c.args.from (i + 1) uses ≡ so_far ++ use_at r i ∷ [] = span_next c.args.from i uses (local 0 []) low inside in
    let m = c.in_ok-mark.mark in
    let marked = c.in_ok-mark.ensures.marked in
    record {
      marks = subst (λ ms. AreRelated (IsMark b) ms (span c.args.from (i + 1) uses)) (sym c.in_ok-push.ensures.items)
          (subst (λ us. AreRelated (IsMark b) (c.loop-index.marked.marks.items ++ m ∷ []) us) (sym next) (marks_one a b g c.loop-index.marked.marks.items so_far m (use_at r i) c.loop-index.invariant.marks marked.mark));
      references = subst (λ us. AreNumberedReferences b c.mark_at.new.found.references.items (flat_map asked us)) (sym next)
          (asked_next a b g so_far (use_at r i) c.loop-index.marked.asked.references.items c.mark_at.new.found.references.items c.loop-index.invariant.references marked.added);
      unclear = subst (λ us. AreNumberedNames b c.mark_at.new.found.unclear.items (flat_map unclear_in us)) (sym next)
          (unclear_next a b g so_far (use_at r i) c.loop-index.marked.asked.unclear.items c.mark_at.new.found.unclear.items c.loop-index.invariant.unclear marked.unclear);
      grows = grows_trans (numbering c.args.numbers.now) a b c.loop-index.invariant.grows g;
    }

pub returns-clause-marks : goal.returns-clause-marks
returns-clause-marks c =
    let e : c.loop-index.index ≡ c.args.to = omega (arith, c.loop-index-test.false, c.loop-index.auto.index-end, c.requires.ordered) in
    subst (λ i. AreRelated (IsMark (numbering c.loop-index.numbers)) c.loop-index.marked.marks.items (span c.args.from i (all_uses c.args.reading.now))) e c.loop-index.invariant.marks

pub returns-clause-references : goal.returns-clause-references
returns-clause-references c =
    let e : c.loop-index.index ≡ c.args.to = omega (arith, c.loop-index-test.false, c.loop-index.auto.index-end, c.requires.ordered) in
    subst (λ i. AreNumberedReferences (numbering c.loop-index.numbers) c.loop-index.marked.asked.references.items (flat_map asked (span c.args.from i (all_uses c.args.reading.now)))) e c.loop-index.invariant.references

pub returns-clause-unclear : goal.returns-clause-unclear
returns-clause-unclear c =
    let e : c.loop-index.index ≡ c.args.to = omega (arith, c.loop-index-test.false, c.loop-index.auto.index-end, c.requires.ordered) in
    subst (λ i. AreNumberedNames (numbering c.loop-index.numbers) c.loop-index.marked.asked.unclear.items (flat_map unclear_in (span c.args.from i (all_uses c.args.reading.now)))) e c.loop-index.invariant.unclear

pub returns-in_err-reserve_exact-clause-grows : goal.returns-in_err-reserve_exact-clause-grows
returns-in_err-reserve_exact-clause-grows c = grows_itself (numbering c.args.numbers.now)

pub returns-in_err-mark-clause-grows : goal.returns-in_err-mark-clause-grows
returns-in_err-mark-clause-grows c = grows_trans (numbering c.args.numbers.now) (numbering c.loop-index.numbers) (numbering c.mark_at.new.numbers) c.loop-index.invariant.grows c.mark_at.ensures.grows

pub returns-in_err-push-clause-grows : goal.returns-in_err-push-clause-grows
returns-in_err-push-clause-grows c = grows_trans (numbering c.args.numbers.now) (numbering c.loop-index.numbers) (numbering c.mark_at.new.numbers) c.loop-index.invariant.grows c.mark_at.ensures.grows

pub returns-clause-grows : goal.returns-clause-grows
returns-clause-grows c = c.loop-index.invariant.grows

pub mark_at-requires-clause-inside : goal.mark_at-requires-clause-inside
mark_at-requires-clause-inside c = omega (arith, c.loop-index-test.true, c.requires.inside)
