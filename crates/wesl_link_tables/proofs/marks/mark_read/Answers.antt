use Rattle.std.proofs.Common.{◌<◌, ◌≤◌, ap, arith, length, subst, sym}
use Rattle.wesl_scope_meanings.specs.Senses.{sense_view}
use Rattle.wesl_scope_meanings.specs.declared.sense.Sense.{Sense}
use Rattle.wesl_link_tables.specs.NumbersView.{numbering}
use Rattle.wesl_link_tables.specs.Reading.{Marks, used_as}
use Rattle.wesl_link_tables.specs.declared.marks.Mark.TheVariants as marks
use Rattle.wesl_link_tables.proofs.Added.{marks_declared, marks_word, marks_local}
use Rattle.wesl_link_tables.proofs.Seen.{read_module, read_outer, read_local, read_aimed, read_past}
use Rattle.wesl_link_tables.proofs.marks.mark_read.Goals as goal
use Rattle.wesl_link_split.proofs.Anywhere.{if_ok}

pub returns-in-Declares-clause-marked : goal.returns-in-Declares-clause-marked
returns-in-Declares-clause-marked c = λ x n.
    let nb = numbering c.args.numbers.now in
    let found = c.args.found.now in
    subst (Marks nb (marks.Declares c.args.name) found found) (sym (ap (λ (s : Sense). used_as c.args.reading.now c.args.here (sense_view s) x) c.in-Declares.is)) (marks_declared nb c.args.name x found n)

pub returns-in-OfNone-clause-marked : goal.returns-in-OfNone-clause-marked
returns-in-OfNone-clause-marked c = λ x n.
    let nb = numbering c.args.numbers.now in
    let found = c.args.found.now in
    subst (Marks nb (marks.Free c.args.name) found found) (sym (ap (λ (s : Sense). used_as c.args.reading.now c.args.here (sense_view s) x) c.in-OfNone.is)) (marks_word nb c.args.name x found n)

pub returns-then-block-gt0-clause-marked : goal.returns-then-block-gt0-clause-marked
returns-then-block-gt0-clause-marked c = λ x n.
    let nb = numbering c.args.numbers.now in
    let found = c.args.found.now in
    let b = c.in-OfBlock.block in
    subst (Marks nb (marks.Local b c.args.name) found found)
    (sym (read_local c.args.reading.now c.args.here x c.args.sense c.requires.read c.in-OfBlock.field-0 b c.in-OfBlock.is c.if-block-gt0.true c.requires.below)) (marks_local nb c.args.name x found n b)

pub returns-else-block-gt0-clause-marked : goal.returns-else-block-gt0-clause-marked
returns-else-block-gt0-clause-marked c =
    if_ok c.mark_plain.result (λ m f x n. subst (Marks (numbering c.args.numbers.now) m c.args.found.now c.mark_plain.new.found)
    (sym (read_outer c.args.reading.now c.args.here x c.args.sense c.in-OfBlock.field-0 c.in-OfBlock.block c.in-OfBlock.is c.if-block-gt0.false)) (f x n)) c.mark_plain.ensures

pub returns-in-OfModule-clause-marked : goal.returns-in-OfModule-clause-marked
returns-in-OfModule-clause-marked c =
    if_ok c.mark_plain-in-OfModule.result (λ m f x n. subst (Marks (numbering c.args.numbers.now) m c.args.found.now c.mark_plain-in-OfModule.new.found)
    (sym (read_module c.args.reading.now c.args.here x c.args.sense c.in-OfModule.field-0 c.in-OfModule.is)) (f x n)) c.mark_plain-in-OfModule.ensures

pub returns-then-number-len-clause-marked : goal.returns-then-number-len-clause-marked
returns-then-number-len-clause-marked c =
    let r = c.args.reading.now in
    let n = c.in-ByPath.number in
    let there : n < length r.senses.now.paths.items = omega (arith, c.if-number-len.true, c.len.ensures, r.senses.now.paths.ok.0) in
    if_ok c.mark_aimed.result (λ m f x k. subst (Marks (numbering c.mark_aimed.new.numbers) m c.args.found.now c.mark_aimed.new.found)
    (sym (read_aimed r c.args.here x c.args.sense c.in-ByPath.field-0 n c.index-path.result.now c.in-ByPath.is there c.index-path.ensures)) (f x k)) c.mark_aimed.ensures.marked

pub returns-else-number-len-clause-marked : goal.returns-else-number-len-clause-marked
returns-else-number-len-clause-marked c =
    let r = c.args.reading.now in
    let n = c.in-ByPath.number in
    let past : length r.senses.now.paths.items ≤ n = omega (arith, c.if-number-len.false, c.len.ensures, r.senses.now.paths.ok.0) in
    if_ok c.mark_plain-else-number-len.result (λ m f x k. subst (Marks (numbering c.args.numbers.now) m c.args.found.now c.mark_plain-else-number-len.new.found)
    (sym (read_past r c.args.here x c.args.sense c.in-ByPath.field-0 n c.in-ByPath.is past)) (f x k)) c.mark_plain-else-number-len.ensures
