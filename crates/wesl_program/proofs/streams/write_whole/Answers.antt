use Rattle.std.proofs.Common.{◌≡◌, ◌+◌, ◌++◌, take, drop, sym, subst, rules}
use Rattle.std.proofs.Math.Seq.{take-add}
use Rattle.std.proofs.lemmas.List.{take_rest}
use Rattle.std.specs.Io.KnownBytes.{Appends}
use Rattle.wesl_program.proofs.Bytes.{Appends-then}
use Rattle.wesl_program.proofs.streams.write_whole.Goals as goal

pub loop-done-preserved : goal.loop-done-preserved
loop-done-preserved g c =
    let old = c.loop-done in
    let all : take old.done c.args.line.now ++ take c.in-Ok.count (drop old.done c.args.line.now) ≡ take (old.done + c.in-Ok.count) c.args.line.now = sym (take-add old.done c.in-Ok.count c.args.line.now) in
    let was = g.W.Write.contents c.args.writer.now.inner.now in
    let before = g.W.Write.contents old.writer.inner.now in
    let after = g.W.Write.contents c.write.new.self.inner.now in
    let taken = subst (λ r. Appends before after (take c.in-Ok.count r)) (take_rest c.args.line.now old.done) c.in-Ok.ensures.bytes in
    (search rules, subst (Appends was after) all (Appends-then was before after (take old.done c.args.line.now) (take c.in-Ok.count (drop old.done c.args.line.now)) old.invariant.1 taken), search rules, search rules)
