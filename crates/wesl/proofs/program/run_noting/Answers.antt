use Rattle.std.proofs.Common.{take, subst}
use Rattle.std.specs.Io.KnownBytes.{Appends}
use Rattle.wesl_program.specs.Made.{bytes_of}
use Rattle.wesl.proofs.program.run_noting.Goals as goal

pub returns-then-write_whole-clause-line : goal.returns-then-write_whole-clause-line
returns-then-write_whole-clause-line g c =
    let made = c.in_ok-outcome in
    let was = g.W.Write.contents c.args.writer.now.inner.now in
    let is = g.W.Write.contents c.write_whole.new.writer.inner.now in
    (bytes_of made.line, made.ensures.line, subst (λ bytes. Appends was is bytes) c.as_bytes.ensures (c.write_whole.ensures.whole c.if-write_whole.true))

pub returns-clause-output : goal.returns-clause-output
returns-clause-output g c = λ failed.
    let made = c.in_ok-outcome in
    let was = g.W.Write.contents c.args.writer.now.inner.now in
    let is = g.W.Write.contents c.write_whole.new.writer.inner.now in
    let begun = c.write_whole.ensures.beginning c.if-write_whole.false in
    (made.outcome, bytes_of made.line, begun.0, made.ensures.line, subst (λ bytes. Appends was is (take begun.0 bytes)) c.as_bytes.ensures begun.1)
