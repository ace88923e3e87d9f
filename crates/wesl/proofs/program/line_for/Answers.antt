use Rattle.std.proofs.Common.{inl, subst}
use Rattle.wesl_program.specs.Made.{bytes_of}
use Rattle.wesl.specs.Run.{IsLine}
use Rattle.wesl.proofs.Bytes.{all_had, some_had}
use Rattle.wesl.proofs.program.line_for.Goals as goal

pub returns-in-Ok-clause-line : goal.returns-in-Ok-clause-line
returns-in-Ok-clause-line g c =
    let was = g.R.Read.remaining c.args.reader.now.inner.now in
    let is = g.R.Read.remaining c.read_whole.new.reader.inner.now in
    let made = c.line_of_bytes.result in
    let had = all_had was is c.in-Ok.bytes.items c.in-Ok.ensures.bytes c.in-Ok.ensures.end in
    (c.in-Ok.bytes.items, had, subst (λ bytes. IsLine made.0 bytes (bytes_of made.1)) c.deref.ensures.value c.line_of_bytes.ensures.line)

pub returns-in-Err-Memory-clause-line : goal.returns-in-Err-Memory-clause-line
returns-in-Err-Memory-clause-line g c =
    let had = some_had (g.R.Read.remaining c.args.reader.now.inner.now) in
    (had.0, had.1, inl c.memory_line.ensures)
