use Rattle.wesl_program.specs.Made.{bytes_of}
use Rattle.wesl_program.proofs.FaultLines.{fault-line-told}
use Rattle.wesl.proofs.program.line_of_bytes.Goals as goal

pub returns-in-Err : goal.returns-in-Err
returns-in-Err c =
    let r = c.in-Err.refusal in
    record { line = fault-line-told c.args.bytes.now r.diagnostic.error r.is_placed (bytes_of c.refusal_line.result) c.in-Err.ensures.refused c.in-Err.ensures.placed c.refusal_line.ensures }
