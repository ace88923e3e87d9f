use Rattle.std.proofs.Common.{inl, refl, string_bytes}
use Rattle.wesl_program.specs.Line.{memory}
use Rattle.wesl_program.specs.Made.{bytes_of}
use Rattle.wesl_text_program.proofs.Telling.{fault-line-told}
use Rattle.wesl_text_program.proofs.bytes.line_of_texts.Goals as goal

pub returns-in-Ok-answer_line-clause-answer : goal.returns-in-Ok-answer_line-clause-answer
returns-in-Ok-answer_line-clause-answer c =
    let t = c.in-Ok.linked in
    let (b, is, answers) = c.in-Ok.ensures.linked in
    let (map, shown, line) = c.in-Ok-answer_line.ensures in
    (b, t.linked.clash, map, string_bytes t.text, is, answers map shown, line)

pub returns-in-Err-answer_line-clause-fault : goal.returns-in-Err-answer_line-clause-fault
returns-in-Err-answer_line-clause-fault c = (memory, inl refl, inl c.memory_line.ensures)

pub returns-in-Err-clause-fault : goal.returns-in-Err-clause-fault
returns-in-Err-clause-fault c = fault-line-told c.args.bytes.now c.in-Err.refusal (bytes_of c.refused_line.result) c.in-Err.ensures.refused c.refused_line.ensures
