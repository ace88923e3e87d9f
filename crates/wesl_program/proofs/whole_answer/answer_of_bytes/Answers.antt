use Rattle.std.specs.Prelude.{string_bytes}
use Rattle.wesl_json_form.specs.Units.{written_as}
use Rattle.wesl_tree.specs.Translation.{unit_view}
use Rattle.wesl_program.specs.Answers.{IsAnswerFor, IsLineOf}
use Rattle.wesl_program.proofs.whole_answer.answer_of_bytes.Goals as goal

pub returns-in-Ok-answer_line-clause-line : goal.returns-in-Ok-answer_line-clause-line
returns-in-Ok-answer_line-clause-line c =
    let a = c.in-Ok.answer in
    let for_bytes : IsAnswerFor c.args.bytes.now a = c.in-Ok.ensures.linked in
    let line : IsLineOf a (string_bytes c.in-Ok-answer_line.line) = c.in-Ok-answer_line.ensures in
    (for_bytes.0, for_bytes.1, a.clash, line.0, written_as a.spans (unit_view a.unit), for_bytes.2, for_bytes.3, for_bytes.4 line.0 line.1, line.2)
