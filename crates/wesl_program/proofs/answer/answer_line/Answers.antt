use Rattle.std.proofs.Common.{refl, string_bytes}
use Rattle.std.proofs.lemmas.Result.{IfOk-weaker}
use Rattle.wesl_json_form.specs.Units.{written_as}
use Rattle.wesl_tree.specs.Translation.{unit_view}
use Rattle.wesl_program.specs.Line.{answer_beginning}
use Rattle.wesl_program.proofs.AnswerLines.{line-made}
use Rattle.wesl_program.proofs.answer.answer_line.Goals as goal

pub returns : goal.returns
returns c =
    let a = c.args.answer.now in
    let (map, is, headed) = c.in_ok-text.ensures in
    IfOk-weaker c.print_text-2.result _ _ (λ s h. (map, is, line-made a.clash map (written_as a.spans (unit_view a.unit)) (answer_beginning a.clash) (string_bytes c.in_ok-text.text) (string_bytes c.in_ok-text-2.text) (string_bytes c.in_ok-text-3.text) (string_bytes s) refl headed c.in_ok-text-2.ensures c.in_ok-text-3.ensures h)) c.print_text-2.ensures
