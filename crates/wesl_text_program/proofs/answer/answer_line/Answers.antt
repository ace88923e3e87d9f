use Rattle.std.proofs.Common.{List, ℕ, ◌++◌, ◌∙◌, ap, string_bytes}
use Rattle.std.proofs.lemmas.Result.{IfOk-weaker}
use Rattle.wesl_text_program.proofs.Telling.{line-made}
use Rattle.wesl_text_program.proofs.answer.answer_line.Goals as goal

pub returns : goal.returns
returns c =
    let t = c.args.linked in
    let (map, is, headed) = c.in_ok-line.ensures in
    IfOk-weaker c.print_text-3.result _ _ (λ s h. (map, is, line-made t.linked.clash map (string_bytes t.text) (string_bytes c.in_ok-line.line) (string_bytes c.in_ok-line-2.line) (string_bytes c.in_ok-line-3.line) (string_bytes s) headed c.in_ok-line-2.ensures (c.in_ok-line-3.ensures ∙ ap (λ (t : List ℕ). string_bytes c.in_ok-line-2.line ++ t) (c.deref.ensures ∙ c.in_ok-text.ensures)) h)) c.print_text-3.ensures
