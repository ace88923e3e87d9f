use Rattle.std.proofs.Common.{◌≡◌, drop, get_or, true, false, ◌==◌, sym, ap, ◌∙◌, arith, take_all, length-drop}
use Rattle.fast_float.specs.Text.{scan}
use Rattle.serde_json.specs.Read.{number_of, number_from}
use Rattle.wesl_json_form.proofs.number_text.number_of.Goals as goal

pub returns-then-begins_with_minus : goal.returns-then-begins_with_minus
unfolding number_of
returns-then-begins_with_minus c =
    let bytes = c.as_bytes-bytes.result.now in
    let minus : (get_or bytes 0 0 == 45) ≡ true = sym c.if-begins_with_minus.ensures.minus in
    let rest : c.scan.result ≡ scan (drop 1 bytes) = c.scan.ensures.parts ∙ ap scan (take_all _ (drop 1 bytes) (omega (arith, length-drop 1 bytes))) in
    let is : number_from true (scan (drop 1 bytes)) ≡ number_of bytes = rw minus in
    c.below_zero.ensures ∙ ap (number_from true) rest ∙ is ∙ ap number_of c.as_bytes-bytes.ensures.value

pub returns-else-begins_with_minus : goal.returns-else-begins_with_minus
unfolding number_of
returns-else-begins_with_minus c =
    let bytes = c.as_bytes-bytes.result.now in
    let bare : (get_or bytes 0 0 == 45) ≡ false = sym c.if-begins_with_minus.ensures.minus in
    let is : number_from false (scan bytes) ≡ number_of bytes = rw bare in
    c.from_zero.ensures ∙ ap (number_from false) c.scan-else-begins_with_minus.ensures.parts ∙ is ∙ ap number_of c.as_bytes-bytes.ensures.value
