use Rattle.std.proofs.Common.{◌+◌, ◌*◌, ◌/◌, ◌%◌, string_bytes, arith}
use Rattle.wesl_text_mappings.specs.Vlq.{AddsDigit, AddsNumber}
use Rattle.wesl_text_mappings.proofs.Digits.{adds_more, adds_only, on_ok}
use Rattle.wesl_text_mappings.proofs.vlq.+push_digits.Goals as goal

pub returns-then-rest-eq0 : goal.returns-then-rest-eq0
returns-then-rest-eq0 t c =
    let old = string_bytes c.args.text.now in
    let new = string_bytes c.push_digit.new.text in
    on_ok c.push_digit.result
    (λ (a : AddsDigit c.args.lowest old new). adds_only (c.args.lowest + 32 * c.args.rest) c.args.lowest old new (omega arith) (omega arith) a)
    c.push_digit.ensures

pub returns : goal.returns
returns t c =
    let old = string_bytes c.args.text.now in
    let middle = string_bytes c.push_digit-2.new.text in
    let new = string_bytes c.push_digits.new.text in
    let m = c.args.rest % 32 + 32 * (c.args.rest / 32) in
    on_ok c.push_digits.result
    (λ (a : AddsNumber m middle new). adds_more c.args.lowest m c.args.rest old middle new (omega arith) (omega arith) c.in_ok-push_digit.ensures a)
    c.push_digits.ensures
