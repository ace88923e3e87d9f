use Rattle.std.proofs.Common.{◌≡◌, ◌+◌, ◌-◌, ◌*◌, ◌∙◌, string_bytes, arith}
use Rattle.wesl_text_mappings.specs.Vlq.{AddsNumber}
use Rattle.wesl_text_mappings.proofs.Digits.{moved_back, moved_on, on_ok}
use Rattle.wesl_text_mappings.proofs.vlq.push_move.Goals as goal

pub returns-then-from-to : goal.returns-then-from-to
returns-then-from-to c =
    let size = c.args.to - c.args.from in
    let there : c.args.from + (c.args.to - c.args.from) ≡ c.args.to = omega arith in
    on_ok c.push_signed.result
    (λ (a : AddsNumber (2 * size + 0) (string_bytes c.args.text.now) (string_bytes c.push_signed.new.text)).
    record { move = 2 * size + 0; added = a; leads = moved_on c.args.from size ∙ there })
    c.push_signed.ensures

pub returns-else-from-to : goal.returns-else-from-to
returns-else-from-to c =
    let size = c.args.from - c.args.to in
    let there : c.args.from - (c.args.from - c.args.to) ≡ c.args.to = omega arith in
    on_ok c.push_signed-else-from-to.result
    (λ (a : AddsNumber (2 * size + 1) (string_bytes c.args.text.now) (string_bytes c.push_signed-else-from-to.new.text)).
    record { move = 2 * size + 1; added = a; leads = moved_back c.args.from size ∙ there })
    c.push_signed-else-from-to.ensures
