use Rattle.std.proofs.Common.{◌≡◌, ◌<◌, get_or, ap, sym, subst, ℕ}
use Rattle.wesl_text_tokens.specs.Reading.{IsCharAt}
use Rattle.wesl_text_tokens.proofs.Steps.{ascii_char}
use Rattle.wesl_text_tokens.proofs.character.char_at.Goals as goal

pub returns-then-byte-lt128 : goal.returns-then-byte-lt128
returns-then-byte-lt128 c =
    let t = c.args.text.now in
    let e : get_or c.as_bytes.result.now c.args.at 0 ≡ get_or t c.args.at 0 = ap (λ b. get_or b c.args.at 0) c.as_bytes.ensures.value in
    let small : get_or t c.args.at 0 < 128 = subst (λ (x : ℕ). x < 128) e c.if-byte-lt128.true in
    subst (IsCharAt t c.args.at) (sym e) (ascii_char t c.args.at c.utf8.text c.requires.boundary c.requires.within small)
