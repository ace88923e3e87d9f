use Rattle.std.proofs.Common.{◌≡◌, bytes_eq, map, codes, not, false, ap, ◌∙◌, rules}
use Rattle.wesl_text_form.specs.Names.{begins_private}
use Rattle.wesl_text_read.proofs.TakenWords.{free-by-first}
use Rattle.wesl_text_read.proofs.words.is_free.Goals as goal

pub returns-in-len1-up : goal.returns-in-len1-up
returns-in-len1-up c =
    let other : bytes_eq c.args.word.now (codes "_") ≡ false = search rules in
    let public : begins_private c.args.word.now ≡ false = search rules in
    ap not c.is_among.ensures
    ∙ free-by-first c.as_bytes.result.now c.args.word.now (map (λ w. w.now) c.taken_words.result.now) c.as_bytes.ensures.value c.in-len1-up.len_at_least c.taken_words.ensures other public
