use Rattle.std.proofs.Common.{◌≡◌, drop, map}
use Rattle.wesl_text_form.specs.Names.{is_among}
use Rattle.wesl_text_read.proofs.words.is_among.Given as goal

abbrev pub invariant-loop-known : goal.invariant-loop-known
invariant-loop-known l = is_among (map (λ w. w.now) (drop l.known-index l.words)) l.word ≡ is_among (map (λ w. w.now) l.words) l.word
