use Rattle.std.proofs.Common.{◌∙◌, ap, map}
use Rattle.std.proofs.lemmas.List.{take_all}
use Rattle.wesl_link_assembly.proofs.Words.{word_meaning, meanings_told}
use Rattle.wesl_link_assembly.proofs.directives.word_denotations.Goals as goal

pub returns-clause-words : goal.returns-clause-words
returns-clause-words c = c.loop-word.invariant ∙ (ap (map word_meaning) (take_all c.loop-word.word-index c.args.words.now c.loop-word-test.false) ∙ meanings_told c.args.words.now)
