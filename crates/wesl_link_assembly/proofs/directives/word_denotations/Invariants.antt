use Rattle.std.proofs.Common.{◌≡◌, map, take}
use Rattle.wesl_link_assembly.specs.Views.{denotation_view}
use Rattle.wesl_link_assembly.proofs.Words.{word_meaning}
use Rattle.wesl_link_assembly.proofs.directives.word_denotations.Given as goal

abbrev pub invariant-loop-word : goal.invariant-loop-word
invariant-loop-word l = map denotation_view l.denotations.items ≡ map word_meaning (take l.word-index l.words)
