use Rattle.wesl_text_print.proofs.Lists.{AreCommasBefore}
use Rattle.wesl_text_print_statements.proofs.Attributes.{word_slots}
use Rattle.wesl_text_print_statements.proofs.attribute.print_words.Given as goal

abbrev pub invariant-loop-word : goal.invariant-loop-word
invariant-loop-word g l = AreCommasBefore word_slots g.S.TokenSink.after l.word-items l.initial.out l.out l.word-index l.is_first
