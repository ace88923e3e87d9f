use Rattle.wesl_text_print.proofs.Lists.{AreBefore}
use Rattle.wesl_text_sink.specs.Filling.{Fills}
use Rattle.wesl_text_sink.proofs.Laying.{lent_name}
use Rattle.wesl_text_sink.proofs.sink.TextSink.put_others.Given as goal

abbrev pub invariant-loop-index : goal.invariant-loop-index
invariant-loop-index l = AreBefore lent_name Fills l.names l.fn.self l.self l.index
