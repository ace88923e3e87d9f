use Rattle.wesl_json_print_nodes.proofs.Lists.{AreTextsBefore}
use Rattle.wesl_json_print_nodes.proofs.attribute.print_texts.Given as goal

abbrev pub invariant-loop-text : goal.invariant-loop-text
invariant-loop-text g l = AreTextsBefore g.S.Sink.after l.text-items l.initial.out l.out l.text-index
