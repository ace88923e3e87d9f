use Rattle.wesl_text_form.specs.Productions.{a_selector}
use Rattle.wesl_text_print.proofs.Lists.{AreCommasBefore, node_slots}
use Rattle.wesl_tree_syntax.specs.View.{selector_view}
use Rattle.wesl_text_print_statements.proofs.statement.print_each_selector.Given as goal

abbrev pub invariant-loop-selector : goal.invariant-loop-selector
invariant-loop-selector g l = AreCommasBefore (node_slots l.names a_selector selector_view) g.S.TokenSink.after l.selector-items l.initial.out l.out l.selector-index l.is_first
