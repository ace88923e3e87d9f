use Rattle.wesl_tree_syntax.specs.View.{selector_view}
use Rattle.wesl_visit_collect.proofs.Adds.{Walked}
use Rattle.wesl_visit_collect.proofs.collect.statement.in_selectors.Given as goal

abbrev pub invariant-loop-selector : goal.invariant-loop-selector
invariant-loop-selector g l = Walked g.T.Kind.sought g.T.Kind.view selector_view l.initial.found l.selector-items l.selector-index l.found
