use Rattle.wesl_tree_syntax.specs.Tree.{directive_node}
use Rattle.wesl_tree_syntax.specs.View.{directive_view, placed}
use Rattle.wesl_visit_collect.proofs.Adds.{Walked}
use Rattle.wesl_visit_collect.proofs.collect.declaration.in_directives.Given as goal

abbrev pub invariant-loop-directive : goal.invariant-loop-directive
invariant-loop-directive g l = Walked g.T.Kind.sought g.T.Kind.view (placed directive_view directive_node) l.initial.found l.directive-items l.directive-index l.found
