use Rattle.wesl_tree_syntax.specs.Tree.{attribute_node}
use Rattle.wesl_tree_syntax.specs.View.{attribute_view, placed}
use Rattle.wesl_cond_alive.specs.Views.{here_view}
use Rattle.wesl_cond_alive.proofs.Nodes.{attributes_ahead}
use Rattle.wesl_cond_alive.proofs.Steps.{Passed}
use Rattle.wesl_cond_alive.proofs.walk.Walk.attributes.Given as goal

abbrev pub invariant-loop-attribute : goal.invariant-loop-attribute
invariant-loop-attribute l = Passed (placed attribute_view attribute_node) (here_view l.here) (λ i. attributes_ahead l.here.is_bare) l.initial.self l.self l.attribute-items l.attribute-index
