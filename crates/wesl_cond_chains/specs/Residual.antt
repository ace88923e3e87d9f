-- What answers to flags leave of a module.
use Rattle.std.specs.Prelude.{false}
use Rattle.wesl_cond_chains.specs.Chains.{residual_list}
use Rattle.wesl_cond_chains.specs.Lists.{element, through}
use Rattle.wesl_cond_features.specs.Answers.{Answers}
use Rattle.wesl_tree_syntax.specs.Tree.{ForestOf, TreeOf, end, tree}
use Rattle.wesl_tree_syntax.specs.Unit.{UnitOf}

module _ {I : Type 0} where
  -- trees, with what answers to flags leave of each judged list in them
  abbrev pub residual_forest : Answers I → ForestOf I → ForestOf I
  residual_forest known = through (residual_list element known) false

  -- the first of some trees, or t where there is none
  abbrev pub first_tree : TreeOf I → ForestOf I → TreeOf I
  first_tree t end = t
  first_tree t (tree l children others) = record { label = l; children = children }

  -- a tree, with what answers to flags leave of each judged list in it
  abbrev pub residual_tree : Answers I → TreeOf I → TreeOf I
  residual_tree known t = first_tree t (residual_forest known (tree t.label t.children end))

  -- a unit, with what answers to flags leave of each judged list in it
  abbrev pub residual_unit : Answers I → UnitOf I → UnitOf I
  residual_unit known u = record { imports = residual_tree known u.imports; directives = residual_tree known u.directives; declarations = residual_tree known u.declarations }
