use Rattle.wesl_tree_syntax.specs.Tree.{binder, parameter}
use Rattle.wesl_tree_renumber.proofs.Parts.{nothing, of_kind, then}
use Rattle.wesl_tree_renumber.proofs.renumbering.Renumbering.parameter.Goals as goal

pub returns : goal.returns
returns c = of_kind parameter (then c.attributes.ensures (then (c.ident.ensures binder) (then c.type_expression.ensures nothing)))
