use Rattle.wesl_tree_syntax.specs.Tree.{binder, type_alias}
use Rattle.wesl_tree_copies.proofs.Parts.{nothing, of_kind, then}
use Rattle.wesl_tree_copies.proofs.copying.Copying.alias.Goals as goal

pub returns : goal.returns
returns c = of_kind type_alias (then c.attributes.ensures (then (c.number.ensures binder) (then c.type_expression.ensures nothing)))
