use Rattle.wesl_tree_syntax.specs.Tree.{binder, struct}
use Rattle.wesl_tree_copies.proofs.Parts.{nothing, of_kind, then}
use Rattle.wesl_tree_copies.proofs.copying.Copying.structure.Goals as goal

pub returns : goal.returns
returns c = of_kind struct (then c.attributes.ensures (then (c.number.ensures binder) (then c.members.ensures nothing)))
