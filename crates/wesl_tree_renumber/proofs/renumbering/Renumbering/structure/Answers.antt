use Rattle.wesl_tree_syntax.specs.Tree.{binder, struct}
use Rattle.wesl_tree_renumber.proofs.Parts.{nothing, of_kind, then}
use Rattle.wesl_tree_renumber.proofs.renumbering.Renumbering.structure.Goals as goal

pub returns : goal.returns
returns c = of_kind struct (then c.attributes.ensures (then (c.ident.ensures binder) (then c.members.ensures nothing)))
