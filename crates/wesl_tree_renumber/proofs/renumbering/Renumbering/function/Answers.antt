use Rattle.wesl_tree_syntax.specs.Tree.{binder, function}
use Rattle.wesl_tree_renumber.proofs.Parts.{nothing, of_kind, then}
use Rattle.wesl_tree_renumber.proofs.renumbering.Renumbering.function.Goals as goal

pub returns : goal.returns
returns c = of_kind function (then c.attributes.ensures (then (c.ident.ensures binder) (then c.parameters.ensures (then c.attributes-2.ensures (then c.optional_type.ensures (then c.compound.ensures nothing))))))
