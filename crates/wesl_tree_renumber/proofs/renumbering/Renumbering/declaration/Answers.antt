use Rattle.wesl_tree_syntax.specs.Tree.{binder, declaration}
use Rattle.wesl_tree_renumber.proofs.Parts.{nothing, of_kind, then, untouched_kind}
use Rattle.wesl_tree_renumber.proofs.renumbering.Renumbering.declaration.Goals as goal

pub returns : goal.returns
returns c = of_kind declaration (then c.attributes.ensures (then (untouched_kind c.args.declaration.now.kind) (then (c.ident.ensures binder) (then c.optional_type.ensures (then c.optional_node.ensures nothing)))))
