use Rattle.std.proofs.Common.{refl}
use Rattle.wesl_tree_syntax.specs.Tree.{binder, declaration}
use Rattle.wesl_text_guard.proofs.Parts.{nothing, of_kind, then, untouched_ident, untouched_kind}
use Rattle.wesl_text_guard.proofs.guard.Guard.declaration.Goals as goal

pub returns : goal.returns
returns c = of_kind declaration (λ b f. refl) (then c.attributes.ensures (then (untouched_kind c.args.declaration.now.kind) (then (untouched_ident binder _) (then c.optional_type.ensures (then c.optional_node.ensures nothing)))))
