use Rattle.std.proofs.Common.{refl}
use Rattle.wesl_tree_syntax.specs.Tree.{declaration, kind}
use Rattle.wesl_tree_syntax.specs.View.{kind_tree}
use Rattle.wesl_scope_spans.proofs.Plain.{kind_plain}
use Rattle.wesl_scope_spans.proofs.Steps.{beside, beyond, inside, met}
use Rattle.wesl_scope_spans.proofs.statements.in_declaration.Goals as goal

pub returns : goal.returns
returns c =
    let d = c.args.declaration.now in
    let s = c.args.round in
    inside (kind declaration) refl (beside (c.in_attributes.ensures s) (beyond (kind_tree d.kind) (kind_plain s d.kind) (met c.meet.ensures (beside c.in_optional_type.ensures (c.in_optional_node.ensures s)))))
