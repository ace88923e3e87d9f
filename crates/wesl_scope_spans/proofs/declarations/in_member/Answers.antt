use Rattle.std.proofs.Common.{refl}
use Rattle.wesl_tree_syntax.specs.Tree.{kind, member}
use Rattle.wesl_tree_syntax.specs.View.{text_tree}
use Rattle.wesl_scope_spans.proofs.Steps.{beside, beyond, inside}
use Rattle.wesl_scope_spans.proofs.declarations.in_member.Goals as goal

pub returns : goal.returns
returns c = inside (kind member) refl (beside (c.in_attributes.ensures c.args.round) (beyond (text_tree c.args.member.now.name) refl c.in_type.ensures))
