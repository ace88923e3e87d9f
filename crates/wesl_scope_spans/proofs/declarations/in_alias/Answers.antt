use Rattle.std.proofs.Common.{refl}
use Rattle.wesl_tree_syntax.specs.Tree.{kind, type_alias}
use Rattle.wesl_scope_spans.proofs.Steps.{beside, inside, met}
use Rattle.wesl_scope_spans.proofs.declarations.in_alias.Goals as goal

pub returns : goal.returns
returns c = inside (kind type_alias) refl (beside (c.in_attributes.ensures c.args.round) (met c.meet.ensures c.in_type.ensures))
