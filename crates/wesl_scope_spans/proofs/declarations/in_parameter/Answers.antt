use Rattle.std.proofs.Common.{refl}
use Rattle.wesl_tree_syntax.specs.Tree.{kind, parameter}
use Rattle.wesl_scope_spans.proofs.Steps.{beside, inside, met}
use Rattle.wesl_scope_spans.proofs.declarations.in_parameter.Goals as goal

pub returns : goal.returns
returns c = inside (kind parameter) refl (beside (c.in_attributes.ensures c.args.round) (met c.meet.ensures c.in_type.ensures))
