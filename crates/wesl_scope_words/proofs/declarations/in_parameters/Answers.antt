use Rattle.std.proofs.Common.{arith, refl}
use Rattle.wesl_tree_syntax.specs.Tree.{kind, parameter}
use Rattle.wesl_tree_syntax.specs.View.{attributes_tree, type_view}
use Rattle.wesl_scope_words.proofs.Attributes.{attributes_quiet}
use Rattle.wesl_scope_words.proofs.Expressions.{type_quiet}
use Rattle.wesl_scope_words.proofs.Steps.{alone_quiet, beyond, first, inside, walked_all, walked_next, walked_none}
use Rattle.wesl_scope_words.proofs.declarations.in_parameters.Goals as goal

pub loop-parameter-init : goal.loop-parameter-init
loop-parameter-init c = walked_none

pub loop-parameter-preserved : goal.loop-parameter-preserved
loop-parameter-preserved c =
    let p = c._parameter-item.result in
    walked_next p (omega arith) c._parameter-item.is c.loop-parameter.invariant (inside (kind parameter) refl (beyond (attributes_tree p.attributes) (attributes_quiet p.attributes) (first c.name.ensures (alone_quiet (type_view p.ty) (type_quiet p.ty)))))

pub returns : goal.returns
returns c = walked_all (omega arith) c.deref-parameter-items.ensures.value c.loop-parameter.invariant
