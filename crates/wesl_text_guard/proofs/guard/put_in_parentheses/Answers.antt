use Rattle.std.proofs.Common.{ap, ◌∙◌}
use Rattle.std.specs.Box.{with_value}
use Rattle.wesl_tree_syntax.specs.View.{expression_tree}
use Rattle.wesl_tree_syntax.specs.declared.expression.Expression as made
use Rattle.wesl_tree_syntax.specs.declared.expression.Expression.{Expression}
use Rattle.wesl_tree_syntax.specs.declared.span.Spanned.{Spanned}
use Rattle.wesl_text_guard.proofs.Operands.{put_in}
use Rattle.wesl_text_guard.proofs.guard.put_in_parentheses.Goals as goal

pub returns : goal.returns
returns c =
    let put : Expression → Spanned Expression → Spanned Expression = λ x b. record { node = made.Parenthesized (with_value c.args.inner (record { node = x; span = b.span })); span = c.args.node.now.span } in
    ap (λ x. expression_tree (put x c.deref_mut.result.now)) c.swap.ensures.x_after
    ∙ (ap (λ b. expression_tree (put c.args.node.now.node b)) c.deref_mut.ensures.value ∙ put_in c.args.inner c.args.node.now c.requires.span)
