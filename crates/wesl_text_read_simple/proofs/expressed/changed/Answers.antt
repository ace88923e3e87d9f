use Rattle.std.proofs.Common.{◌∷◌, [], subst, sym}
use Rattle.wesl_tree_syntax.specs.Tree.{branch, decrement, increment}
use Rattle.wesl_tree_syntax.specs.View.{attributes_tree, expression_tree, statement_view}
use Rattle.wesl_tree_syntax.specs.declared.statement.Statement.{Assignment, Decrement, Increment}
use Rattle.wesl_text_tokens.specs.Tokens.{symbol}
use Rattle.wesl_text_tokens.specs.declared.symbol.Symbol.TheVariants as is
use Rattle.wesl_text_form.specs.Slots.{behind_token}
use Rattle.wesl_text_read.specs.Leads.{Skips}
use Rattle.wesl_text_read.proofs.Expressions.{viewed}
use Rattle.wesl_text_read_simple.specs.declared.expressed.Change.{Change}
use Rattle.wesl_text_read_simple.proofs.Parts.{Changes, assigned_read, counted_read}
use Rattle.wesl_text_read_simple.proofs.expressed.changed.Goals as goal
use Rattle.wesl_tree_syntax.proofs.Views.{view_assignment, view_decrement, view_increment}

pub returns-in-Increment : goal.returns-in-Increment
returns-in-Increment c =
    let a = attributes_tree c.args.attributes in
    let e = expression_tree c.args.expression in
    let t = branch increment (a ∷ e ∷ []) in
    subst (λ (z : Change). Changes z a e (statement_view (Increment c.args.attributes c.args.expression)) c.args.reader.now c.skip_sign.new.self) (sym c.in-Increment.is)
    (viewed _ _ (sym (view_increment c.args.attributes c.args.expression))
    (counted_read a e c.may_change.result c.may_change.ensures c.wrong_if.ensures.refuses c.wrong_if.ensures.same t is.PlusPlus c.skip_sign.ensures))

pub returns-in-Decrement : goal.returns-in-Decrement
returns-in-Decrement c =
    let a = attributes_tree c.args.attributes in
    let e = expression_tree c.args.expression in
    let t = branch decrement (a ∷ e ∷ []) in
    subst (λ (z : Change). Changes z a e (statement_view (Decrement c.args.attributes c.args.expression)) c.args.reader.now c.skip_sign-in-Decrement.new.self) (sym c.in-Decrement.is)
    (viewed _ _ (sym (view_decrement c.args.attributes c.args.expression))
    (counted_read a e c.may_change.result c.may_change.ensures c.wrong_if.ensures.refuses c.wrong_if.ensures.same t is.MinusMinus c.skip_sign-in-Decrement.ensures))

pub returns-in-Assignment : goal.returns-in-Assignment
returns-in-Assignment c =
    let a = attributes_tree c.args.attributes in
    let e = expression_tree c.args.expression in
    let o = c.in-Assignment.operator in
    let skip = subst (λ x. Skips (behind_token (symbol x)) c.wrong_if.new.self c.skip_sign-in-Assignment.new.self) c.assignment_sign.ensures c.skip_sign-in-Assignment.ensures in
    subst (λ (z : Change). Changes z a e (statement_view (Assignment c.args.attributes o c.args.expression c.expression-rhs.result)) c.args.reader.now c.expression-rhs.new.self) (sym c.in-Assignment.is)
    (viewed _ _ (sym (view_assignment c.args.attributes o c.args.expression c.expression-rhs.result))
    (assigned_read a e c.may_change.result c.may_change.ensures c.wrong_if.ensures.refuses c.wrong_if.ensures.same o (expression_tree c.expression-rhs.result) skip c.expression-rhs.ensures))
