use Rattle.std.proofs.Common.{◌≡◌, ℕ, true, false, subst, rules}
use Rattle.wesl_tree_syntax.specs.Tree.{before, end}
use Rattle.wesl_tree_syntax.specs.View.{expression_tree}
use Rattle.wesl_text_tokens.specs.declared.symbol.Symbol.TheVariants as is
use Rattle.wesl_text_form.specs.Productions.{an_expression, nothing, own}
use Rattle.wesl_text_reading.specs.Reading.{any, at_level}
use Rattle.wesl_text_read.specs.First.{begins_next}
use Rattle.wesl_text_read.specs.Leads.{Reads, ahead}
use Rattle.wesl_text_read.proofs.Attributes.{size_row}
use Rattle.wesl_text_read.proofs.Rows.{may_not, may_there, row_ends, row_own, row_sign}
use Rattle.wesl_text_read.proofs.reader.Reader.next_operand.Goals as goal

pub returns-then-not-begins_next : goal.returns-then-not-begins_next
returns-then-not-begins_next c =
    let first : begins_next (ahead c.args.self.now) ≡ false = search rules in
    may_not c.args.self.now.levels size_row first

pub returns : goal.returns
returns c =
    let first : begins_next (ahead c.args.self.now) ≡ true = search rules in
    let n = c.args.self.now.levels in
    let tree = expression_tree c.expression.result in
    let here : Reads (at_level n any an_expression) tree c.skip_sign.new.self c.expression.new.self = subst (λ (l : ℕ). Reads (at_level l any an_expression) tree c.skip_sign.new.self c.expression.new.self) c.skip_sign.ensures.levels c.expression.ensures in
    may_there n size_row (before tree end) first
    (row_sign n is.Comma (own an_expression nothing) (before tree end) c.skip_sign.ensures
    (row_own n an_expression nothing tree end here (row_ends n)))
