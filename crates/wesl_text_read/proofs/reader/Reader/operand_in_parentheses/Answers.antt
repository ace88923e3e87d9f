use Rattle.std.proofs.Common.{ℕ, subst}
use Rattle.wesl_tree_syntax.specs.Tree.{before, end}
use Rattle.wesl_tree_syntax.specs.View.{expression_tree}
use Rattle.wesl_text_tokens.specs.declared.symbol.Symbol.TheVariants as is
use Rattle.wesl_text_form.specs.Productions.{an_expression, may_sym, nothing, own, sym as sign}
use Rattle.wesl_text_reading.specs.Reading.{any, at_level}
use Rattle.wesl_text_read.specs.Leads.{Reads}
use Rattle.wesl_text_read.proofs.Rows.{row_ends, row_may, row_own, row_sign}
use Rattle.wesl_text_read.proofs.WordLists.{may_comma}
use Rattle.wesl_text_read.proofs.reader.Reader.operand_in_parentheses.Goals as goal

pub returns : goal.returns
returns c =
    let n = c.args.self.now.levels in
    let tree = expression_tree c.expression-operand.result in
    let here : Reads (at_level n any an_expression) tree c.skip_sign.new.self c.expression-operand.new.self = subst (λ (l : ℕ). Reads (at_level l any an_expression) tree c.skip_sign.new.self c.expression-operand.new.self) c.skip_sign.ensures.levels c.expression-operand.ensures in
    row_sign n is.ParenLeft (own an_expression (may_sym is.Comma (sign is.ParenRight nothing))) (before tree end) c.skip_sign.ensures
    (row_own n an_expression (may_sym is.Comma (sign is.ParenRight nothing)) tree end here
    (row_may n is.Comma (sign is.ParenRight nothing) end (may_comma c.skip_comma.result c.skip_comma.ensures)
    (row_sign n is.ParenRight nothing end c.skip_sign-2.ensures (row_ends n))))
