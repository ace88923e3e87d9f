use Rattle.std.proofs.Common.{◌≡◌, ℕ, ◌∙◌, subst}
use Rattle.wesl_tree_syntax.specs.Tree.{before, end}
use Rattle.wesl_tree_syntax.specs.View.{expression_tree, optional}
use Rattle.wesl_text_tokens.specs.declared.symbol.Symbol.TheVariants as is
use Rattle.wesl_text_form.specs.Productions.{an_expression, may_sym, nothing, own, optional as optional_row, sym as sign}
use Rattle.wesl_text_reading.specs.Reading.{any, at_level}
use Rattle.wesl_text_read.specs.Leads.{Reads}
use Rattle.wesl_text_read.specs.Parts.{may_at}
use Rattle.wesl_text_read.proofs.Attributes.{size_row, workgroup_read}
use Rattle.wesl_text_read.proofs.Rows.{row_ends, row_may, row_optional, row_own, row_sign}
use Rattle.wesl_text_read.proofs.WordLists.{may_comma}
use Rattle.wesl_text_read.proofs.reader.Reader.workgroup_size.Goals as goal

pub returns : goal.returns
returns c =
    let n = c.args.self.now.levels in
    let x = expression_tree c.expression-x.result in
    let y = optional expression_tree c.next_operand-y.result in
    let z = optional expression_tree c.next_operand-z.result in
    let last = may_sym is.Comma (sign is.ParenRight nothing) in
    let first : c.expression-x.new.self.levels ≡ n = c.expression-x.ensures.levels ∙ c.skip_sign.ensures.levels in
    let second : c.next_operand-y.new.self.levels ≡ n = c.next_operand-y.ensures.levels ∙ first in
    let read_x : Reads (at_level n any an_expression) x c.skip_sign.new.self c.expression-x.new.self = subst (λ (l : ℕ). Reads (at_level l any an_expression) x c.skip_sign.new.self c.expression-x.new.self) c.skip_sign.ensures.levels c.expression-x.ensures in
    let read_y : Reads (may_at n size_row) y c.expression-x.new.self c.next_operand-y.new.self = subst (λ (l : ℕ). Reads (may_at l size_row) y c.expression-x.new.self c.next_operand-y.new.self) first c.next_operand-y.ensures in
    let read_z : Reads (may_at n size_row) z c.next_operand-y.new.self c.next_operand-z.new.self = subst (λ (l : ℕ). Reads (may_at l size_row) z c.next_operand-y.new.self c.next_operand-z.new.self) second c.next_operand-z.ensures in
    workgroup_read n (before x (before y (before z end)))
    (row_sign n is.ParenLeft (own an_expression (optional_row size_row (optional_row size_row last))) (before x (before y (before z end))) c.skip_sign.ensures
    (row_own n an_expression (optional_row size_row (optional_row size_row last)) x (before y (before z end)) read_x
    (row_optional n size_row (optional_row size_row last) y (before z end) read_y
    (row_optional n size_row last z end read_z
    (row_may n is.Comma (sign is.ParenRight nothing) end (may_comma c.skip_comma.result c.skip_comma.ensures)
    (row_sign n is.ParenRight nothing end c.skip_sign-2.ensures (row_ends n)))))))
