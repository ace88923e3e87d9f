use Rattle.std.proofs.Common.{codes, refl, sym}
use Rattle.wesl_tree_syntax.specs.Tree.{attributes, before, end, return}
use Rattle.wesl_tree_syntax.specs.View.{attributes_tree, expression_tree, optional as option_view}
use Rattle.wesl_text_tokens.specs.declared.symbol.Symbol.TheVariants as is
use Rattle.wesl_text_form.specs.Productions.{Row, an_attribute, an_expression, attrs, nothing, optional, own, says, sym as sign}
use Rattle.wesl_text_read.proofs.Expressions.{viewed}
use Rattle.wesl_text_read_simple.proofs.Nodes.{statement_read}
use Rattle.wesl_text_read_simple.proofs.Parted.{part_ends, part_optional, part_run, part_says, part_sign}
use Rattle.wesl_text_read_simple.proofs.plain.read_return.Goals as goal
use Rattle.wesl_tree_syntax.proofs.Views.{view_return}

abbrev value_row : Row
value_row = optional (own an_expression nothing) (sign is.Semicolon nothing)

pub returns : goal.returns
returns c =
    let held = attributes_tree c.attributes-attributes.result in
    let tree = option_view expression_tree c.optional_expression-expression.result in
    viewed _ _ (sym (view_return c.attributes-attributes.result c.optional_expression-expression.result))
    (statement_read return (attrs (says (codes "return") value_row)) (before held (before tree end)) refl (λ f. refl) (λ ts. refl) c.requires
    (part_run (says (codes "return") value_row) attributes an_attribute held (before tree end) c.attributes-attributes.ensures
    (part_says value_row (codes "return") (before tree end) c.skip_word.ensures
    (part_optional (sign is.Semicolon nothing) (own an_expression nothing) tree end c.optional_expression-expression.ensures
    (part_sign nothing is.Semicolon end c.skip_sign.ensures part_ends)))))
