use Rattle.std.proofs.Common.{codes}
use Rattle.wesl_tree_syntax.specs.Tree.{attributes, before, end}
use Rattle.wesl_tree_syntax.specs.View.{attributes_tree, expression_tree}
use Rattle.wesl_text_tokens.specs.declared.symbol.Symbol.TheVariants as is
use Rattle.wesl_text_form.specs.Productions.{an_attribute, an_expression, nothing, own, says, sym as sign}
use Rattle.wesl_text_read_simple.proofs.Parted.{part_ends, part_own, part_run, part_says, part_sign}
use Rattle.wesl_text_read_simple.proofs.assertion.read_assertion.Goals as goal

pub returns : goal.returns
returns c =
    let held = attributes_tree c.attributes-attributes.result in
    let tree = expression_tree c.expression-expression.result in
    part_run (says (codes "const_assert") (own an_expression (sign is.Semicolon nothing))) attributes an_attribute held (before tree end) c.attributes-attributes.ensures
    (part_says (own an_expression (sign is.Semicolon nothing)) (codes "const_assert") (before tree end) c.skip_word.ensures
    (part_own (sign is.Semicolon nothing) an_expression tree end c.expression-expression.ensures
    (part_sign nothing is.Semicolon end c.skip_sign.ensures part_ends)))
