use Rattle.std.proofs.Common.{refl, codes}
use Rattle.wesl_tree_syntax.specs.Tree.{before, break_if, end}
use Rattle.wesl_tree_syntax.specs.View.{attributes_tree, expression_tree}
use Rattle.wesl_text_tokens.specs.declared.symbol.Symbol.TheVariants as is
use Rattle.wesl_text_form.specs.Productions.{a_break_if, an_expression, attrs, nothing, own, says, sym as sign}
use Rattle.wesl_text_read_statements.proofs.Along.{RowRead, along_ends, along_own, along_run, along_says, along_sign, node_read}
use Rattle.wesl_text_read_statements.proofs.part.break_if.Goals as goal

pub returns : goal.returns
returns c =
    let a = attributes_tree c.attributes-attributes.result in
    let x = expression_tree c.expression-expression.result in
    let row : RowRead c.args.reader.now.levels (attrs (says (codes "break") (says (codes "if") (own an_expression (sign is.Semicolon nothing))))) (before a (before x end)) c.args.reader.now c.skip_sign.new.self =
    along_run a refl c.attributes-attributes.ensures (λ l.
    along_says l c.skip_word.ensures (λ l.
    along_says l c.skip_word-2.ensures (λ l.
    along_own x l c.expression-expression.ensures (λ l.
    along_sign l c.skip_sign.ensures (λ l. along_ends))))) in
    node_read a_break_if break_if (λ ts. refl) row
