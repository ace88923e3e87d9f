use Rattle.std.proofs.Common.{codes, refl, sym}
use Rattle.wesl_tree_syntax.specs.Tree.{discard, before, end}
use Rattle.wesl_tree_syntax.specs.View.{attributes_tree}
use Rattle.wesl_text_tokens.specs.declared.symbol.Symbol.TheVariants as is
use Rattle.wesl_text_form.specs.Productions.{attrs, nothing, says, sym as sign}
use Rattle.wesl_text_read.proofs.Expressions.{viewed}
use Rattle.wesl_text_read_simple.proofs.Nodes.{statement_read}
use Rattle.wesl_text_read_simple.proofs.plain.read_discard.Goals as goal
use Rattle.wesl_tree_syntax.proofs.Views.{view_discard}

pub returns : goal.returns
returns c =
    viewed _ _ (sym (view_discard c.one_word-attributes.result))
    (statement_read discard (attrs (says (codes "discard") (sign is.Semicolon nothing))) (before (attributes_tree c.one_word-attributes.result) end) refl (λ f. refl) (λ ts. refl) c.requires c.one_word-attributes.ensures)
