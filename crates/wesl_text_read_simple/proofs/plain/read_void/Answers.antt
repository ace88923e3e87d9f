use Rattle.std.proofs.Common.{refl, sym}
use Rattle.wesl_tree_syntax.specs.Tree.{end, void}
use Rattle.wesl_text_tokens.specs.declared.symbol.Symbol.TheVariants as is
use Rattle.wesl_text_form.specs.Productions.{nothing, sym as sign}
use Rattle.wesl_text_read.proofs.Expressions.{viewed}
use Rattle.wesl_text_read_simple.proofs.Nodes.{statement_read}
use Rattle.wesl_text_read_simple.proofs.Parted.{part_ends, part_sign}
use Rattle.wesl_text_read_simple.proofs.plain.read_void.Goals as goal
use Rattle.wesl_tree_syntax.proofs.Views.{view_void}

pub returns : goal.returns
returns c = viewed _ _ (sym view_void) (statement_read void (sign is.Semicolon nothing) end refl (λ f. refl) (λ ts. refl) c.requires (part_sign nothing is.Semicolon end c.skip_sign.ensures part_ends))
