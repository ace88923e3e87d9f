use Rattle.std.proofs.Common.{refl}
use Rattle.wesl_tree_syntax.specs.Tree.{end, void}
use Rattle.wesl_text_tokens.specs.declared.symbol.Symbol.TheVariants as is
use Rattle.wesl_text_form.specs.Productions.{a_bare_declaration, nothing, sym as sign}
use Rattle.wesl_text_read_imports.specs.Nodes.{kind_at}
use Rattle.wesl_text_read_imports.proofs.Parts.{node_reads, reads_end, reads_sign}
use Rattle.wesl_text_read_unit.proofs.declaration.void.Goals as goal

pub returns : goal.returns
returns c = node_reads (λ n. kind_at n a_bare_declaration void) void (sign is.Semicolon nothing) end (λ n ts. refl) (reads_sign is.Semicolon nothing end c.skip_sign.ensures reads_end)
