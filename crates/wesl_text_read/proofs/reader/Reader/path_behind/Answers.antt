use Rattle.std.proofs.Common.{false, ◌∷◌, sym, subst}
use Rattle.wesl_tree_names.specs.Path.{path_view}
use Rattle.wesl_tree_names.specs.declared.path.ModulePath.{ModulePath}
use Rattle.wesl_tree_syntax.specs.Tree.{path}
use Rattle.wesl_text_tokens.specs.Tokens.{symbol}
use Rattle.wesl_text_tokens.specs.declared.symbol.Symbol.TheVariants as is
use Rattle.wesl_text_reading.specs.Leaves.{path_behind}
use Rattle.wesl_text_read.specs.Leads.{ReadsLabel}
use Rattle.wesl_text_read.proofs.Paths.{path_read}
use Rattle.wesl_text_read.proofs.reader.Reader.path_behind.Goals as goal

pub returns : goal.returns
returns c = subst (λ (z : ModulePath). ReadsLabel (λ ts. path_behind false c.args.word.now (symbol is.ColonColon ∷ ts)) (path (path_view z)) c.args.self.now c.steps-components.new.self) (sym c.new.ensures) (path_read c.args.word.now _ _ c.origin-origin.ensures c.steps-components.ensures)
