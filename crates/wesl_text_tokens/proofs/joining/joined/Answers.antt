use Rattle.wesl_text_tokens.proofs.SymbolTexts.{no_join, no_last}
use Rattle.wesl_text_tokens.proofs.joining.joined.Goals as goal

pub returns-in_default : goal.returns-in_default
returns-in_default c =
    let n = c.in_default in
    no_join c.args.first c.args.second (no_last c.args.second n.not-Less n.not-Greater n.not-Colon n.not-Equal n.not-Plus n.not-Minus n.not-And n.not-Or n.not-LessEqual n.not-GreaterEqual)
