use Rattle.std.proofs.Common.{is_some, ap, ◌∙◌}
use Rattle.wesl_text_tokens.specs.Symbols.{symbol_text}
use Rattle.wesl_text_tokens.proofs.Signs.{apart, more_held, together}
use Rattle.wesl_text_tokens.proofs.joining.added.Goals as goal

pub returns-then-pieces-index-clause-joins : goal.returns-then-pieces-index-clause-joins
returns-then-pieces-index-clause-joins c = apart c.args.pieces.now c.args.index c.args.held c.in-Some.before _ (symbol_text c.args.symbol) c.in-Some.is c.requires.held c.requires.within c.if-pieces-index.true

pub returns-in-Some-joined-clause-joins : goal.returns-in-Some-joined-clause-joins
returns-in-Some-joined-clause-joins c = ap is_some c.in-Some-joined.ensures ∙ together c.args.pieces.now c.args.index c.args.held c.in-Some.before _ (symbol_text c.args.symbol) c.in-Some.is c.requires.held c.requires.within c.if-pieces-index.false

pub returns-in-Some-joined-clause-more : goal.returns-in-Some-joined-clause-more
returns-in-Some-joined-clause-more c = more_held c.args.index c.args.held c.in-Some.before c.args.symbol c.in-Some-joined.both c.in-Some.is c.requires.held c.in-Some-joined.ensures
