use Rattle.std.proofs.Common.{rules}
use Rattle.wesl_text_tokens.proofs.lists.Lists.sign.Goals as goal

pub returns-in-Semicolon-clause-known : goal.returns-in-Semicolon-clause-known
returns-in-Semicolon-clause-known c = search rules
