use Rattle.std.proofs.Common.{rules}
use Rattle.wesl_validate_builtins.proofs.types.BuiltinTypeBuiltinIdent.builtin_ident.Goals as goal

pub returns-in-Mat-Two-Four : goal.returns-in-Mat-Two-Four
returns-in-Mat-Two-Four c = search rules
