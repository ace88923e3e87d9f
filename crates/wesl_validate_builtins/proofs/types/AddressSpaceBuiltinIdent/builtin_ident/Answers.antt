use Rattle.std.proofs.Common.{rules}
use Rattle.wesl_validate_builtins.proofs.types.AddressSpaceBuiltinIdent.builtin_ident.Goals as goal

pub returns-in-Handle : goal.returns-in-Handle
returns-in-Handle c = search rules
