use Rattle.std.proofs.Common.{arith}
use Rattle.wesl_mangle_forms.proofs.Places.{number-large}
use Rattle.wesl_mangle_forms.proofs.unescape.number_up_to.Goals as goal

pub returns-in_default-2 : goal.returns-in_default-2
returns-in_default-2 c = number-large c.args.piece.now c.in_default.field-0 c.args.most (omega arith) c.in_default.ensures.value.0
