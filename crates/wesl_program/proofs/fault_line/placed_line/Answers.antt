use Rattle.std.proofs.Common.{ap, ◌∙◌}
use Rattle.serde_json.specs.Written.{has_float}
use Rattle.wesl_program.specs.Fault.{fault_of}
use Rattle.wesl_program.specs.Told.{where_told}
use Rattle.wesl_program.proofs.Texts.{told-whole}
use Rattle.wesl_program.proofs.fault_line.placed_line.Goals as goal

pub text_line-requires : goal.text_line-requires
text_line-requires c = ap has_float c.in_ok-value.ensures ∙ told-whole (fault_of c.args.error.now) (where_told c.args.place)
