use Rattle.std.proofs.Common.{ap, map, ◌∙◌}
use Rattle.serde_json.specs.Written.{has_float}
use Rattle.wesl_program.specs.Fault.{fault}
use Rattle.wesl_program.specs.Places.{nowhere}
use Rattle.wesl_program.proofs.Texts.{told-whole}
use Rattle.wesl_program.proofs.fault_line.named_line.Goals as goal

pub text_line-requires : goal.text_line-requires
text_line-requires c = ap has_float c.in_ok-value.ensures ∙ told-whole (fault c.args.name.now (map (λ t. t.now) c.args.arguments.now)) nowhere
