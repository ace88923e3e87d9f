use Rattle.std.proofs.Common.{ap, unwrap_or}
use Rattle.wesl_program_bundle.proofs.Flags.{answers-listed}
use Rattle.wesl_program_bundle.proofs.features.law_of_answers.Goals as goal

pub returns : goal.returns
returns c = λ name. ap (λ o. unwrap_or o c.args.features.now.default) (answers-listed name c.args.features.now.flags.entries)
