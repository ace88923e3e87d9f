use Rattle.std.proofs.Common.{rules}
use Rattle.wesl_cond_features.proofs.features.Features.answer.Goals as goal

pub returns-in-None : goal.returns-in-None
returns-in-None c = search rules
