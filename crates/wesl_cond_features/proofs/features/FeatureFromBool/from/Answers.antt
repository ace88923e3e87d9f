use Rattle.std.proofs.Common.{rules}
use Rattle.wesl_cond_features.proofs.features.FeatureFromBool.from.Goals as goal

pub returns-then-flag : goal.returns-then-flag
returns-then-flag c = search rules
