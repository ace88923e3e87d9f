use Rattle.std.proofs.Common.{[]}
use Rattle.wesl_validate_builtins.proofs.Strings.{none_kept}
use Rattle.wesl_validate_builtins.proofs.builtins.Builtins.defined_names.Goals as goal

pub returns : goal.returns
returns c = c.in_ok-keep_all.ensures [] (none_kept c.new-kept.result c.new-kept.ensures.empty)
