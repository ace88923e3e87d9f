use Rattle.std.proofs.Common.{[], map, string_bytes}
use Rattle.wesl_validate_builtins.proofs.Strings.{none_kept}
use Rattle.wesl_validate_builtins.proofs.builtins.Builtins.callable_names.Goals as goal

pub returns : goal.returns
returns c = c.in_ok-keep_all-2.ensures (map string_bytes c.args.self.now.functions.items) (c.in_ok-keep_all.ensures [] (none_kept c.new-kept.result c.new-kept.ensures.empty))
