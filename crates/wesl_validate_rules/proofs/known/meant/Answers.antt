use Rattle.std.proofs.Common.{◌≡◌, rules}
use Rattle.wesl_validate_builtins.specs.Builtins.{builtins_view}
use Rattle.wesl_validate_rules.specs.Known.{is_meant}
use Rattle.wesl_validate_rules.proofs.known.meant.Goals as goal

pub loop-i-preserved : goal.loop-i-preserved
loop-i-preserved c =
    let is : c.is_meant.result ≡ is_meant (builtins_view c.args.builtins.now) c.name.result.now = c.is_meant.ensures (builtins_view c.args.builtins.now) c.in_ok-defined.ensures in
    search rules
