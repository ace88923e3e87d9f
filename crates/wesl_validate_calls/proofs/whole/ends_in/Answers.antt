use Rattle.std.proofs.Common.{subst}
use Rattle.wesl_validate_builtins.specs.Builtins.{builtins_view}
use Rattle.wesl_validate_calls.specs.Ends.{AreEnds}
use Rattle.wesl_validate_calls.specs.Views.{ends_view, tables_view}
use Rattle.wesl_validate_calls.proofs.whole.ends_in.Goals as goal

pub returns : goal.returns
returns c = subst (λ ns. AreEnds (tables_view c.args.tables.now) ns (builtins_view c.args.callables.now.builtins.now) (ends_view c.in_ok-ends.ends)) c.names.ensures.names c.in_ok-ends.ensures
