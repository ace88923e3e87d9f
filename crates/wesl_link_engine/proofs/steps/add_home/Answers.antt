use Rattle.std.proofs.Common.{subst}
use Rattle.wesl_link_symbols.specs.Keyed.{Puts}
use Rattle.wesl_link_engine.proofs.Told.{then_on}
use Rattle.wesl_link_engine.proofs.steps.add_home.Goals as goal

pub returns : goal.returns
returns c =
    then_on c.put.result (λ h. (c.table_at.result.now, c.table_at.ensures, subst (λ p. Puts c.args.homes.now.entries p c.args.index c.put.new.map.entries) c.path.ensures h)) c.put.ensures.puts
