use Rattle.std.proofs.Common.{arith, refl}
use Rattle.wesl_scope_occurrences.proofs.Showing.{begin_collects, pushed}
use Rattle.wesl_scope_occurrences.proofs.collector.CollectorHandler.begin.Goals as goal

pub returns : goal.returns
returns c =
    begin_collects c.args.self.now _ c.len.result refl refl refl (omega (arith, c.len.ensures, c.args.self.now.found.ok.0))
    (λ k. pushed c.push.result c.args.self.now.is_refused c.is_err.result _ _ _ c.is_err.ensures.value c.push.ensures.items k)
