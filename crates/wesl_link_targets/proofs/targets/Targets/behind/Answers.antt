use Rattle.std.proofs.Common.{◌∙◌, arith, sym}
use Rattle.wesl_link_targets.proofs.Passed.{run_unsought}
use Rattle.wesl_link_targets.proofs.targets.Targets.behind.Goals as goal

pub returns-then-is_met_by-clause-none : goal.returns-then-is_met_by-clause-none
returns-then-is_met_by-clause-none c k x low high at = absurd (omega (arith, low, high))

pub returns-clause-ahead : goal.returns-clause-ahead
returns-clause-ahead c = c.end_of.ensures.0

pub returns-clause-none : goal.returns-clause-none
returns-clause-none c =
    run_unsought c.args.sought.now c.args.self.now.row.imports.items c.args.index c.end_of.result c.import_at.result c.import_at.ensures c.end_of.ensures (sym c.is_met_by.ensures ∙ c.if-is_met_by.false)
