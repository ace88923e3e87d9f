use Rattle.wesl_scope_spans.proofs.Counted.{in_step}
use Rattle.wesl_scope_spans.proofs.Innermost.{innermost}
use Rattle.wesl_scope_spans.proofs.Nowhere.{nowhere_all}
use Rattle.wesl_scope_spans.proofs.laws.law_of_spans.Goals as goal

pub returns-clause-in_step : goal.returns-clause-in_step
returns-clause-in_step c = in_step

pub returns-clause-innermost : goal.returns-clause-innermost
returns-clause-innermost c = innermost

pub returns-clause-nowhere : goal.returns-clause-nowhere
returns-clause-nowhere c = nowhere_all
