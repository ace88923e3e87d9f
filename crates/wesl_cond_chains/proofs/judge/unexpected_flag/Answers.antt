use Rattle.std.proofs.Common.{sym, ◌∙◌}
use Rattle.wesl_cond_chains.specs.FormulaFaults.{unexpected_flag}
use Rattle.wesl_cond_chains.proofs.Refused.{one_lacks, one_refused}
use Rattle.wesl_cond_chains.proofs.judge.unexpected_flag.Goals as goal

pub returns-in-Ok : goal.returns-in-Ok
returns-in-Ok c = λ names i e. one_refused names _ c.args.span (unexpected_flag i) c.at.result c.at.ensures (c.in-Ok.ensures.ok ∙ sym e)

pub returns-in-Err : goal.returns-in-Err
returns-in-Err c = λ names i e. one_lacks names c.args.span (unexpected_flag i) c.at-in-Err.result c.at-in-Err.ensures
