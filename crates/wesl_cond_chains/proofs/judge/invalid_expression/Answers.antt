use Rattle.wesl_cond_chains.specs.FormulaFaults.{invalid_expression}
use Rattle.wesl_cond_chains.proofs.Refused.{one_refused}
use Rattle.wesl_cond_chains.proofs.judge.invalid_expression.Goals as goal

pub returns : goal.returns
returns c = λ names. one_refused names _ c.args.span invalid_expression c.at.result c.at.ensures tt
