use Rattle.std.proofs.Common.{refl, sym, true, ◌∙◌}
use Rattle.wesl_cond_chains.specs.FormulaFaults.{unexpected_flag}
use Rattle.wesl_cond_faults.proofs.Telling.{adds_refused}
use Rattle.wesl_cond_faults.proofs.told.Told.tell_unexpected.Goals as goal

pub returns-in-Ok : goal.returns-in-Ok
returns-in-Ok c = λ names i e. c.tell.ensures names (unexpected_flag i) (c.in-Ok.ensures.ok ∙ sym e)

pub returns-in-Err : goal.returns-in-Err
returns-in-Err c = λ names i e. adds_refused names _ c.args.self.now (record c.args.self.now { is_refused = true }) refl
