use Rattle.wesl_cond_chains.specs.Nodes.{replies}
use Rattle.wesl_cond_faults.proofs.Formulas.{adds_operands}
use Rattle.wesl_cond_faults.proofs.formula.+telling.Goals as goal

pub returns-in-ShortCircuitAnd : goal.returns-in-ShortCircuitAnd
returns-in-ShortCircuitAnd t c =
    let names = c.args.names.now in
    let h = c.in-Binary in
    adds_operands names (replies names c.args.features.now) c.args.formula.now.span c.args.formula.now.node h.operator h.left h.right c.deref-in-ShortCircuitAnd.result.now c.deref-in-ShortCircuitAnd-2.result.now c.args.told.now c.tell_formula-in-ShortCircuitAnd.new.told c.tell_formula-in-ShortCircuitAnd-2.new.told
    h.is c.in-ShortCircuitAnd.is c.deref-in-ShortCircuitAnd.ensures c.deref-in-ShortCircuitAnd-2.ensures c.tell_formula-in-ShortCircuitAnd.ensures c.tell_formula-in-ShortCircuitAnd-2.ensures
