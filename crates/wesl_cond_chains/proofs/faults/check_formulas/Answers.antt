use Rattle.std.proofs.Common.{arith}
use Rattle.wesl_cond_chains.specs.Nodes.{replies}
use Rattle.wesl_cond_chains.proofs.Begun.{formulas_more, formulas_refused, formulas_end}
use Rattle.wesl_cond_chains.proofs.faults.check_formulas.Goals as goal

pub returns-in-Err : goal.returns-in-Err
returns-in-Err c = formulas_refused (replies c.args.names.now c.args.features.now) c.args.names.now c.args.attributes.now c.loop-attribute.attribute-index c.attribute-item.result c.in-Err.fault (omega arith) c.attribute-item.is c.loop-attribute.invariant c.in-Err.ensures

pub loop-attribute-preserved : goal.loop-attribute-preserved
loop-attribute-preserved c = formulas_more (replies c.args.names.now c.args.features.now) c.args.attributes.now c.loop-attribute.attribute-index c.attribute-item.result (omega arith) c.attribute-item.is c.loop-attribute.invariant c.in-Ok.ensures

pub returns : goal.returns
returns c = formulas_end (replies c.args.names.now c.args.features.now) c.args.attributes.now c.loop-attribute.attribute-index (omega arith) c.loop-attribute.invariant
