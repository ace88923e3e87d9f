use Rattle.std.proofs.Common.{arith}
use Rattle.wesl_cond_chains.specs.Nodes.{replies}
use Rattle.wesl_cond_faults.proofs.Formulas.{formulas_start, formulas_more, formulas_end}
use Rattle.wesl_cond_faults.proofs.attributes.tell_formulas.Goals as goal

pub loop-attribute-init : goal.loop-attribute-init
loop-attribute-init c = formulas_start c.args.names.now (replies c.args.names.now c.args.features.now) c.args.attributes.now c.args.told.now

pub loop-attribute-preserved : goal.loop-attribute-preserved
loop-attribute-preserved c =
    let names = c.args.names.now in
    let l = c.loop-attribute in
    formulas_more names (replies names c.args.features.now) c.args.attributes.now l.attribute-index c.attribute-item.result c.args.told.now l.told c.tell_attribute.new.told (omega arith) c.attribute-item.is l.invariant c.tell_attribute.ensures

pub returns : goal.returns
returns c =
    let names = c.args.names.now in
    let l = c.loop-attribute in
    formulas_end names (replies names c.args.features.now) c.args.attributes.now l.attribute-index c.args.told.now l.told (omega arith) l.invariant
