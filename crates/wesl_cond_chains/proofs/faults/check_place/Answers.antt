use Rattle.wesl_cond_chains.specs.Nodes.{attributes_forest}
use Rattle.wesl_cond_chains.proofs.Places.{none_refused, orphan_refused, several_refused}
use Rattle.wesl_cond_chains.proofs.faults.check_place.Goals as goal

pub returns-then-has_several : goal.returns-then-has_several
returns-then-has_several c = λ names.
    several_refused names c.args.span c.args.opened (attributes_forest c.args.attributes.now) c.has_several.result c.at.result c.has_several.ensures c.if-has_several.true c.at.ensures

pub returns-then-is_orphan : goal.returns-then-is_orphan
returns-then-is_orphan c = λ names.
    orphan_refused names c.args.span c.args.opened (attributes_forest c.args.attributes.now) c.has_several.result c.is_orphan.result c.at-then-is_orphan.result c.has_several.ensures c.if-has_several.false c.is_orphan.ensures c.if-is_orphan.true c.at-then-is_orphan.ensures

pub returns : goal.returns
returns c = λ names.
    none_refused names c.args.span c.args.opened (attributes_forest c.args.attributes.now) c.has_several.result c.is_orphan.result c.has_several.ensures c.if-has_several.false c.is_orphan.ensures c.if-is_orphan.false
