use Rattle.std.proofs.Common.{[], ap, map, sym}
use Rattle.wesl_cond_chains.specs.Nodes.{attributes_forest}
use Rattle.wesl_cond_faults.proofs.Adding.{adds_none, adds_same}
use Rattle.wesl_cond_faults.proofs.Formulas.{place_none}
use Rattle.wesl_cond_chains.specs.Places.{found_at}
use Rattle.wesl_cond_faults.proofs.attributes.tell_place.Goals as goal

pub returns-else-is_orphan : goal.returns-else-is_orphan
returns-else-is_orphan c = λ names.
    adds_same names [] _ c.args.told.now c.args.told.now
    (sym (ap (map (found_at c.args.span)) (place_none c.args.opened (attributes_forest c.args.attributes.now) c.has_several.result c.is_orphan.result c.has_several.ensures c.if-has_several.false c.is_orphan.ensures c.if-is_orphan.false)))
    (adds_none names c.args.told.now)
