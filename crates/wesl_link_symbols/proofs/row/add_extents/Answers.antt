use Rattle.wesl_link_symbols.proofs.Runs.{extents_start, extents_more}
use Rattle.wesl_link_symbols.proofs.row.add_extents.Goals as goal

pub loop-index-init : goal.loop-index-init
loop-index-init c = extents_start _ _ c.requires

pub loop-index-preserved : goal.loop-index-preserved
loop-index-preserved c =
    extents_more c.args.imports.now c.loop-index.index _ c.value_at.result c.widened-extent.result _ _ c.loop-index-test.true c.loop-index.invariant c.value_at.ensures.found c.value_at.ensures.none c.widened-extent.ensures
    c.in_ok-put.ensures.puts
