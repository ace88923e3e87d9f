use Rattle.wesl_link_symbols.specs.Index.{bound_of}
use Rattle.wesl_link_symbols.proofs.Indexing.{chains_next, last_of}
use Rattle.wesl_link_symbols.proofs.table.tie_imports.Goals as goal

pub loop-index-preserved : goal.loop-index-preserved
loop-index-preserved c =
    let last = last_of bound_of c.args.imports.now c.loop-index.index _ _ _ c.value_at.result c.loop-index.invariant c.value_at.ensures.found c.value_at.ensures.none in
    chains_next bound_of c.args.imports.now c.loop-index.index _ c.value_at.result _ _ _ _ c.loop-index-test.true c.loop-index.invariant last c.in_ok-put.ensures.puts c.in_ok-push.ensures.items
