use Rattle.std.proofs.Common.{◌≡◌, Some, slice_get, refl}
use Rattle.std.proofs.lemmas.Option.{slice_get_read}
use Rattle.wesl_link_symbols.specs.Index.{name_of}
use Rattle.wesl_link_symbols.proofs.Indexing.{chains_more, last_of}
use Rattle.wesl_link_symbols.proofs.table.tie.Goals as goal

pub loop-index-preserved : goal.loop-index-preserved
loop-index-preserved c =
    let at : slice_get c.args.declarations.now c.loop-index.index ≡ Some c.index-declarations-index.result = slice_get_read c.args.declarations.now _ c.loop-index.index c.index-declarations-index.result refl c.loop-index-test.true c.index-declarations-index.is in
    let last = last_of name_of c.args.declarations.now c.loop-index.index _ _ c.name-name.result c.value_at.result c.loop-index.invariant c.value_at.ensures.found c.value_at.ensures.none in
    chains_more name_of c.args.declarations.now c.loop-index.index c.index-declarations-index.result c.value_at.result _ _ _ _ at c.loop-index.invariant
    (rw (← c.name-name.ensures) last) (rw (← c.name-name.ensures) c.in_ok-put.ensures.puts) c.in_ok-push.ensures.items
