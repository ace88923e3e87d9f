use Rattle.std.proofs.Common.{◌≡◌, Some, slice_get, refl}
use Rattle.std.proofs.lemmas.Option.{slice_get_read}
use Rattle.wesl_link_flaws.proofs.Placing.{placing_more}
use Rattle.wesl_link_flaws.proofs.given.place_all.Goals as goal

pub loop-index-preserved : goal.loop-index-preserved
loop-index-preserved c =
    let at : slice_get c.args.tables.now c.loop-index.index ≡ Some c.index-tables-index.result = slice_get_read c.args.tables.now _ c.loop-index.index c.index-tables-index.result refl c.loop-index-test.true c.index-tables-index.is in
    placing_more c.args.tables.now c.loop-index.index c.index-tables-index.result _ _ at c.loop-index.invariant (rw (← c.path.ensures) c.in_ok-put.ensures.puts)
