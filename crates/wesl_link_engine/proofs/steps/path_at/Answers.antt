use Rattle.std.proofs.Common.{◌-◌, ◌<◌, length, arith, refl}
use Rattle.std.proofs.lemmas.Option.{slice_get_read}
use Rattle.wesl_link_engine.proofs.Homes.{path_behind}
use Rattle.wesl_link_engine.proofs.steps.path_at.Goals as goal

pub returns-else-index-eq0 : goal.returns-else-index-eq0
returns-else-index-eq0 c =
    let l = c.args.link.now in
    let below : c.args.index - 1 < length l.others.items = omega (arith, c.requires, c.if-index-eq0.false) in
    path_behind l c.args.index c.index.result.now c.if-index-eq0.false (slice_get_read l.others.items _ (c.args.index - 1) c.index.result.now refl below c.index.ensures)
