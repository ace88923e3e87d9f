use Rattle.std.proofs.Common.{◌≡◌, length, rules, sym, ◌∙◌}
use Rattle.wesl_link_reach.proofs.Steps.{clash_refused, crowd_refused, sound_table, there_more}
use Rattle.wesl_link_reach.proofs.load.add.Goals as goal

pub returns-then-is_crowded-clause-refused : goal.returns-then-is_crowded-clause-refused
returns-then-is_crowded-clause-refused g c =
    rw c.path.ensures (crowd_refused (g.L.Loader.refuses c.args.loader.now) c.args.table c.requires.sound c.requires.handed c.requires.entered c.requires.absent (sym c.is_crowded.ensures ∙ c.if-is_crowded.true))

pub returns-in-Some-clause-refused : goal.returns-in-Some-clause-refused
returns-in-Some-clause-refused g c =
    rw c.path-in-Some.ensures (clash_refused (g.L.Loader.refuses c.args.loader.now) c.args.table c.in-Some.name c.requires.sound c.requires.handed c.requires.entered c.requires.absent c.in-Some.ensures.clash)

pub returns-clause-sound : goal.returns-clause-sound
returns-clause-sound g c =
    let counted : c.len.result ≡ length c.args.loaded.now.others.items = search rules in
    rw c.in_ok-push.ensures.items
    (sound_table _ c.args.table c.len.result counted c.requires.sound c.requires.handed c.requires.ready_paths c.requires.entered c.requires.absent c.requires.room
    record { clear = c.in_default.ensures.none; roomy = sym c.is_crowded.ensures ∙ c.if-is_crowded.false } (rw (← c.path-2.ensures) c.in_ok-put.ensures.puts))

pub returns-clause-there : goal.returns-clause-there
returns-clause-there g c = there_more c.args.request.now.root c.args.loaded.now.others.items _ c.args.table c.in_ok-push.ensures.items
