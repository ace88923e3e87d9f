use Rattle.std.proofs.Common.{rules, sym, ◌∙◌}
use Rattle.wesl_link_reach.proofs.Following.{puts_has}
use Rattle.wesl_link_flaws.specs.declared.absence.Absence.TheVariants.{TurnedAway, Crowded}
use Rattle.wesl_link_faults.proofs.Placed.{absent_moves, loaded_absent, loaded_later, loaded_table, table_moves}
use Rattle.wesl_link_faults.proofs.loading.fetch.Goals as goal

pub returns-then-is_crowded-clause-there : goal.returns-then-is_crowded-clause-there
returns-then-is_crowded-clause-there g c = puts_has _ _ _ c.in_ok-put_absent-in-Ok.ensures.asked

pub returns-then-is_crowded-clause-sound : goal.returns-then-is_crowded-clause-sound
returns-then-is_crowded-clause-sound g c =
    loaded_absent _ c.args.path Crowded (loaded_later _ _ _ c.load.ensures.adds c.requires.sound) (c.in-Ok.table, c.in-Ok.ensures.handed, sym c.is_crowded.ensures ∙ c.if-is_crowded.true)
    c.requires.entered c.requires.fresh c.requires.room c.in_ok-put_absent-in-Ok.ensures

pub returns-then-is_crowded-clause-moves : goal.returns-then-is_crowded-clause-moves
returns-then-is_crowded-clause-moves g c = absent_moves _ _ c.args.path Crowded c.requires.fresh c.in_ok-put_absent-in-Ok.ensures

pub returns-in_ok-put_table-in-Ok-clause-there : goal.returns-in_ok-put_table-in-Ok-clause-there
returns-in_ok-put_table-in-Ok-clause-there g c = puts_has _ _ _ c.in_ok-put_table-in-Ok.ensures.asked

pub returns-in_ok-put_table-in-Ok-clause-sound : goal.returns-in_ok-put_table-in-Ok-clause-sound
returns-in_ok-put_table-in-Ok-clause-sound g c =
    loaded_table _ c.args.path c.in-Ok.table (loaded_later _ _ _ c.load.ensures.adds c.requires.sound) c.in-Ok.ensures.handed c.in-Ok.ensures.path (sym c.is_crowded.ensures ∙ c.if-is_crowded.false)
    c.in-Ok.ensures.ready_paths c.requires.entered c.requires.fresh c.requires.room c.in_ok-put_table-in-Ok.ensures

pub returns-in_ok-put_table-in-Ok-clause-moves : goal.returns-in_ok-put_table-in-Ok-clause-moves
returns-in_ok-put_table-in-Ok-clause-moves g c = table_moves _ _ c.args.path c.in-Ok.table c.requires.fresh c.in_ok-put_table-in-Ok.ensures

pub returns-in_ok-put_absent-in-Err-Refused-clause-there : goal.returns-in_ok-put_absent-in-Err-Refused-clause-there
returns-in_ok-put_absent-in-Err-Refused-clause-there g c = puts_has _ _ _ c.in_ok-put_absent-in-Err-Refused.ensures.asked

pub returns-in_ok-put_absent-in-Err-Refused-clause-sound : goal.returns-in_ok-put_absent-in-Err-Refused-clause-sound
returns-in_ok-put_absent-in-Err-Refused-clause-sound g c =
    let is : g.L.Loader.refuses c.load.new.self c.args.path c.in-Err-Refused.error = search rules in
    loaded_absent _ c.args.path (TurnedAway c.in-Err-Refused.error) (loaded_later _ _ _ c.load.ensures.adds c.requires.sound) is
    c.requires.entered c.requires.fresh c.requires.room c.in_ok-put_absent-in-Err-Refused.ensures

pub returns-in_ok-put_absent-in-Err-Refused-clause-moves : goal.returns-in_ok-put_absent-in-Err-Refused-clause-moves
returns-in_ok-put_absent-in-Err-Refused-clause-moves g c = absent_moves _ _ c.args.path (TurnedAway c.in-Err-Refused.error) c.requires.fresh c.in_ok-put_absent-in-Err-Refused.ensures
