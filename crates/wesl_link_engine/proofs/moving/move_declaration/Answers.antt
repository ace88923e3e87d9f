use Rattle.std.proofs.Common.{IsTrue, rules}
use Rattle.wesl_link_engine.specs.Holding.{is_added}
use Rattle.wesl_link_engine.proofs.Meant.{askable}
use Rattle.wesl_link_engine.proofs.moving.move_declaration.Goals as goal

pub add_declaration-requires-clause-held : goal.add_declaration-requires-clause-held
add_declaration-requires-clause-held c =
    let reached : IsTrue c.is_held.result = search rules in
    askable c.args.linked.now c.args.table.now c.args.row.now c.args.declaration.node c.args.marks.now c.requires.inside c.requires.refers (c.requires.clear (c.is_held.ensures.0 reached)) (c.is_held.ensures.0 reached)

pub returns-clause-added : goal.returns-clause-added
returns-clause-added c = λ e.
    let reached : IsTrue c.is_held.result = search rules in
    is_added (c.is_held.ensures.0 reached) (c.add_declaration.ensures.added e)
