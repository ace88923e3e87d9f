use Rattle.std.proofs.Common.{IsTrue, subst, rules}
use Rattle.wesl_tree_syntax.specs.Tree.{Tree}
use Rattle.wesl_link_tables.specs.TextsView.{numbering_of_texts as numbering}
use Rattle.wesl_link_engine.specs.Holding.{AddsHeld, is_added}
use Rattle.wesl_link_engine.proofs.Meant.{askable}
use Rattle.wesl_link_engine.proofs.assemble.copy_declaration.Goals as goal

pub add_declaration-requires-clause-held : goal.add_declaration-requires-clause-held
add_declaration-requires-clause-held c =
    let reached : IsTrue c.is_held.result = search rules in
    askable c.args.link.now.linked c.args.table.now c.args.row.now c.args.declaration.now.node c.args.marks.now c.requires.inside c.requires.refers (c.requires.clear (c.is_held.ensures.0 reached)) (c.is_held.ensures.0 reached)

pub returns-clause-added : goal.returns-clause-added
returns-clause-added c = λ e.
    let reached : IsTrue c.is_held.result = search rules in
    is_added (c.is_held.ensures.0 reached)
    (subst (λ (t : Tree). AddsHeld (numbering c.args.link.now.numbers) c.args.link.now.linked c.args.table.now t c.args.marks.now c.args.parts.now c.add_declaration.new.parts) c.in-Ok.ensures.equal (c.add_declaration.ensures.added e))
