use Rattle.std.proofs.Common.{◌<◌, List, subst, sym}
use Rattle.wesl_link_engine.specs.Linked.{Placed}
use Rattle.wesl_link_engine.specs.Holding.{AddsPlaced}
use Rattle.wesl_link_engine.proofs.Parted.{adds_none}
use Rattle.wesl_link_engine.proofs.Adding.{declarations_are}
use Rattle.wesl_link_engine.proofs.Turns.{whole, table_stands, row_there, marks_there, all_taken, row_inside, refers, clear, next}
use Rattle.wesl_link_engine.proofs.assemble.copy_module.Goals as goal

pub table_at-table-requires : goal.table_at-table-requires
table_at-table-requires c = table_stands c.args.link.now c.args.link.now.numbers c.args.link.now.linked c.args.module.now (whole c.args.link.now c.args.module.now c.requires.sound c.requires.inside)

pub loop-index-init : goal.loop-index-init
loop-index-init c = (λ e. adds_none c.args.link.now c.args.parts.now, λ e. e)

pub bounds-rows-index : goal.bounds-rows-index
bounds-rows-index c =
    let m = c.args.module.now in
    let of = whole c.args.link.now m c.requires.sound c.requires.inside in
    let xs = c.deref-declaration-items.result.now in
    let all = declarations_are m c.global_declarations-nodes.result.now xs c.global_declarations-nodes.ensures.declarations c.deref-declaration-items.ensures.value in
    row_there c.args.link.now c.args.link.now.numbers c.args.link.now.linked m of c.table_at-table.result.now c.table_at-table.ensures xs all c.declarations-rows.result.now c.declarations-rows.ensures c.loop-index.index c.loop-index-test.true

pub index-marks-requires : goal.index-marks-requires
index-marks-requires c =
    let m = c.args.module.now in
    let of = whole c.args.link.now m c.requires.sound c.requires.inside in
    let xs = c.deref-declaration-items.result.now in
    let all = declarations_are m c.global_declarations-nodes.result.now xs c.global_declarations-nodes.ensures.declarations c.deref-declaration-items.ensures.value in
    subst (λ n. c.loop-index.index < n) (sym m.marks.ok.0) (marks_there c.args.link.now c.args.link.now.numbers c.args.link.now.linked m of c.table_at-table.result.now c.table_at-table.ensures xs all c.declarations-rows.result.now c.declarations-rows.ensures c.loop-index.index c.loop-index-test.true)

pub copy_declaration-requires-clause-inside : goal.copy_declaration-requires-clause-inside
copy_declaration-requires-clause-inside c =
    let m = c.args.module.now in
    let of = whole c.args.link.now m c.requires.sound c.requires.inside in
    let xs = c.deref-declaration-items.result.now in
    let all = declarations_are m c.global_declarations-nodes.result.now xs c.global_declarations-nodes.ensures.declarations c.deref-declaration-items.ensures.value in
    row_inside c.args.link.now c.args.link.now.numbers c.args.link.now.linked m of c.table_at-table.result.now c.table_at-table.ensures xs all c.declarations-rows.result.now c.declarations-rows.ensures c.loop-index.index c.declaration-item.result c.index-rows-index.result c.index-marks.result.now c.deref.result.now c.loop-index-test.true c.declaration-item.is c.index-rows-index.is c.index-marks.ensures c.deref.ensures.value

pub copy_declaration-requires-clause-refers : goal.copy_declaration-requires-clause-refers
copy_declaration-requires-clause-refers c =
    let m = c.args.module.now in
    let of = whole c.args.link.now m c.requires.sound c.requires.inside in
    let xs = c.deref-declaration-items.result.now in
    let all = declarations_are m c.global_declarations-nodes.result.now xs c.global_declarations-nodes.ensures.declarations c.deref-declaration-items.ensures.value in
    refers c.args.link.now c.args.link.now.numbers c.args.link.now.linked m of c.table_at-table.result.now c.table_at-table.ensures xs all c.declarations-rows.result.now c.declarations-rows.ensures c.loop-index.index c.declaration-item.result c.index-rows-index.result c.index-marks.result.now c.deref.result.now c.loop-index-test.true c.declaration-item.is c.index-rows-index.is c.index-marks.ensures c.deref.ensures.value

pub copy_declaration-requires-clause-clear : goal.copy_declaration-requires-clause-clear
copy_declaration-requires-clause-clear c =
    let m = c.args.module.now in
    let of = whole c.args.link.now m c.requires.sound c.requires.inside in
    let xs = c.deref-declaration-items.result.now in
    let all = declarations_are m c.global_declarations-nodes.result.now xs c.global_declarations-nodes.ensures.declarations c.deref-declaration-items.ensures.value in
    clear c.args.link.now c.args.link.now.numbers c.args.link.now.linked m of c.table_at-table.result.now c.table_at-table.ensures xs all c.declarations-rows.result.now c.declarations-rows.ensures c.loop-index.index c.declaration-item.result c.index-rows-index.result c.index-marks.result.now c.deref.result.now c.loop-index-test.true c.declaration-item.is c.index-rows-index.is c.index-marks.ensures c.deref.ensures.value

pub loop-index-preserved : goal.loop-index-preserved
loop-index-preserved c =
    let m = c.args.module.now in
    let of = whole c.args.link.now m c.requires.sound c.requires.inside in
    let xs = c.deref-declaration-items.result.now in
    let all = declarations_are m c.global_declarations-nodes.result.now xs c.global_declarations-nodes.ensures.declarations c.deref-declaration-items.ensures.value in
    let (adds, noted) = c.loop-index.invariant in (
      λ e. next c.args.link.now c.args.link.now.numbers c.args.link.now.linked m of c.table_at-table.result.now c.table_at-table.ensures xs all c.declarations-rows.result.now c.declarations-rows.ensures c.loop-index.index c.declaration-item.result c.index-rows-index.result c.index-marks.result.now c.deref.result.now c.loop-index-test.true c.declaration-item.is c.index-rows-index.is c.index-marks.ensures c.deref.ensures.value c.args.parts.now c.loop-index.parts c.copy_declaration.new.parts (adds (c.copy_declaration.ensures.noted e)) (c.copy_declaration.ensures.added e),
      λ e. noted (c.copy_declaration.ensures.noted e),
    )

pub returns-clause-added : goal.returns-clause-added
returns-clause-added c = λ e.
    let m = c.args.module.now in
    let of = whole c.args.link.now m c.requires.sound c.requires.inside in
    let xs = c.deref-declaration-items.result.now in
    let all = declarations_are m c.global_declarations-nodes.result.now xs c.global_declarations-nodes.ensures.declarations c.deref-declaration-items.ensures.value in
    subst (λ (ds : List Placed). AddsPlaced c.args.link.now ds c.args.parts.now c.loop-index.parts) (all_taken c.args.link.now c.args.link.now.numbers c.args.link.now.linked m of c.table_at-table.result.now c.table_at-table.ensures xs all c.declarations-rows.result.now c.declarations-rows.ensures c.loop-index.index c.loop-index-test.false) (c.loop-index.invariant.0 e)

pub returns-clause-noted : goal.returns-clause-noted
returns-clause-noted c = c.loop-index.invariant.1
