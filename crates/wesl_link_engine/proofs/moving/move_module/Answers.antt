use Rattle.std.proofs.Common.{◌≡◌, ◌<◌, List, length, take, get_or, refl, sym, subst, ap, ◌∙◌, arith}
use Rattle.std.specs.Iterator.Adapters.{enumerate_source, enumerate_count}
use Rattle.std.specs.Vec.Iter.{into_iter_items, into_iter_len}
use Rattle.std.proofs.lemmas.List.{length_push}
use Rattle.std.proofs.lemmas.List.FromFn.{length-enumerate_from}
use Rattle.std.proofs.lemmas.Iterator.Adapters.{YieldsList-from_vec}
use Rattle.std.proofs.lemmas.Iterator.Consumers.{YieldsList-from_enumerate, YieldsList-turn, YieldsList-end}
use Rattle.wesl_link_engine.specs.Linked.{Placed, placed}
use Rattle.wesl_link_engine.specs.Keeping.{module_of}
use Rattle.wesl_link_engine.specs.Holding.{AddsPlaced}
use Rattle.wesl_link_engine.proofs.Parted.{adds_none}
use Rattle.wesl_link_engine.proofs.Adding.{declarations_are}
use Rattle.wesl_link_engine.proofs.Turns.{numbered_at, table_stands, row_there, marks_there, all_taken, row_inside, refers, clear, next}
use Rattle.wesl_link_engine.proofs.moving.move_module.Goals as goal
use Rattle.wesl_link_symbols.proofs.Lists.{at_contains}

pub table_at-table-requires : goal.table_at-table-requires
table_at-table-requires c = let (l, of) = c.requires.sound in table_stands l c.args.numbers.now c.args.linked.now c.args.loaded of

pub loop-index-init : goal.loop-index-init
loop-index-init c = (λ e l of. adds_none l c.args.parts.now, λ e. e)

pub bounds-rows-index : goal.bounds-rows-index
bounds-rows-index c =
    let m = c.args.loaded in
    let (l, of) = c.requires.sound in
    let n = length c.loop-index.yielded in
    let i = c.in-Some.index in
    let d = c.in-Some.declaration in
    let it = c.into_iter-index-iterator.result in
    let is : it ≡ c.enumerate-index-items.result = c.into_iter-index-iterator.ensures.into_iter_gives in
    let source : enumerate_source it ≡ c.into_iter.result = ap enumerate_source is ∙ c.enumerate-index-items.ensures.source in
    let xs = c.into_parts-declarations.result.3.items in
    let road = YieldsList-from_enumerate (YieldsList-from_vec {s = enumerate_source it} xs (ap into_iter_items source ∙ c.into_iter.ensures.rest) (ap into_iter_len source ∙ (c.into_iter.ensures.len ∙ c.into_parts-declarations.result.3.ok.0))) (ap enumerate_count is ∙ c.enumerate-index-items.ensures.count) in
    let turn = YieldsList-turn road c.loop-index.yielded c.loop-index.index-iterator c.loop-index.yielded_by c.next.result c.next.new.self (i, d) c.in-Some.is c.next.ensures.steps in
    let (b, from, item) = numbered_at 0 xs n i d turn.0 turn.1 in
    let place : i ≡ n = omega (arith, from) in
    let all = declarations_are m c.into_parts-declarations.result.3 xs (ap (λ u. u.declarations) c.into_parts-declarations.ensures.parts) refl in
    subst (λ j. j < length c.declarations-rows.result.now) (sym place) (row_there l c.args.numbers.now c.args.linked.now m of c.table_at-table.result.now c.table_at-table.ensures xs all c.declarations-rows.result.now c.declarations-rows.ensures n b)

pub index-marks-requires : goal.index-marks-requires
index-marks-requires c =
    let m = c.args.loaded in
    let (l, of) = c.requires.sound in
    let n = length c.loop-index.yielded in
    let i = c.in-Some.index in
    let d = c.in-Some.declaration in
    let it = c.into_iter-index-iterator.result in
    let is : it ≡ c.enumerate-index-items.result = c.into_iter-index-iterator.ensures.into_iter_gives in
    let source : enumerate_source it ≡ c.into_iter.result = ap enumerate_source is ∙ c.enumerate-index-items.ensures.source in
    let xs = c.into_parts-declarations.result.3.items in
    let road = YieldsList-from_enumerate (YieldsList-from_vec {s = enumerate_source it} xs (ap into_iter_items source ∙ c.into_iter.ensures.rest) (ap into_iter_len source ∙ (c.into_iter.ensures.len ∙ c.into_parts-declarations.result.3.ok.0))) (ap enumerate_count is ∙ c.enumerate-index-items.ensures.count) in
    let turn = YieldsList-turn road c.loop-index.yielded c.loop-index.index-iterator c.loop-index.yielded_by c.next.result c.next.new.self (i, d) c.in-Some.is c.next.ensures.steps in
    let (b, from, item) = numbered_at 0 xs n i d turn.0 turn.1 in
    let place : i ≡ n = omega (arith, from) in
    let all = declarations_are m c.into_parts-declarations.result.3 xs (ap (λ u. u.declarations) c.into_parts-declarations.ensures.parts) refl in
    subst (λ j. j < m.marks.len) (sym place) (subst (λ k. n < k) (sym m.marks.ok.0) (marks_there l c.args.numbers.now c.args.linked.now m of c.table_at-table.result.now c.table_at-table.ensures xs all c.declarations-rows.result.now c.declarations-rows.ensures n b))

pub move_declaration-requires-clause-loaded : goal.move_declaration-requires-clause-loaded
move_declaration-requires-clause-loaded c = at_contains c.args.linked.now.tables c.args.loaded.place c.table_at-table.result.now c.table_at-table.ensures

pub move_declaration-requires-clause-inside : goal.move_declaration-requires-clause-inside
move_declaration-requires-clause-inside c =
    let m = c.args.loaded in
    let (l, of) = c.requires.sound in
    let n = length c.loop-index.yielded in
    let i = c.in-Some.index in
    let d = c.in-Some.declaration in
    let it = c.into_iter-index-iterator.result in
    let is : it ≡ c.enumerate-index-items.result = c.into_iter-index-iterator.ensures.into_iter_gives in
    let source : enumerate_source it ≡ c.into_iter.result = ap enumerate_source is ∙ c.enumerate-index-items.ensures.source in
    let xs = c.into_parts-declarations.result.3.items in
    let road = YieldsList-from_enumerate (YieldsList-from_vec {s = enumerate_source it} xs (ap into_iter_items source ∙ c.into_iter.ensures.rest) (ap into_iter_len source ∙ (c.into_iter.ensures.len ∙ c.into_parts-declarations.result.3.ok.0))) (ap enumerate_count is ∙ c.enumerate-index-items.ensures.count) in
    let turn = YieldsList-turn road c.loop-index.yielded c.loop-index.index-iterator c.loop-index.yielded_by c.next.result c.next.new.self (i, d) c.in-Some.is c.next.ensures.steps in
    let (b, from, item) = numbered_at 0 xs n i d turn.0 turn.1 in
    let place : i ≡ n = omega (arith, from) in
    let all = declarations_are m c.into_parts-declarations.result.3 xs (ap (λ u. u.declarations) c.into_parts-declarations.ensures.parts) refl in
    row_inside l c.args.numbers.now c.args.linked.now m of c.table_at-table.result.now c.table_at-table.ensures xs all c.declarations-rows.result.now c.declarations-rows.ensures n d c.index-rows-index.result c.index-marks.result.now c.deref.result.now b item (c.index-rows-index.is ∙ ap (λ j. get_or c.declarations-rows.result.now j c.index-rows-index.result) place) (c.index-marks.ensures ∙ ap (λ j. get_or m.marks.items j c.index-marks.result.now) place) c.deref.ensures.value

pub move_declaration-requires-clause-refers : goal.move_declaration-requires-clause-refers
move_declaration-requires-clause-refers c =
    let m = c.args.loaded in
    let (l, of) = c.requires.sound in
    let n = length c.loop-index.yielded in
    let i = c.in-Some.index in
    let d = c.in-Some.declaration in
    let it = c.into_iter-index-iterator.result in
    let is : it ≡ c.enumerate-index-items.result = c.into_iter-index-iterator.ensures.into_iter_gives in
    let source : enumerate_source it ≡ c.into_iter.result = ap enumerate_source is ∙ c.enumerate-index-items.ensures.source in
    let xs = c.into_parts-declarations.result.3.items in
    let road = YieldsList-from_enumerate (YieldsList-from_vec {s = enumerate_source it} xs (ap into_iter_items source ∙ c.into_iter.ensures.rest) (ap into_iter_len source ∙ (c.into_iter.ensures.len ∙ c.into_parts-declarations.result.3.ok.0))) (ap enumerate_count is ∙ c.enumerate-index-items.ensures.count) in
    let turn = YieldsList-turn road c.loop-index.yielded c.loop-index.index-iterator c.loop-index.yielded_by c.next.result c.next.new.self (i, d) c.in-Some.is c.next.ensures.steps in
    let (b, from, item) = numbered_at 0 xs n i d turn.0 turn.1 in
    let place : i ≡ n = omega (arith, from) in
    let all = declarations_are m c.into_parts-declarations.result.3 xs (ap (λ u. u.declarations) c.into_parts-declarations.ensures.parts) refl in
    refers l c.args.numbers.now c.args.linked.now m of c.table_at-table.result.now c.table_at-table.ensures xs all c.declarations-rows.result.now c.declarations-rows.ensures n d c.index-rows-index.result c.index-marks.result.now c.deref.result.now b item (c.index-rows-index.is ∙ ap (λ j. get_or c.declarations-rows.result.now j c.index-rows-index.result) place) (c.index-marks.ensures ∙ ap (λ j. get_or m.marks.items j c.index-marks.result.now) place) c.deref.ensures.value

pub move_declaration-requires-clause-clear : goal.move_declaration-requires-clause-clear
move_declaration-requires-clause-clear c =
    let m = c.args.loaded in
    let (l, of) = c.requires.sound in
    let n = length c.loop-index.yielded in
    let i = c.in-Some.index in
    let d = c.in-Some.declaration in
    let it = c.into_iter-index-iterator.result in
    let is : it ≡ c.enumerate-index-items.result = c.into_iter-index-iterator.ensures.into_iter_gives in
    let source : enumerate_source it ≡ c.into_iter.result = ap enumerate_source is ∙ c.enumerate-index-items.ensures.source in
    let xs = c.into_parts-declarations.result.3.items in
    let road = YieldsList-from_enumerate (YieldsList-from_vec {s = enumerate_source it} xs (ap into_iter_items source ∙ c.into_iter.ensures.rest) (ap into_iter_len source ∙ (c.into_iter.ensures.len ∙ c.into_parts-declarations.result.3.ok.0))) (ap enumerate_count is ∙ c.enumerate-index-items.ensures.count) in
    let turn = YieldsList-turn road c.loop-index.yielded c.loop-index.index-iterator c.loop-index.yielded_by c.next.result c.next.new.self (i, d) c.in-Some.is c.next.ensures.steps in
    let (b, from, item) = numbered_at 0 xs n i d turn.0 turn.1 in
    let place : i ≡ n = omega (arith, from) in
    let all = declarations_are m c.into_parts-declarations.result.3 xs (ap (λ u. u.declarations) c.into_parts-declarations.ensures.parts) refl in
    clear l c.args.numbers.now c.args.linked.now m of c.table_at-table.result.now c.table_at-table.ensures xs all c.declarations-rows.result.now c.declarations-rows.ensures n d c.index-rows-index.result c.index-marks.result.now c.deref.result.now b item (c.index-rows-index.is ∙ ap (λ j. get_or c.declarations-rows.result.now j c.index-rows-index.result) place) (c.index-marks.ensures ∙ ap (λ j. get_or m.marks.items j c.index-marks.result.now) place) c.deref.ensures.value

pub loop-index-preserved : goal.loop-index-preserved
loop-index-preserved c =
    let m = c.args.loaded in
    let (l, of) = c.requires.sound in
    let n = length c.loop-index.yielded in
    let i = c.in-Some.index in
    let d = c.in-Some.declaration in
    let it = c.into_iter-index-iterator.result in
    let is : it ≡ c.enumerate-index-items.result = c.into_iter-index-iterator.ensures.into_iter_gives in
    let source : enumerate_source it ≡ c.into_iter.result = ap enumerate_source is ∙ c.enumerate-index-items.ensures.source in
    let xs = c.into_parts-declarations.result.3.items in
    let road = YieldsList-from_enumerate (YieldsList-from_vec {s = enumerate_source it} xs (ap into_iter_items source ∙ c.into_iter.ensures.rest) (ap into_iter_len source ∙ (c.into_iter.ensures.len ∙ c.into_parts-declarations.result.3.ok.0))) (ap enumerate_count is ∙ c.enumerate-index-items.ensures.count) in
    let turn = YieldsList-turn road c.loop-index.yielded c.loop-index.index-iterator c.loop-index.yielded_by c.next.result c.next.new.self (i, d) c.in-Some.is c.next.ensures.steps in
    let (b, from, item) = numbered_at 0 xs n i d turn.0 turn.1 in
    let place : i ≡ n = omega (arith, from) in
    let all = declarations_are m c.into_parts-declarations.result.3 xs (ap (λ u. u.declarations) c.into_parts-declarations.ensures.parts) refl in
    let (adds, noted) = c.loop-index.invariant in (
      λ e k of_k. subst (λ j. AddsPlaced k (take j (placed (module_of m))) c.args.parts.now c.move_declaration.new.parts) (sym (length_push c.loop-index.yielded (i, d)))
          (next k c.args.numbers.now c.args.linked.now m of_k c.table_at-table.result.now c.table_at-table.ensures xs all c.declarations-rows.result.now c.declarations-rows.ensures n d c.index-rows-index.result c.index-marks.result.now c.deref.result.now b item (c.index-rows-index.is ∙ ap (λ j. get_or c.declarations-rows.result.now j c.index-rows-index.result) place) (c.index-marks.ensures ∙ ap (λ j. get_or m.marks.items j c.index-marks.result.now) place) c.deref.ensures.value c.args.parts.now c.loop-index.parts c.move_declaration.new.parts (adds (c.move_declaration.ensures.noted e) k of_k) (c.move_declaration.ensures.added e)),
      λ e. noted (c.move_declaration.ensures.noted e),
    )

pub returns-clause-added : goal.returns-clause-added
returns-clause-added c = λ e l of.
    let m = c.args.loaded in
    let n = length c.loop-index.yielded in
    let it = c.into_iter-index-iterator.result in
    let is : it ≡ c.enumerate-index-items.result = c.into_iter-index-iterator.ensures.into_iter_gives in
    let source : enumerate_source it ≡ c.into_iter.result = ap enumerate_source is ∙ c.enumerate-index-items.ensures.source in
    let xs = c.into_parts-declarations.result.3.items in
    let road = YieldsList-from_enumerate (YieldsList-from_vec {s = enumerate_source it} xs (ap into_iter_items source ∙ c.into_iter.ensures.rest) (ap into_iter_len source ∙ (c.into_iter.ensures.len ∙ c.into_parts-declarations.result.3.ok.0))) (ap enumerate_count is ∙ c.enumerate-index-items.ensures.count) in
    let all = declarations_are m c.into_parts-declarations.result.3 xs (ap (λ u. u.declarations) c.into_parts-declarations.ensures.parts) refl in
    let end = YieldsList-end road c.loop-index.yielded c.loop-index.index-iterator c.loop-index.yielded_by c.next.result c.next.new.self c.in-None.is c.next.ensures.steps in
    let many : length xs ≡ n = sym (length-enumerate_from 0 xs) ∙ sym end.1 in
    subst (λ (ds : List Placed). AddsPlaced l ds c.args.parts.now c.loop-index.parts) (all_taken l c.args.numbers.now c.args.linked.now m of c.table_at-table.result.now c.table_at-table.ensures xs all c.declarations-rows.result.now c.declarations-rows.ensures n (omega (arith, many))) (c.loop-index.invariant.0 e l of)

pub returns-clause-noted : goal.returns-clause-noted
returns-clause-noted c = c.loop-index.invariant.1
