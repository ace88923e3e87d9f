use Rattle.std.proofs.Common.{List, [], ◌∷◌, length, sym, subst, ◌∙◌, map-id, rules}
use Rattle.std.proofs.lemmas.Iterator.Adapters.{YieldsList-from_vec}
use Rattle.std.proofs.lemmas.Iterator.Consumers.{YieldsList-turn, YieldsList-end}
use Rattle.wesl_link_symbols.proofs.Lists.{contains_first, contains_later}
use Rattle.wesl_link_engine.specs.Holding.{AreParts}
use Rattle.wesl_link_engine.specs.declared.loaded.LoadedModule.{LoadedModule}
use Rattle.wesl_link_engine.proofs.Lists.{item_held}
use Rattle.wesl_link_engine.proofs.Parted.{parts_more}
use Rattle.wesl_link_engine.proofs.Turns.{one_of}
use Rattle.wesl_link_engine.proofs.moving.move_modules.Goals as goal

pub move_module-requires : goal.move_module-requires
move_module-requires c =
    let (l, of) = c.requires.sound in
    record { sound = (l, one_of l c.args.numbers.now c.args.linked.now (c.args.root ∷ c.args.others.items) c.args.root of (contains_first c.args.root c.args.others.items)) }

pub loop-module-init : goal.loop-module-init
loop-module-init c = λ e l of words h.
    parts_more l words [] c.args.root c.args.parts.now c.move_module.new.parts h
    (c.move_module.ensures.added e l (one_of l c.args.numbers.now c.args.linked.now (c.args.root ∷ c.args.others.items) c.args.root of (contains_first c.args.root c.args.others.items)))

pub move_module-requires-in-loop-module : goal.move_module-requires-in-loop-module
move_module-requires-in-loop-module c =
    let (l, of) = c.requires.sound in
    let xs = c.args.others.items in
    let m = c.in-Some.module in
    let gives = c.into_iter-module-iterator.ensures.into_iter_gives in
    let (below, is) = YieldsList-turn (YieldsList-from_vec {s = c.into_iter-module-iterator.result} xs gives.0 (search rules)) c.loop-module.yielded c.loop-module.module-iterator c.loop-module.yielded_by c.next.result c.next.new.self m c.in-Some.is c.next.ensures.steps in
    record { sound = (l, one_of l c.args.numbers.now c.args.linked.now (c.args.root ∷ xs) m of (contains_later c.args.root m xs (item_held xs (length c.loop-module.yielded) m below is))) }

pub loop-module-preserved : goal.loop-module-preserved
loop-module-preserved c = λ e l of words h.
    let xs = c.args.others.items in
    let m = c.in-Some.module in
    let gives = c.into_iter-module-iterator.ensures.into_iter_gives in
    let (below, is) = YieldsList-turn (YieldsList-from_vec {s = c.into_iter-module-iterator.result} xs gives.0 (search rules)) c.loop-module.yielded c.loop-module.module-iterator c.loop-module.yielded_by c.next.result c.next.new.self m c.in-Some.is c.next.ensures.steps in
    let inside = one_of l c.args.numbers.now c.args.linked.now (c.args.root ∷ xs) m of (contains_later c.args.root m xs (item_held xs (length c.loop-module.yielded) m below is)) in
    parts_more l words (c.args.root ∷ c.loop-module.yielded) m c.loop-module.parts c.move_module-in-loop-module.new.parts (c.loop-module.invariant (c.move_module-in-loop-module.ensures.noted e) l of words h)
    (c.move_module-in-loop-module.ensures.added e l inside)

pub returns : goal.returns
returns c = λ e l of words h.
    let xs = c.args.others.items in
    let gives = c.into_iter-module-iterator.ensures.into_iter_gives in
    let end = YieldsList-end (YieldsList-from_vec {s = c.into_iter-module-iterator.result} xs gives.0 (search rules)) c.loop-module.yielded c.loop-module.module-iterator c.loop-module.yielded_by c.next.result c.next.new.self c.in-None.is c.next.ensures.steps in
    subst (λ (ms : List LoadedModule). AreParts l (c.args.root ∷ ms) words c.loop-module.parts) (sym (map-id c.loop-module.yielded) ∙ end.0) (c.loop-module.invariant e l of words h)
