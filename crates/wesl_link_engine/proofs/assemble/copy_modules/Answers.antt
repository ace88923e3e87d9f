use Rattle.std.proofs.Common.{List, [], ◌∷◌, sym, subst, ◌∙◌, take, Contains}
use Rattle.std.proofs.lemmas.List.{take_all}
use Rattle.wesl_link_symbols.proofs.Lists.{contains_first, contains_later}
use Rattle.wesl_link_tables.proofs.Lists.{take_next}
use Rattle.wesl_link_engine.specs.Holding.{AreParts}
use Rattle.wesl_link_engine.specs.declared.loaded.LoadedModule.{LoadedModule}
use Rattle.wesl_link_engine.proofs.Lists.{item_held}
use Rattle.wesl_link_engine.proofs.Parted.{parts_more}
use Rattle.wesl_link_engine.proofs.assemble.copy_modules.Goals as goal

pub copy_module-requires-clause-inside : goal.copy_module-requires-clause-inside
copy_module-requires-clause-inside c = contains_first c.args.link.now.root c.args.link.now.others.items

pub loop-module-init : goal.loop-module-init
loop-module-init c = λ e words h. parts_more c.args.link.now words [] c.args.link.now.root c.args.parts.now c.copy_module.new.parts h (c.copy_module.ensures.added e)

pub copy_module-requires-in-loop-module-clause-inside : goal.copy_module-requires-in-loop-module-clause-inside
copy_module-requires-in-loop-module-clause-inside c =
    let l = c.args.link.now in
    let xs = c.deref-module-items.result.now in
    let m = c.module-item.result in
    contains_later l.root m l.others.items (subst (λ (ms : List LoadedModule). Contains ms m) c.deref-module-items.ensures.value (item_held xs c.loop-module.module-index m c.loop-module-test.true c.module-item.is))

pub loop-module-preserved : goal.loop-module-preserved
loop-module-preserved c = λ e words h.
    let l = c.args.link.now in
    let xs = c.deref-module-items.result.now in
    let i = c.loop-module.module-index in
    let m = c.module-item.result in
    subst (λ (ms : List LoadedModule). AreParts l (l.root ∷ ms) words c.copy_module-in-loop-module.new.parts) (sym (take_next xs i m c.loop-module-test.true c.module-item.is))
    (parts_more l words (l.root ∷ take i xs) m c.loop-module.parts c.copy_module-in-loop-module.new.parts (c.loop-module.invariant (c.copy_module-in-loop-module.ensures.noted e) words h) (c.copy_module-in-loop-module.ensures.added e))

pub returns : goal.returns
returns c = λ e words h.
    let l = c.args.link.now in
    let xs = c.deref-module-items.result.now in
    subst (λ (ms : List LoadedModule). AreParts l (l.root ∷ ms) words c.loop-module.parts) (take_all c.loop-module.module-index xs c.loop-module-test.false ∙ c.deref-module-items.ensures.value) (c.loop-module.invariant e words h)
