use Rattle.std.proofs.Common.{List, ◌∷◌, [], ap, ◌∙◌, map, rules}
use Rattle.std.proofs.lemmas.List.{map-append, take_all}
use denote.Ref.{Bor}
use Rattle.wesl_tree_syntax.specs.Unit.{UnitView}
use Rattle.wesl_tree.specs.Translation.{unit_view}
use Rattle.wesl_tree.specs.declared.unit.TranslationUnit.{TranslationUnit}
use Rattle.wesl_link_engine.specs.declared.loaded.LoadedModule.{LoadedModule}
use Rattle.wesl_link_engine.proofs.Listing.{more_told}
use Rattle.wesl_link_engine.proofs.Told.{pushed}
use Rattle.wesl_link_engine.proofs.assemble.units.Goals as goal

abbrev told : List LoadedModule → List UnitView
told ms = map (λ m. unit_view m.unit) ms

pub loop-module-preserved : goal.loop-module-preserved
loop-module-preserved c =
    let xs = c.args.others.now in
    let i = c.loop-module.module-index in
    let m = c.module-item.result in
    more_told (λ (v : Bor TranslationUnit). unit_view v.now) told c.loop-module.units.items c.push-in-loop-module.new.self.items _ c.args.root.now xs i m c.loop-module-test.true c.module-item.is
    (λ bs. map-append (λ (x : LoadedModule). unit_view x.unit) bs (m ∷ [])) c.loop-module.invariant
    (pushed c.loop-module.units.items c.push-in-loop-module.new.self.items _ c.push-in-loop-module.result (search rules) c.push-in-loop-module.ensures.items)

pub returns : goal.returns
returns c = c.loop-module.invariant ∙ ap (λ ms. told (c.args.root.now ∷ ms)) (take_all c.loop-module.module-index c.args.others.now c.loop-module-test.false)
