use Rattle.std.proofs.Common.{◌≡◌, Option, Some, None, List, ◌∷◌, [], refl, sym, ap, ◌∙◌}
use Rattle.std.proofs.lemmas.List.{map-append, take_all}
use denote.Ref.{Bor}
use Rattle.wesl_tree_names.specs.Path.{Path, path_view}
use Rattle.wesl_tree_names.specs.declared.path.ModulePath.{ModulePath}
use Rattle.wesl_link_engine.specs.Resolved.{paths_of}
use Rattle.wesl_link_engine.specs.GivenView.{given}
use Rattle.wesl_link_engine.specs.Keeping.{module_of, loaded_modules, modules_of, resolved_of}
use Rattle.wesl_link_engine.specs.declared.link.Link.{Link}
use Rattle.wesl_link_engine.specs.declared.resolutions.Resolutions.{Resolutions}
use Rattle.wesl_link_engine.specs.Worlds.{Module}
use Rattle.wesl_link_engine.specs.declared.loaded.LoadedModule.{LoadedModule}
use Rattle.wesl_link_engine.proofs.Listing.{more_told}
use Rattle.wesl_link_engine.proofs.resolutions.Resolutions.module_order.Goals as goal
use Rattle.wesl_link_engine.proofs.resolutions.Resolutions.module_order.Goals.{in-Some+in_ok-push+else-loop-module-test, in_default}

abbrev told : List LoadedModule → List Path
told ms = paths_of (loaded_modules ms)

none_there : (r : Resolutions) → ((l : Link) → r.link ≡ Some l → ⊥) → [] ≡ paths_of (modules_of r)
none_there r none = by r.link refl
  where
    by : (o : Option Link) → r.link ≡ o → [] ≡ paths_of (modules_of r)
    by None e = ap (λ (o : Option Link). paths_of (resolved_of o (given r.given)).modules) (sym e)
    by (Some l) e = absurd (none l e)

pub loop-module-init : goal.loop-module-init
loop-module-init c = λ k is.
    let same : c.in-Some.link ≡ k = cc in
    rw (c.in_ok-push.ensures.items, c.new-paths.ensures.items) (ap (λ (l : Link). path_view l.root.path ∷ []) same)

pub loop-module-preserved : goal.loop-module-preserved
loop-module-preserved c = λ k is.
    let xs = c.deref-module-items.result.now in
    let i = c.loop-module.module-index in
    let m = c.module-item.result in
    more_told (λ (p : Bor ModulePath). path_view p.now) told c.loop-module.paths.items c.push-in-loop-module.new.self.items _ k.root xs i m c.loop-module-test.true c.module-item.is
    (λ bs. ap paths_of (map-append module_of bs (m ∷ [])) ∙ map-append (λ (x : Module). x.path) (loaded_modules bs) (loaded_modules (m ∷ []))) (c.loop-module.invariant k is) c.in_ok-push-2.ensures.items

pub returns-clause-order : goal.returns-clause-order
returns-clause-order c = elim c.match-self.branch [
  | in-Some+in_ok-push+else-loop-module-test w ↦
      let k = w.in-Some.link in
      rw w.paths-is (w.loop-module.invariant k w.in-Some.is ∙ ap (λ ms. told (k.root ∷ ms)) (take_all w.loop-module.module-index w.deref-module-items.result.now w.loop-module-test.false ∙ w.deref-module-items.ensures.value)
      ∙ ap (λ (o : Option Link). paths_of (resolved_of o (given c.args.self.now.given)).modules) (sym w.in-Some.is))
  | in_default w ↦ rw (w.paths-is, c.new-paths.ensures.items) (none_there c.args.self.now w.in_default.not-Some)
]
