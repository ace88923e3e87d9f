use Rattle.std.proofs.Common.{◌≡◌, map, ◌∷◌, [], ◌++◌, string_bytes, refl, sym, subst, rules}
use Rattle.std.proofs.lemmas.List.{map-append}
use Rattle.wesl_program_bundle.specs.PackageViews.{package_modules, package_module_view}
use Rattle.wesl_program_packages.specs.Held.{HoldsModules, held_name}
use Rattle.wesl_program_packages.proofs.ByName.{made-module, modules-more}
use Rattle.wesl_program_packages.proofs.holding.+modules.Goals as goal

pub held_module-returns : goal.held_module-returns
held_module-returns t c = record { held = made-module c.args.«module» _ refl refl c.in_ok-modules.ensures.held }

pub held_modules-loop-module-preserved : goal.held_modules-loop-module-preserved
held_modules-loop-module-preserved t c =
    let l = c.loop-module in
    let one = c.in-Some.«module» in
    let key : string_bytes c.in_ok-name.name ≡ held_name c.in_ok-held.held = search rules in
    let more : HoldsModules (package_modules (map package_module_view l.yielded ++ package_module_view one ∷ [])) c.add_first.new.named =
    modules-more (map package_module_view l.yielded) (package_module_view one) l.named c.add_first.new.named c.in_ok-held.held (string_bytes c.in_ok-name.name) l.invariant c.in_ok-held.ensures.held key c.in_ok-add_first.ensures.added in
    subst (λ rs. HoldsModules (package_modules rs) c.add_first.new.named) (sym (map-append package_module_view l.yielded (one ∷ []))) more
