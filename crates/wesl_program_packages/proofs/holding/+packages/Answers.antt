use Rattle.std.proofs.Common.{◌≡◌, map, ◌∷◌, [], ◌++◌, string_bytes, sym, subst, rules}
use Rattle.std.proofs.lemmas.List.{map-append}
use Rattle.wesl_program_bundle.specs.PackageViews.{packages_of, package_view}
use Rattle.wesl_program_packages.specs.Held.{HoldsPackages, root_name}
use Rattle.wesl_program_packages.proofs.ByName.{made-package, packages-more}
use Rattle.wesl_program_packages.proofs.holding.+packages.Goals as goal

pub held_package-returns : goal.held_package-returns
held_package-returns t c = record { held = made-package c.args.«package» _ c.in_ok-root.ensures.held c.in_ok-dependencies.ensures.held }

pub held_packages-loop-package-preserved : goal.held_packages-loop-package-preserved
held_packages-loop-package-preserved t c =
    let l = c.loop-package in
    let one = c.in-Some.«package» in
    let key : string_bytes c.in_ok-name.name ≡ root_name c.in_ok-held.held = search rules in
    let more : HoldsPackages (packages_of (map package_view l.yielded ++ package_view one ∷ [])) c.add_first.new.named =
    packages-more (map package_view l.yielded) (package_view one) l.named c.add_first.new.named c.in_ok-held.held (string_bytes c.in_ok-name.name) l.invariant c.in_ok-held.ensures.held key c.in_ok-add_first.ensures.added in
    subst (λ rs. HoldsPackages (packages_of rs) c.add_first.new.named) (sym (map-append package_view l.yielded (one ∷ []))) more
