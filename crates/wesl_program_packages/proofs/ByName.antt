-- Packages and modules by their names, one more at a time.
use Rattle.std.proofs.Common.{◌≡◌, List, [], ◌∷◌, ◌++◌, Bool, true, false, if◌then◌else◌, Option, Some, None, Result, Ok, String, string_bytes, refl, sym, ap, ◌∙◌, subst, bytes_eq}
use Rattle.std.specs.declared.alloc.Global.{Global}
use Rattle.std.specs.HashMap.{HashMap, get_by_text}
use Rattle.std.specs.Option.{option_or}
use Rattle.serde_json.specs.Data.{Data}
use Rattle.wesl_json_form.specs.View.{borrowed_view}
use Rattle.wesl_tree_names.specs.Path.{Text}
use Rattle.wesl_resolve_base.specs.Packages.{no_dependency, no_submodule}
use Rattle.wesl_program_bundle.specs.Packages as said
use Rattle.wesl_program_bundle.specs.PackageViews.{module_step, package_module_view, package_modules, package_modules_view, package_step, package_view, packages_of, packages_view}
use Rattle.wesl_program_bundle.specs.declared.packages.PackageModule.{PackageModule, map-PackageModule, out-PackageModule}
use Rattle.wesl_program_bundle.specs.declared.packages.PackageModule.TheViews.{roll-out-PackageModule}
use Rattle.wesl_program_bundle.specs.declared.packages.PackageModule.TheFolds.{fold-roll-PackageModule}
use Rattle.wesl_program_bundle.specs.declared.packages.Package.{Package, map-Package, out-Package}
use Rattle.wesl_program_bundle.specs.declared.packages.Package.TheViews.{roll-out-Package}
use Rattle.wesl_program_bundle.specs.declared.packages.Package.TheFolds.{fold-roll-Package}
use Rattle.wesl_program_packages.specs.Units.{led, module_named, package_named, unit_among, unit_along, unit_in_package}
use Rattle.wesl_program_packages.specs.Held.{HoldsModule, HoldsModules, HoldsPackage, HoldsPackages, IsBoth, held_among, held_below, held_in, held_name, root_name}
use Rattle.wesl_program_packages.specs.declared.held.HeldModule.{HeldModule, out-HeldModule}
use Rattle.wesl_program_packages.specs.declared.held.HeldModule.TheOpen.{HeldModule-F}
use Rattle.wesl_program_packages.specs.declared.held.HeldModule.TheViews.{roll-HeldModule, out-roll-HeldModule}
use Rattle.wesl_program_packages.specs.declared.held.HeldPackage.{HeldPackage, out-HeldPackage}
use Rattle.wesl_program_packages.specs.declared.held.HeldPackage.TheOpen.{HeldPackage-F}
use Rattle.wesl_program_packages.specs.declared.held.HeldPackage.TheViews.{roll-HeldPackage, out-roll-HeldPackage}

-- ---- what is found leads to the same

led-same : {X Y : Type 0} (P : X → Y → Type 0) (m n : Text) → n ≡ m → (f : X → Result Data Text) (g : Y → Result Data Text) → ((x : X) (y : Y) → P x y → g y ≡ f x) → (o : Option X) (p : Option Y) → IsBoth P o p → led n g p ≡ led m f o
led-same P m n same f g goes None None h = ap (λ t. led t g None) same
led-same P m n same f g goes (Some x) (Some y) h = goes x y h
led-same P m n same f g goes None (Some y) h = absurd h
led-same P m n same f g goes (Some x) None h = absurd h

module-held : (r : said.PackageModule) (m : HeldModule) → held_name m ≡ r.name → borrowed_view (out-HeldModule m).unit ≡ r.unit → HoldsModules r.modules (out-HeldModule m).modules → HoldsModule r m
module-held r m named unit below = (named, by)
  where
    by : (components : List Text) → held_below m components ≡ unit_along r components
    by [] = ap Ok unit
    by (c ∷ cs) = led-same HoldsModule (no_submodule r.name c) (no_submodule (held_name m) c) (ap (λ t. no_submodule t c) named) (λ s. unit_along s cs) (λ s. held_below s cs) (λ s t h. h.1 cs) (module_named c r.modules) (get_by_text (out-HeldModule m).modules c) (below c)

package-held : (r : said.Package) (k : HeldPackage) → HoldsModule r.root (out-HeldPackage k).root → HoldsPackages r.dependencies (out-HeldPackage k).dependencies → HoldsPackage r k
package-held r k root below = (root.0, by)
  where
    by : (whole : Text) (parts components : List Text) → held_in whole k parts components ≡ unit_in_package whole r parts components
    by whole [] components = root.1 components
    by whole (p ∷ ps) components = led-same HoldsPackage (no_dependency p whole) (no_dependency p whole) refl (λ d. unit_in_package whole d ps components) (λ d. held_in whole d ps components) (λ d e h. h.1 whole ps components) (package_named p r.dependencies) (get_by_text (out-HeldPackage k).dependencies p) (below p)

pub among-held : {S : Type 0} (rs : said.Packages) (ks : HashMap (String Global) HeldPackage S) → HoldsPackages rs ks → (whole : Text) (parts components : List Text) → held_among whole ks parts components ≡ unit_among whole rs parts components
among-held rs ks held whole [] components = refl
among-held rs ks held whole (p ∷ ps) components = led-same HoldsPackage _ _ refl (λ d. unit_in_package whole d ps components) (λ d. held_in whole d ps components) (λ d e h. h.1 whole ps components) (package_named p rs) (get_by_text ks p) (held p)

-- ---- what is made

module-seen : (m : PackageModule) → package_module_view m ≡ module_step (map-PackageModule PackageModule said.PackageModule package_module_view (out-PackageModule m))
module-seen m = ap package_module_view (sym (roll-out-PackageModule m)) ∙ fold-roll-PackageModule said.PackageModule module_step (out-PackageModule m)

package-seen : (p : Package) → package_view p ≡ package_step (map-Package Package said.Package package_view (out-Package p))
package-seen p = ap package_view (sym (roll-out-Package p)) ∙ fold-roll-Package said.Package package_step (out-Package p)

pub made-module : (m : PackageModule) (x : HeldModule-F HeldModule) → string_bytes x.name ≡ string_bytes (out-PackageModule m).name → borrowed_view x.unit ≡ borrowed_view (out-PackageModule m).unit
    → HoldsModules (package_modules_view (out-PackageModule m).modules.items) x.modules → HoldsModule (package_module_view m) (roll-HeldModule x)
made-module m x named unit below =
    subst (λ r. HoldsModule r (roll-HeldModule x)) (sym (module-seen m))
    (module-held (module_step (map-PackageModule PackageModule said.PackageModule package_module_view (out-PackageModule m))) (roll-HeldModule x)
    (ap (λ (y : HeldModule-F HeldModule). string_bytes y.name) (out-roll-HeldModule x) ∙ named)
    (ap (λ (y : HeldModule-F HeldModule). borrowed_view y.unit) (out-roll-HeldModule x) ∙ unit)
    (subst (λ (y : HeldModule-F HeldModule). HoldsModules (package_modules_view (out-PackageModule m).modules.items) y.modules) (sym (out-roll-HeldModule x)) below))

pub made-package : (p : Package) (x : HeldPackage-F HeldPackage) → HoldsModule (package_module_view (out-Package p).root) x.root
    → HoldsPackages (packages_view (out-Package p).dependencies.items) x.dependencies → HoldsPackage (package_view p) (roll-HeldPackage x)
made-package p x root below =
    subst (λ r. HoldsPackage r (roll-HeldPackage x)) (sym (package-seen p))
    (package-held (package_step (map-Package Package said.Package package_view (out-Package p))) (roll-HeldPackage x)
    (subst (λ (y : HeldPackage-F HeldPackage). HoldsModule (package_module_view (out-Package p).root) y.root) (sym (out-roll-HeldPackage x)) root)
    (subst (λ (y : HeldPackage-F HeldPackage). HoldsPackages (packages_view (out-Package p).dependencies.items) y.dependencies) (sym (out-roll-HeldPackage x)) below))

-- ---- one more

both-more : {X Y : Type 0} (P : X → Y → Type 0) (x : X) (y : Y) → P x y → (b : Bool) (o : Option X) (p : Option Y) → IsBoth P o p → IsBoth P (option_or o (if b then Some x else None)) (option_or p (if b then Some y else None))
both-more P x y h true None None both = h
both-more P x y h false None None both = tt
both-more P x y h b (Some u) (Some v) both = both
both-more P x y h b None (Some v) both = absurd both
both-more P x y h b (Some u) None both = absurd both

module-last : (n : Text) (rs : List said.PackageModule) (r : said.PackageModule) → module_named n (package_modules (rs ++ r ∷ [])) ≡ option_or (module_named n (package_modules rs)) (if bytes_eq r.name n then Some r else None)
module-last n [] r = refl
module-last n (q ∷ rs) r = by (bytes_eq q.name n) (module-last n rs r)
  where
    by : (b : Bool) → module_named n (package_modules (rs ++ r ∷ [])) ≡ option_or (module_named n (package_modules rs)) (if bytes_eq r.name n then Some r else None)
        → (if b then Some q else module_named n (package_modules (rs ++ r ∷ []))) ≡ option_or (if b then Some q else module_named n (package_modules rs)) (if bytes_eq r.name n then Some r else None)
    by true h = refl
    by false h = h

package-last : (n : Text) (rs : List said.Package) (r : said.Package) → package_named n (packages_of (rs ++ r ∷ [])) ≡ option_or (package_named n (packages_of rs)) (if bytes_eq r.root.name n then Some r else None)
package-last n [] r = refl
package-last n (q ∷ rs) r = by (bytes_eq q.root.name n) (package-last n rs r)
  where
    by : (b : Bool) → package_named n (packages_of (rs ++ r ∷ [])) ≡ option_or (package_named n (packages_of rs)) (if bytes_eq r.root.name n then Some r else None)
        → (if b then Some q else package_named n (packages_of (rs ++ r ∷ []))) ≡ option_or (if b then Some q else package_named n (packages_of rs)) (if bytes_eq r.root.name n then Some r else None)
    by true h = refl
    by false h = h

pub modules-more : {S : Type 0} (rs : List said.PackageModule) (r : said.PackageModule) (old new : HashMap (String Global) HeldModule S) (m : HeldModule) (key : Text)
    → HoldsModules (package_modules rs) old → HoldsModule r m → key ≡ held_name m
    → ((n : Text) → get_by_text new n ≡ option_or (get_by_text old n) (if bytes_eq key n then Some m else None)) → HoldsModules (package_modules (rs ++ r ∷ [])) new
modules-more rs r old new m key held one is added n =
    let both = both-more HoldsModule r m one (bytes_eq r.name n) (module_named n (package_modules rs)) (get_by_text old n) (held n) in
    subst (λ o. IsBoth HoldsModule o (get_by_text new n)) (sym (module-last n rs r))
    (subst (λ p. IsBoth HoldsModule (option_or (module_named n (package_modules rs)) (if bytes_eq r.name n then Some r else None)) p)
    (sym (added n ∙ ap (λ t. option_or (get_by_text old n) (if bytes_eq t n then Some m else None)) (is ∙ one.0))) both)

pub packages-more : {S : Type 0} (rs : List said.Package) (r : said.Package) (old new : HashMap (String Global) HeldPackage S) (k : HeldPackage) (key : Text)
    → HoldsPackages (packages_of rs) old → HoldsPackage r k → key ≡ root_name k
    → ((n : Text) → get_by_text new n ≡ option_or (get_by_text old n) (if bytes_eq key n then Some k else None)) → HoldsPackages (packages_of (rs ++ r ∷ [])) new
packages-more rs r old new k key held one is added n =
    let both = both-more HoldsPackage r k one (bytes_eq r.root.name n) (package_named n (packages_of rs)) (get_by_text old n) (held n) in
    subst (λ o. IsBoth HoldsPackage o (get_by_text new n)) (sym (package-last n rs r))
    (subst (λ p. IsBoth HoldsPackage (option_or (package_named n (packages_of rs)) (if bytes_eq r.root.name n then Some r else None)) p)
    (sym (added n ∙ ap (λ t. option_or (get_by_text old n) (if bytes_eq t n then Some k else None)) (is ∙ one.0))) both)
