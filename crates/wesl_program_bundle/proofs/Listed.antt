-- Packages and their modules, list by list.
use Rattle.std.proofs.Common.{◌≡◌, List, [], ◌∷◌, map, Bool, true, false, if◌then◌else◌, Ordering, Less, Equal, Greater, is_eq, Option, Some, None, option_map, option_and_then, bytes_eq, nat_cmp, codes, string_bytes, refl, sym, ap, ◌∙◌}
use Rattle.std.proofs.lemmas.Map.Text.{is_eq-slice_cmp}
use Rattle.std.specs.Cmp.Lexicographic.{slice_cmp}
use Rattle.std.specs.Ordering.{match_ordering}
use Rattle.serde_json.specs.Data.{Data, null, boolean, number, string, array, object, Items, no_items, item, Members, no_members, member}
use Rattle.serde_json.specs.Find.{get, get_member}
use Rattle.wesl_json_form.specs.View.{borrowed_view}
use Rattle.wesl_tree_names.specs.Path.{Text}
use Rattle.wesl_program_bundle.specs.Packages as said
use Rattle.wesl_program_bundle.specs.PackageViews.{package_modules, module_step, package_module_view, package_step, package_view, packages_of}
use Rattle.wesl_program_bundle.specs.Reading.{items_in, list_in, name_in, or_default, or_empty, required_in}
use Rattle.wesl_json_form.specs.Keys.{has_only}
use Rattle.wesl_program_bundle.specs.declared.packages.PackageModule.{PackageModule}
use Rattle.wesl_program_bundle.specs.declared.packages.PackageModule.TheOpen.{PackageModule-F}
use Rattle.wesl_program_bundle.specs.declared.packages.PackageModule.TheViews.{roll-PackageModule}
use Rattle.wesl_program_bundle.specs.declared.packages.PackageModule.TheFolds.{fold-roll-PackageModule}
use Rattle.wesl_program_bundle.specs.declared.packages.Package.{Package}
use Rattle.wesl_program_bundle.specs.declared.packages.Package.TheOpen.{Package-F}
use Rattle.wesl_program_bundle.specs.declared.packages.Package.TheViews.{roll-Package}
use Rattle.wesl_program_bundle.specs.declared.packages.Package.TheFolds.{fold-roll-Package}

mapped : {A B : Type 0} (f : A → B) (o : Option A) (y : B) → option_map f o ≡ Some y → (x : A) × (o ≡ Some x)
mapped f None y h = cc
mapped f (Some x) y h = (x, refl)

abbrev pub made-package-module : Text → Data → said.PackageModules → said.PackageModule
made-package-module name unit modules = record { name = name; unit = unit; modules = modules }

abbrev pub made-package : said.PackageModule → said.Packages → said.Package
made-package root dependencies = record { root = root; dependencies = dependencies }

-- ---- members

first_of : {A : Type 0} (default : A) (reading : Data → Option A) (b : Bool) (o : Ordering) (d : Data) (rest : Option A) (found : Option Data) → is_eq o ≡ b → rest ≡ or_default default reading found → (if b then reading d else rest) ≡ or_default default reading (match_ordering o found (Some d) found)
first_of default reading true Less d rest found is later = cc
first_of default reading true Equal d rest found is later = refl
first_of default reading true Greater d rest found is later = cc
first_of default reading false Less d rest found is later = later
first_of default reading false Equal d rest found is later = cc
first_of default reading false Greater d rest found is later = later

pub below-modules : (ms : Members) → said.modules_below ms ≡ or_default said.no_modules said.package_modules_in (get_member (codes "modules") ms)
below-modules no_members = refl
below-modules (member k d ms) =
    first_of said.no_modules said.package_modules_in (bytes_eq (codes "modules") k) (slice_cmp nat_cmp (codes "modules") k) d (said.modules_below ms) (get_member (codes "modules") ms) (is_eq-slice_cmp (codes "modules") k) (below-modules ms)

pub below-dependencies : (ms : Members) → said.dependencies_below ms ≡ or_default said.no_packages said.packages_in (get_member (codes "dependencies") ms)
below-dependencies no_members = refl
below-dependencies (member k d ms) =
    first_of said.no_packages said.packages_in (bytes_eq (codes "dependencies") k) (slice_cmp nat_cmp (codes "dependencies") k) d (said.dependencies_below ms) (get_member (codes "dependencies") ms) (is_eq-slice_cmp (codes "dependencies") k) (below-dependencies ms)

-- ---- modules

-- the modules below one that is read
abbrev pub below : Data → Option said.PackageModules
below d = or_default said.no_modules said.package_modules_in (get (codes "modules") d)

pub module_with-read : (d : Data) (name : Text) (unit : Data) (found : said.PackageModules) → required_in name_in (codes "name") d ≡ Some name → get (codes "unit") d ≡ Some unit → below d ≡ Some found → said.module_with d (below d) ≡ Some (made-package-module name unit found)
module_with-read d name unit found is_name is_unit are = rw (is_name, is_unit, are) refl

pub module-whole : (d : Data) (m : said.PackageModule) → has_only said.package_module_keys d ≡ true → said.module_with d (below d) ≡ Some m → said.package_module_in d ≡ Some m
module-whole null m known read = cc
module-whole (boolean b) m known read = cc
module-whole (number n) m known read = cc
module-whole (string s) m known read = cc
module-whole (array ds) m known read = cc
module-whole (object ms) m known read = rw (known, below-modules ms) read

each_module-listed : (ds : Items) → said.each_module ds ≡ option_map package_modules (items_in said.package_module_in ds)
each_module-listed no_items = refl
each_module-listed (item d ds) = step (said.package_module_in d) (said.each_module ds) (items_in said.package_module_in ds) (each_module-listed ds)
  where
    step : (o : Option said.PackageModule) (rest : Option said.PackageModules) (listed : Option (List said.PackageModule)) → rest ≡ option_map package_modules listed → option_and_then (λ m. option_and_then (λ ms. Some (said.module_before m ms)) rest) o ≡ option_map package_modules (option_and_then (λ m. option_and_then (λ ms. Some (m ∷ ms)) listed) o)
    step None rest listed e = refl
    step (Some m) rest None e = rw e refl
    step (Some m) rest (Some ms) e = rw e refl

modules-in : (d : Data) (xs : List said.PackageModule) → list_in said.package_module_in d ≡ Some xs → said.package_modules_in d ≡ Some (package_modules xs)
modules-in null xs h = cc
modules-in (boolean b) xs h = cc
modules-in (number n) xs h = cc
modules-in (string s) xs h = cc
modules-in (object ms) xs h = cc
modules-in (array ds) xs h = each_module-listed ds ∙ ap (option_map package_modules) h

-- the modules of a list that is there, or of none
pub modules-of-list : (o : Option Data) (xs : List said.PackageModule) → or_empty said.package_module_in o ≡ Some xs → or_default said.no_modules said.package_modules_in o ≡ Some (package_modules xs)
modules-of-list None xs h = let none : [] ≡ xs = cc in ap (λ ys. Some (package_modules ys)) none
modules-of-list (Some d) xs h = modules-in d xs h

-- a module that is made of its fields
pub module-made : (x : PackageModule-F PackageModule) → package_module_view (roll-PackageModule x) ≡ made-package-module (string_bytes x.name) (borrowed_view x.unit) (package_modules (map package_module_view x.modules.items))
module-made = fold-roll-PackageModule said.PackageModule module_step

-- ---- packages

pub package-whole : (d : Data) (root : said.PackageModule) (dependencies : said.Packages) → has_only said.package_keys d ≡ true → said.module_with d (below d) ≡ Some root → or_default said.no_packages said.packages_in (get (codes "dependencies") d) ≡ Some dependencies → said.package_in d ≡ Some (made-package root dependencies)
package-whole null root dependencies known read depend = cc
package-whole (boolean b) root dependencies known read depend = cc
package-whole (number n) root dependencies known read depend = cc
package-whole (string s) root dependencies known read depend = cc
package-whole (array ds) root dependencies known read depend = cc
package-whole (object ms) root dependencies known read depend = rw (known, below-modules ms, read, below-dependencies ms, depend) refl

each_package-listed : (ds : Items) → said.each_package ds ≡ option_map packages_of (items_in said.package_in ds)
each_package-listed no_items = refl
each_package-listed (item d ds) = step (said.package_in d) (said.each_package ds) (items_in said.package_in ds) (each_package-listed ds)
  where
    step : (o : Option said.Package) (rest : Option said.Packages) (listed : Option (List said.Package)) → rest ≡ option_map packages_of listed → option_and_then (λ p. option_and_then (λ ps. Some (said.package_before p ps)) rest) o ≡ option_map packages_of (option_and_then (λ p. option_and_then (λ ps. Some (p ∷ ps)) listed) o)
    step None rest listed e = refl
    step (Some p) rest None e = rw e refl
    step (Some p) rest (Some ps) e = rw e refl

packages-in : (d : Data) (xs : List said.Package) → list_in said.package_in d ≡ Some xs → said.packages_in d ≡ Some (packages_of xs)
packages-in null xs h = cc
packages-in (boolean b) xs h = cc
packages-in (number n) xs h = cc
packages-in (string s) xs h = cc
packages-in (object ms) xs h = cc
packages-in (array ds) xs h = each_package-listed ds ∙ ap (option_map packages_of) h

-- the packages of a list that is there, or of none
pub packages-of-list : (o : Option Data) (xs : List said.Package) → or_empty said.package_in o ≡ Some xs → or_default said.no_packages said.packages_in o ≡ Some (packages_of xs)
packages-of-list None xs h = let none : [] ≡ xs = cc in ap (λ ys. Some (packages_of ys)) none
packages-of-list (Some d) xs h = packages-in d xs h

-- what is read as modules is a list of such
pub modules-listed : (d : Data) (x : said.PackageModules) → said.package_modules_in d ≡ Some x → (xs : List said.PackageModule) × (list_in said.package_module_in d ≡ Some xs)
modules-listed null x h = cc
modules-listed (boolean b) x h = cc
modules-listed (number n) x h = cc
modules-listed (string s) x h = cc
modules-listed (object ms) x h = cc
modules-listed (array ds) x h = mapped package_modules (items_in said.package_module_in ds) x (sym (each_module-listed ds) ∙ h)

-- what is read as packages is a list of such
pub packages-listed : (d : Data) (x : said.Packages) → said.packages_in d ≡ Some x → (xs : List said.Package) × (list_in said.package_in d ≡ Some xs)
packages-listed null x h = cc
packages-listed (boolean b) x h = cc
packages-listed (number n) x h = cc
packages-listed (string s) x h = cc
packages-listed (object ms) x h = cc
packages-listed (array ds) x h = mapped packages_of (items_in said.package_in ds) x (sym (each_package-listed ds) ∙ h)

-- a package that is made of its fields
pub package-made : (x : Package-F Package) → package_view (roll-Package x) ≡ made-package (package_module_view x.root) (packages_of (map package_view x.dependencies.items))
package-made = fold-roll-Package said.Package package_step
