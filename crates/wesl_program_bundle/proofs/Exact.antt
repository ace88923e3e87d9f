-- A value that breaks a form has no reading in that form.
use Rattle.std.proofs.Common.{◌≡◌, ℕ, zero, suc, List, [], ◌∷◌, map, Bool, true, false, true≢false, ◌||◌, if◌then◌else◌, Ordering, Less, Equal, Greater, Option, Some, None, option_map, option_and_then, bytes_eq, nat_cmp, codes, refl, sym, ap, ◌∙◌, subst, inl, inr}
use Rattle.std.proofs.lemmas.Slice.Eq.{bytes_eq-Decides}
use Rattle.std.specs.Cmp.Lexicographic.{slice_cmp}
use Rattle.std.specs.Ordering.{match_ordering}
use Rattle.serde_json.specs.Data.{Data, null, boolean, number, string, array, object, Items, no_items, item, Members, no_members, member}
use Rattle.serde_json.specs.Find.{as_array, as_bool, as_object, as_str, at, get, get_item, get_member}
use Rattle.serde_json.specs.Written.{has_float, members_have_float}
use Rattle.wesl_tree_names.specs.Path.{Path, Text}
use Rattle.wesl_program_bundle.specs.Bundle as spec
use Rattle.wesl_cond_features.specs.declared.features.Feature.{Feature}
use Rattle.wesl_program_bundle.specs.declared.options.Naming.{Naming}
use Rattle.wesl_program_bundle.specs.Builtins.{Builtins, builtins_in, builtins_keys, builtins_of_members}
use Rattle.wesl_program_bundle.specs.Features.{Features, Flag, feature_in, features_in, features_keys, features_of_members, flags_in, flags_of}
use Rattle.wesl_program_bundle.specs.Forms.{BreaksAt, Field, Form, HasFormAt, IsBrokenBundle, IsWrong, IsWrongObject, a_bundle, a_feature, a_form, a_limit, a_list_of, a_mangler, a_module, a_name, a_package, a_package_module, a_path, a_text, a_truth, a_unit, an_object_of, fields, find_field, optional, required, some_builtins, some_features}
use Rattle.wesl_program_bundle.specs.Packages as said
use Rattle.wesl_program_bundle.specs.Place.{IsFloatAt}
use Rattle.wesl_json_form.specs.Keys.{HasMember}
use Rattle.wesl_json_form.specs.Pointer.{Part, index, key}
use Rattle.wesl_program_bundle.specs.Reading.{items_in, list_in, name_in, optional_in, or_default, or_empty, path_in, required_in}
use Rattle.wesl_json_form.specs.Keys.{has_only}
use Rattle.wesl_cond_features.specs.declared.features.Feature.TheVariants as feature
use Rattle.wesl_program_bundle.specs.declared.options.Naming.TheVariants as naming
use Rattle.wesl_program_bundle.proofs.Flags.{object-get}
use Rattle.wesl_program_bundle.proofs.Listed.{below-dependencies, below-modules, made-package, made-package-module, modules-listed, packages-listed}
use mathlib.Core.Bool.{or-true}
use Rattle.wesl_json_form.proofs.Broken.{items-float}

-- ---- options that are all there

abbrev Given : {A : Type 0} → Option A → Type 0
Given {A = A} o = (x : A) × (o ≡ Some x)

all2 : {A B R : Type 0} (mk : A → B → R) (a : Option A) (b : Option B) (r : R) → option_and_then (λ x. option_and_then (λ y. Some (mk x y)) b) a ≡ Some r → Given a × Given b
all2 mk None b r h = cc
all2 mk (Some x) None r h = cc
all2 mk (Some x) (Some y) r h = ((x, refl), (y, refl))

all3 : {A B C R : Type 0} (mk : A → B → C → R) (a : Option A) (b : Option B) (c : Option C) (r : R) → option_and_then (λ x. option_and_then (λ y. option_and_then (λ z. Some (mk x y z)) c) b) a ≡ Some r → Given a × Given b × Given c
all3 mk None b c r h = cc
all3 mk (Some x) None c r h = cc
all3 mk (Some x) (Some y) None r h = cc
all3 mk (Some x) (Some y) (Some z) r h = ((x, refl), (y, refl), (z, refl))

all5 : {A B C D E R : Type 0} (mk : A → B → C → D → E → R) (a : Option A) (b : Option B) (c : Option C) (d : Option D) (e : Option E) (r : R) → option_and_then (λ v. option_and_then (λ w. option_and_then (λ x. option_and_then (λ y. option_and_then (λ z. Some (mk v w x y z)) e) d) c) b) a ≡ Some r → Given a × Given b × Given c × Given d × Given e
all5 mk None b c d e r h = cc
all5 mk (Some v) None c d e r h = cc
all5 mk (Some v) (Some w) None d e r h = cc
all5 mk (Some v) (Some w) (Some x) None e r h = cc
all5 mk (Some v) (Some w) (Some x) (Some y) None r h = cc
all5 mk (Some v) (Some w) (Some x) (Some y) (Some z) r h = ((v, refl), (w, refl), (x, refl), (y, refl), (z, refl))

all7 : {A B C D E F G R : Type 0} (mk : A → B → C → D → E → F → G → R) (a : Option A) (b : Option B) (c : Option C) (d : Option D) (e : Option E) (f : Option F) (g : Option G) (r : R)
    → option_and_then (λ t. option_and_then (λ u. option_and_then (λ v. option_and_then (λ w. option_and_then (λ x. option_and_then (λ y. option_and_then (λ z. Some (mk t u v w x y z)) g) f) e) d) c) b) a ≡ Some r
    → Given a × Given b × Given c × Given d × Given e × Given f × Given g
all7 mk None b c d e f g r h = cc
all7 mk (Some t) None c d e f g r h = cc
all7 mk (Some t) (Some u) None d e f g r h = cc
all7 mk (Some t) (Some u) (Some v) None e f g r h = cc
all7 mk (Some t) (Some u) (Some v) (Some w) None f g r h = cc
all7 mk (Some t) (Some u) (Some v) (Some w) (Some x) None g r h = cc
all7 mk (Some t) (Some u) (Some v) (Some w) (Some x) (Some y) None r h = cc
all7 mk (Some t) (Some u) (Some v) (Some w) (Some x) (Some y) (Some z) r h = ((t, refl), (u, refl), (v, refl), (w, refl), (x, refl), (y, refl), (z, refl))

and_given : {A B : Type 0} (f : A → Option B) (o : Option A) (y : B) → option_and_then f o ≡ Some y → (x : A) × (o ≡ Some x) × (f x ≡ Some y)
and_given f None y h = cc
and_given f (Some x) y h = (x, refl, h)

if_given : {A : Type 0} (b : Bool) (o : Option A) (y : A) → (if b then o else None) ≡ Some y → (b ≡ true) × (o ≡ Some y)
if_given true o y h = (refl, h)
if_given false o y h = cc

map_given : {A B : Type 0} (f : A → B) (o : Option A) (y : B) → option_map f o ≡ Some y → Given o
map_given f None y h = cc
map_given f (Some x) y h = (x, refl)

-- ---- what is made of parts

abbrev flag-before : Text → Feature → List Flag → List Flag
flag-before name answer fs = (record { named = name; answer = answer }) ∷ fs

abbrev made-module : Path → Data → spec.Module
made-module path unit = record { path = path; unit = unit }

abbrev made-options : Naming → Bool → Bool → ℕ → Bool → spec.Options
made-options mangler root eager limit spans = record { mangler = mangler; mangle_root = root; eager = eager; max_modules = limit; spans = spans }

abbrev made-features : Feature → List Flag → Features
made-features default flags = record { default = default; flags = flags }

abbrev made-builtins : List Text → List Text → List Text → Builtins
made-builtins names functions constructors = record { names = names; functions = functions; constructors = constructors }

abbrev made-bundle : Path → List Text → List spec.Module → said.Packages → Option Features → spec.Options → Option Builtins → spec.Bundle
made-bundle root keep modules packages features options builtins = record { root = root; keep = keep; modules = modules; packages = packages; features = features; options = options; builtins = builtins }

-- ---- readings by form

abbrev HasReading : Form → Data → Type 0
HasReading a_bundle d = Given (spec.bundle_in d)
HasReading a_path d = Given (path_in d)
HasReading a_name d = Given (name_in d)
HasReading a_text d = Given (as_str d)
HasReading a_module d = Given (spec.module_in d)
HasReading a_unit d = Unit {0}
HasReading a_package d = Given (said.package_in d)
HasReading a_package_module d = Given (said.package_module_in d)
HasReading some_features d = Given (features_in d)
HasReading a_feature d = Given (feature_in d)
HasReading a_mangler d = Given (spec.naming_in d)
HasReading a_truth d = Given (as_bool d)
HasReading a_limit d = Given (spec.limit_in d)
HasReading a_form d = Given (spec.form_in d)
HasReading some_builtins d = Given (builtins_in d)
HasReading (a_list_of f) d = (ds : Items) × (as_array d ≡ Some ds) × ((i : ℕ) (e : Data) → get_item i ds ≡ Some e → HasReading f e)
HasReading (an_object_of f) d = (ms : Members) × (as_object d ≡ Some ms) × ((k : Text) (e : Data) → get_member k ms ≡ Some e → HasReading f e)

-- where the value at a member's key is this
abbrev IsFieldRead : Field → Option Data → Type 0
IsFieldRead f o = (f.is_required ≡ true → o ≡ None → ⊥) × ((e : Data) → o ≡ Some e → HasReading f.form e)

abbrev AreFieldsRead : List Field → Data → Type 0
AreFieldsRead [] d = Unit {0}
AreFieldsRead (f ∷ fs) d = IsFieldRead f (get f.named d) × AreFieldsRead fs d

needed : {A : Type 0} (reading : Data → Option A) (k : Text) (g : Form) → ((e : Data) → Given (reading e) → HasReading g e) → (o : Option Data) → Given (option_and_then reading o) → IsFieldRead (required k g) o
needed reading k g goes None h = cc (h.1)
needed reading k g goes (Some v) h = (λ must none. cc none, λ e same. let at_e : v ≡ e = cc in subst (λ x. HasReading g x) at_e (goes v h))

may : {A : Type 0} (reading : Option Data → Option A) (k : Text) (g : Form) → ((e : Data) → Given (reading (Some e)) → HasReading g e) → (o : Option Data) → Given (reading o) → IsFieldRead (optional k g) o
may reading k g goes None h = (λ must none. cc must, λ e same. cc same)
may reading k g goes (Some v) h = (λ must none. cc must, λ e same. let at_e : v ≡ e = cc in subst (λ x. HasReading g x) at_e (goes v h))

there : (k : Text) (o : Option Data) → Given o → IsFieldRead (required k a_unit) o
there k None h = cc (h.1)
there k (Some v) h = (λ must none. cc none, λ e same. tt)

-- ---- lists and flags

items-read : {A : Type 0} (reading : Data → Option A) (g : Form) → ((e : Data) → Given (reading e) → HasReading g e) → (ds : Items) → Given (items_in reading ds) → (i : ℕ) (e : Data) → get_item i ds ≡ Some e → HasReading g e
items-read reading g goes no_items h i e found = cc found
items-read reading g goes (item d ds) h zero e found =
    let both = all2 (λ x xs. x ∷ xs) (reading d) (items_in reading ds) h.0 h.1 in
    let at_e : d ≡ e = cc in
    subst (λ x. HasReading g x) at_e (goes d both.0)
items-read reading g goes (item d ds) h (suc i) e found =
    let both = all2 (λ x xs. x ∷ xs) (reading d) (items_in reading ds) h.0 h.1 in
    items-read reading g goes ds both.1 i e found

list-read : {A : Type 0} (reading : Data → Option A) (g : Form) → ((e : Data) → Given (reading e) → HasReading g e) → (d : Data) → Given (list_in reading d) → HasReading (a_list_of g) d
list-read reading g goes d h =
    let both = and_given (items_in reading) (as_array d) h.0 h.1 in
    (both.0, both.1, items-read reading g goes both.0 (h.0, both.2))

flags-read : (ms : Members) → Given (flags_of ms) → (k : Text) (e : Data) → get_member k ms ≡ Some e → HasReading a_feature e
flags-read no_members h k e found = cc found
flags-read (member l d ms) h k e found =
    let both = all2 (flag-before l) (feature_in d) (flags_of ms) h.0 h.1 in
    pick (slice_cmp nat_cmp k l) found (flags-read ms both.1 k e) both.0
  where
    pick : (o : Ordering) → match_ordering o (get_member k ms) (Some d) (get_member k ms) ≡ Some e → (get_member k ms ≡ Some e → HasReading a_feature e) → Given (feature_in d) → HasReading a_feature e
    pick Less found later here = later found
    pick Equal found later here = let at_e : d ≡ e = cc in subst (λ x. HasReading a_feature x) at_e here
    pick Greater found later here = later found

flags-there : (e : Data) → Given (flags_in e) → HasReading (an_object_of a_feature) e
flags-there e x =
    let both = and_given flags_of (as_object e) x.0 x.1 in
    (both.0, both.1, flags-read both.0 (x.0, both.2))

-- ---- objects

-- an object of this form has known keys alone, and its members are read
abbrev IsObjectRead : Form → Data → Type 0
IsObjectRead g d = (has_only (map (λ f. f.named) (fields g)) d ≡ true) × AreFieldsRead (fields g) d

module-object : (d : Data) → Given (spec.module_in d) → IsObjectRead a_module d
module-object d h =
    let known = if_given (has_only spec.module_keys d) (spec.module_of_members d) h.0 h.1 in
    let parts = all2 made-module (required_in path_in (codes "path") d) (get (codes "unit") d) h.0 known.1 in
    (known.0, (needed path_in (codes "path") a_path (λ e x. x) (get (codes "path") d) parts.0, (there (codes "unit") (get (codes "unit") d) parts.1, tt)))

options-parts : (d : Data) → Given (spec.options_in d) → IsFieldRead (optional (codes "mangler") a_mangler) (get (codes "mangler") d) × IsFieldRead (optional (codes "mangle_root") a_truth) (get (codes "mangle_root") d) × IsFieldRead (optional (codes "eager") a_truth) (get (codes "eager") d) × IsFieldRead (optional (codes "max_modules") a_limit) (get (codes "max_modules") d) × IsFieldRead (optional (codes "form") a_form) (get (codes "form") d)
options-parts d h =
    let parts = all5 made-options (or_default naming.Escape spec.naming_in (get (codes "mangler") d)) (or_default false as_bool (get (codes "mangle_root") d)) (or_default false as_bool (get (codes "eager") d)) (or_default 1000 spec.limit_in (get (codes "max_modules") d)) (or_default false spec.form_in (get (codes "form") d)) h.0 h.1 in (
      may (or_default naming.Escape spec.naming_in) (codes "mangler") a_mangler (λ e x. x) (get (codes "mangler") d) parts.0,
      may (or_default false as_bool) (codes "mangle_root") a_truth (λ e x. x) (get (codes "mangle_root") d) parts.1,
      may (or_default false as_bool) (codes "eager") a_truth (λ e x. x) (get (codes "eager") d) parts.2,
      may (or_default 1000 spec.limit_in) (codes "max_modules") a_limit (λ e x. x) (get (codes "max_modules") d) parts.3,
      may (or_default false spec.form_in) (codes "form") a_form (λ e x. x) (get (codes "form") d) parts.4,
    )

features-object : (d : Data) → Given (features_in d) → IsObjectRead some_features d
features-object d h =
    let known = if_given (has_only features_keys d) (features_of_members d) h.0 h.1 in
    let parts = all2 made-features (or_default feature.Disable feature_in (get (codes "default") d)) (or_default [] flags_in (get (codes "flags") d)) h.0 known.1 in
    let first = may (or_default feature.Disable feature_in) (codes "default") a_feature (λ e x. x) (get (codes "default") d) parts.0 in
    let second = may (or_default [] flags_in) (codes "flags") (an_object_of a_feature) flags-there (get (codes "flags") d) parts.1 in
    (known.0, (first, (second, tt)))

texts-there : (k : Text) (o : Option Data) → Given (or_empty as_str o) → IsFieldRead (optional k (a_list_of a_text)) o
texts-there k o h = may (or_empty as_str) k (a_list_of a_text) (λ e x. list-read as_str a_text (λ e y. y) e x) o h

builtins-object : (d : Data) → Given (builtins_in d) → IsObjectRead some_builtins d
builtins-object d h =
    let known = if_given (has_only builtins_keys d) (builtins_of_members d) h.0 h.1 in
    let parts = all3 made-builtins (or_empty as_str (get (codes "names") d)) (or_empty as_str (get (codes "functions") d)) (or_empty as_str (get (codes "constructors") d)) h.0 known.1 in
    let names = texts-there (codes "names") (get (codes "names") d) parts.0 in
    let functions = texts-there (codes "functions") (get (codes "functions") d) parts.1 in
    let constructors = texts-there (codes "constructors") (get (codes "constructors") d) parts.2 in
    (known.0, (names, (functions, (constructors, tt))))

module-parts : (d : Data) (below : Option said.PackageModules) → Given (said.module_with d below) → IsFieldRead (required (codes "name") a_name) (get (codes "name") d) × IsFieldRead (required (codes "unit") a_unit) (get (codes "unit") d) × Given below
module-parts d below h =
    let parts = all3 made-package-module (required_in name_in (codes "name") d) (get (codes "unit") d) below h.0 h.1 in
    (needed name_in (codes "name") a_name (λ e x. x) (get (codes "name") d) parts.0, there (codes "unit") (get (codes "unit") d) parts.1, parts.2)

modules-field : (ms : Members) → Given (said.modules_below ms) → IsFieldRead (optional (codes "modules") (a_list_of a_package_module)) (get (codes "modules") (object ms))
modules-field ms h =
    may (or_default said.no_modules said.package_modules_in) (codes "modules") (a_list_of a_package_module) (λ e x. list-read said.package_module_in a_package_module (λ e y. y) e (modules-listed e x.0 x.1)) (get (codes "modules") (object ms)) (h.0, sym (below-modules ms) ∙ h.1)

not-given : {A P : Type 0} → Given {A = A} None → P
not-given h = absurd (let no : ⊥ = cc (h.1) in no)

package-module-object : (d : Data) → Given (said.package_module_in d) → IsObjectRead a_package_module d
package-module-object null h = not-given h
package-module-object (boolean b) h = not-given h
package-module-object (number n) h = not-given h
package-module-object (string s) h = not-given h
package-module-object (array ds) h = not-given h
package-module-object (object ms) h =
    let known = if_given (has_only said.package_module_keys (object ms)) (said.module_with (object ms) (said.modules_below ms)) h.0 h.1 in
    let parts = module-parts (object ms) (said.modules_below ms) (h.0, known.1) in
    (known.0, (parts.0, (parts.1, (modules-field ms parts.2, tt))))

package-object : (d : Data) → Given (said.package_in d) → IsObjectRead a_package d
package-object null h = not-given h
package-object (boolean b) h = not-given h
package-object (number n) h = not-given h
package-object (string s) h = not-given h
package-object (array ds) h = not-given h
package-object (object ms) h =
    let root = said.module_with (object ms) (said.modules_below ms) in
    let known = if_given (has_only said.package_keys (object ms)) (said.package_with root (said.dependencies_below ms)) h.0 h.1 in
    let both = all2 made-package root (said.dependencies_below ms) h.0 known.1 in
    let parts = module-parts (object ms) (said.modules_below ms) both.0 in
    let depend = may (or_default said.no_packages said.packages_in) (codes "dependencies") (a_list_of a_package) (λ e x. list-read said.package_in a_package (λ e y. y) e (packages-listed e x.0 x.1)) (get (codes "dependencies") (object ms)) (both.1.0, sym (below-dependencies ms) ∙ both.1.1) in
    (known.0, (parts.0, (parts.1, (modules-field ms parts.2, (depend, tt)))))

bundle-object : (d : Data) → Given (spec.bundle_in d) → IsObjectRead a_bundle d
bundle-object d h =
    let known = if_given (has_only spec.bundle_keys d) (spec.bundle_of_members d) h.0 h.1 in
    let parts = all7 made-bundle (required_in path_in (codes "root") d) (or_empty name_in (get (codes "keep") d)) (or_empty spec.module_in (get (codes "modules") d)) (or_default said.no_packages said.packages_in (get (codes "packages") d)) (optional_in features_in (get (codes "features") d)) (spec.options_in d) (optional_in builtins_in (get (codes "builtins") d)) h.0 known.1 in
    let options = options-parts d parts.5 in
    let root = needed path_in (codes "root") a_path (λ e x. x) (get (codes "root") d) parts.0 in
    let keep = may (or_empty name_in) (codes "keep") (a_list_of a_name) (λ e x. list-read name_in a_name (λ e y. y) e x) (get (codes "keep") d) parts.1 in
    let modules = may (or_empty spec.module_in) (codes "modules") (a_list_of a_module) (λ e x. list-read spec.module_in a_module (λ e y. y) e x) (get (codes "modules") d) parts.2 in
    let packages = may (or_default said.no_packages said.packages_in) (codes "packages") (a_list_of a_package) (λ e x. list-read said.package_in a_package (λ e y. y) e (packages-listed e x.0 x.1)) (get (codes "packages") d) parts.3 in
    let features = may (optional_in features_in) (codes "features") some_features (λ e x. map_given Some (features_in e) x.0 x.1) (get (codes "features") d) parts.4 in
    let builtins = may (optional_in builtins_in) (codes "builtins") some_builtins (λ e x. map_given Some (builtins_in e) x.0 x.1) (get (codes "builtins") d) parts.6 in
    (known.0, (root, (keep, (modules, (packages, (features, (options.0, (options.1, (options.2, (options.3, (options.4, (builtins, tt))))))))))))

fields-read : (g : Form) (d : Data) → HasReading g d → AreFieldsRead (fields g) d
fields-read a_bundle d h = (bundle-object d h).1
fields-read a_path d h = tt
fields-read a_name d h = tt
fields-read a_text d h = tt
fields-read a_module d h = (module-object d h).1
fields-read a_unit d h = tt
fields-read a_package d h = (package-object d h).1
fields-read a_package_module d h = (package-module-object d h).1
fields-read some_features d h = (features-object d h).1
fields-read a_feature d h = tt
fields-read a_mangler d h = tt
fields-read a_truth d h = tt
fields-read a_limit d h = tt
fields-read a_form d h = tt
fields-read some_builtins d h = (builtins-object d h).1
fields-read (a_list_of f) d h = tt
fields-read (an_object_of f) d h = tt

-- ---- no reading where the form is broken

lack : (fs : List Field) (d : Data) (k : Text) → option_map (λ f. f.is_required) (find_field k fs) ≡ Some true → get k d ≡ None → AreFieldsRead fs d → ⊥
lack [] d k must none read = cc
lack (f ∷ fs) d k must none read = at_key (bytes_eq k f.named) refl must (λ later. lack fs d k later none read.1)
  where
    at_key : (b : Bool) → bytes_eq k f.named ≡ b → option_map (λ x. x.is_required) (if b then Some f else find_field k fs) ≡ Some true → (option_map (λ x. x.is_required) (find_field k fs) ≡ Some true → ⊥) → ⊥
    at_key true is must next =
        let is_required : f.is_required ≡ true = cc in
        read.0.0 is_required (ap (λ x. get x d) (sym ((bytes_eq-Decides k f.named).0 is)) ∙ none)
    at_key false is must next = next must

field-read : (fs : List Field) (d e : Data) (k : Text) (g : Form) → option_map (λ f. f.form) (find_field k fs) ≡ Some g → get k d ≡ Some e → AreFieldsRead fs d → HasReading g e
field-read [] d e k g form found read = cc
field-read (f ∷ fs) d e k g form found read = at_key (bytes_eq k f.named) refl form (λ later. field-read fs d e k g later found read.1)
  where
    at_key : (b : Bool) → bytes_eq k f.named ≡ b → option_map (λ x. x.form) (if b then Some f else find_field k fs) ≡ Some g → (option_map (λ x. x.form) (find_field k fs) ≡ Some g → HasReading g e) → HasReading g e
    at_key true is form next =
        let same : f.form ≡ g = cc in
        subst (λ x. HasReading x e) same (read.0.1 e (ap (λ x. get x d) (sym ((bytes_eq-Decides k f.named).0 is)) ∙ found))
    at_key false is form next = next form

wrong-object : (g : Form) (d : Data) → IsObjectRead g d → IsWrongObject (fields g) d → ⊥
wrong-object g d read (inl unknown) = true≢false (sym read.0 ∙ unknown)
wrong-object g d read (inr lacks) = lack (fields g) d lacks.0 lacks.1 lacks.2 read.1

none-given : {A : Type 0} (o : Option A) → o ≡ None → Given o → ⊥
none-given None none h = cc (h.1)
none-given (Some x) none h = cc none

wrong-unread : (g : Form) (d : Data) → IsWrong g d → HasReading g d → ⊥
wrong-unread a_bundle d wrong h = wrong-object a_bundle d (bundle-object d h) wrong
wrong-unread a_path d wrong h = none-given (path_in d) wrong h
wrong-unread a_name d wrong h = none-given (name_in d) wrong h
wrong-unread a_text d wrong h = none-given (as_str d) wrong h
wrong-unread a_module d wrong h = wrong-object a_module d (module-object d h) wrong
wrong-unread a_unit d wrong h = absurd wrong
wrong-unread a_package d wrong h = wrong-object a_package d (package-object d h) wrong
wrong-unread a_package_module d wrong h = wrong-object a_package_module d (package-module-object d h) wrong
wrong-unread some_features d wrong h = wrong-object some_features d (features-object d h) wrong
wrong-unread a_feature d wrong h = none-given (feature_in d) wrong h
wrong-unread a_mangler d wrong h = none-given (spec.naming_in d) wrong h
wrong-unread a_truth d wrong h = none-given (as_bool d) wrong h
wrong-unread a_limit d wrong h = none-given (spec.limit_in d) wrong h
wrong-unread a_form d wrong h = none-given (spec.form_in d) wrong h
wrong-unread some_builtins d wrong h = wrong-object some_builtins d (builtins-object d h) wrong
wrong-unread (a_list_of f) d wrong h = none-given (as_array d) wrong (h.0, h.1)
wrong-unread (an_object_of f) d wrong h = none-given (as_object d) wrong (h.0, h.1)

member-read : (f : Form) (d e : Data) (k : Text) (g : Form) → HasFormAt f k g → get k d ≡ Some e → HasReading f d → HasReading g e
member-read f d e k g (inl form) found h = field-read (fields f) d e k g form found (fields-read f d h)
member-read f d e k g (inr is) found h =
    let all : HasReading (an_object_of g) d = subst (λ x. HasReading x d) is h in
    all.2 k e (sym (object-get k d all.0 all.1) ∙ found)

item-of : (d : Data) (ds : Items) (i : ℕ) → as_array d ≡ Some ds → at i d ≡ get_item i ds
item-of null ds i h = cc
item-of (boolean b) ds i h = cc
item-of (number n) ds i h = cc
item-of (string s) ds i h = cc
item-of (array es) ds i h = let same : es ≡ ds = cc in ap (get_item i) same
item-of (object ms) ds i h = cc

item-read : (f : Form) (d e : Data) (i : ℕ) (g : Form) → f ≡ a_list_of g → at i d ≡ Some e → HasReading f d → HasReading g e
item-read f d e i g is found h =
    let all : HasReading (a_list_of g) d = subst (λ x. HasReading x d) is h in
    all.2 i e (sym (item-of d all.0 i all.1) ∙ found)

unread : (f : Form) (path : List Part) (d : Data) → BreaksAt f path d → HasReading f d → ⊥
unread f [] d wrong h = wrong-unread f d wrong h
unread f (key k ∷ path) d breaks h = unread breaks.0 path breaks.1 breaks.4 (member-read f d breaks.1 k breaks.0 breaks.2 breaks.3 h)
unread f (index i ∷ path) d breaks h = unread breaks.0 path breaks.1 breaks.4 (item-read f d breaks.1 i breaks.0 breaks.2 breaks.3 h)

-- ---- numbers

float-member : (k : Text) (e : Data) (ms : Members) → HasMember k e ms → has_float e ≡ true → members_have_float ms ≡ true
float-member k e no_members has here = absurd has
float-member k e (member l d ms) (inl same) here = ap (λ x. has_float x || members_have_float ms) (sym same.1) ∙ ap (λ b. b || members_have_float ms) here
float-member k e (member l d ms) (inr has) here = ap (λ b. has_float d || b) (float-member k e ms has here) ∙ or-true (has_float d)

pub float-there : (path : List Part) (d : Data) → IsFloatAt path d → has_float d ≡ true
float-there [] null h = cc
float-there [] (boolean b) h = cc
float-there [] (number n) h = cc
float-there [] (string s) h = cc
float-there [] (array ds) h = cc
float-there [] (object ms) h = cc
float-there (key k ∷ path) d h = in_object d h.2 (float-member k h.1 h.0 h.3 (float-there path h.1 h.4))
  where
    in_object : (d : Data) {ms : Members} → as_object d ≡ Some ms → members_have_float ms ≡ true → has_float d ≡ true
    in_object null is here = cc
    in_object (boolean b) is here = cc
    in_object (number n) is here = cc
    in_object (string s) is here = cc
    in_object (array ds) is here = cc
    in_object (object os) {ms} is here = let same : os ≡ ms = cc in ap members_have_float same ∙ here
float-there (index i ∷ path) d h = in_array d h.1 (float-there path h.0 h.2)
  where
    in_array : (d : Data) {e : Data} → at i d ≡ Some e → has_float e ≡ true → has_float d ≡ true
    in_array null found here = cc
    in_array (boolean b) found here = cc
    in_array (number n) found here = cc
    in_array (string s) found here = cc
    in_array (array ds) {e} found here = items-float i e ds found here
    in_array (object ms) found here = cc

-- what breaks the form of a bundle is none
pub no-bundle : (d : Data) (place : Text) → IsBrokenBundle d place → spec.bundle_of d ≡ None
no-bundle d place (inl float) = rw (float-there float.0 d float.2) refl
no-bundle d place (inr broken) = none_there (has_float d) (spec.bundle_in d) (λ x is. unread a_bundle broken.0 d broken.2 (x, is))
  where
    none_there : (b : Bool) (o : Option spec.Bundle) → ((x : spec.Bundle) → o ≡ Some x → ⊥) → (if b then None else o) ≡ None
    none_there true o never = refl
    none_there false None never = refl
    none_there false (Some x) never = absurd (never x refl)

-- a bundle whose numbers are read as whole ones
pub whole-bundle : (d : Data) (b : spec.Bundle) → has_float d ≡ false → spec.bundle_in d ≡ Some b → spec.bundle_of d ≡ Some b
whole-bundle d b whole read = rw whole read
