-- Where the parts of a name and the components of a path lead, a step at a time.
use Rattle.std.proofs.Common.{◌≡◌, ◌≤◌, ◌<◌, ◌+◌, ℕ, List, [], ◌∷◌, Some, None, Result, Ok, Err, IfOk, IfErr, Bor, String, string_bytes, codes, map, get_or, drop, length, arith, subst, sym, ap, ◌∙◌, refl}
use Rattle.std.specs.declared.alloc.Global.{Global}
use Rattle.std.specs.List.{find, IsFirstAndRest}
use Rattle.std.proofs.lemmas.List.{at_drop_more, at_drop_all}
use Rattle.wesl_tree_names.specs.Path.{Text, Path, path_view, origin_view}
use Rattle.wesl_tree_base.specs.Pieces.{cut, slash}
use Rattle.wesl_tree_base.specs.Borrowed.{texts}
use Rattle.wesl_tree_names.specs.Errors.{OrMemory, IsModuleNotFound}
use Rattle.wesl_tree_names.specs.declared.path.ModulePath.{ModulePath}
use Rattle.wesl_tree_names.specs.declared.path.PathOrigin.{PathOrigin}
use Rattle.wesl_tree_names.specs.declared.path.PathOrigin.TheVariants.{Absolute, Relative, Package}
use Rattle.wesl_tree_names.specs.declared.errors.ResolveError.{ResolveError}
use Rattle.wesl_resolve_base.specs.Packages.{has_name, root_has_name, no_submodule, no_package, no_dependency, module_name, module_below, package_below, package_at, module_at, module_in, module_from, IsSaid, IsMissingIn}
use Rattle.wesl_resolve_base.specs.declared.packages.CodegenModule.{CodegenModule, out-CodegenModule}
use Rattle.wesl_resolve_base.specs.declared.packages.CodegenPkg.{CodegenPkg, out-CodegenPkg}
use Rattle.wesl_resolve_base.proofs.ResultLemmas.{IfOk-to, OrMemory-to, refused-to}

-- nothing was found, and the refusal says what is said of that
pub said : {X : Type 0} (p : Path) (found : Result X Text) (message : Text) (e : ResolveError) → found ≡ Err message → OrMemory (IsModuleNotFound p message) e → OrMemory (IsSaid p found) e
said p found message e is = OrMemory-to (IsModuleNotFound p message) (IsSaid p found) (λ x h. (message, is, h)) e

-- what is said of what was asked for is said of all that leads there
pub IsSaid-of : {X : Type 0} (p : Path) (found asked : Result X Text) → found ≡ asked → (e : ResolveError) → IsSaid p asked e → IsSaid p found e
IsSaid-of p found asked same e h = (h.0, same ∙ h.1, h.2)

pub found-as : {X A E : Type 0} (now : A → X) (found asked : Result X Text) → found ≡ asked → (r : Result A E) → IfOk r (λ a. asked ≡ Ok (now a)) → IfOk r (λ a. found ≡ Ok (now a))
found-as now found asked same = IfOk-to _ _ (λ a h. same ∙ h)

pub missing-as : {X A : Type 0} (p : Path) (found asked : Result X Text) → found ≡ asked → (r : Result A ResolveError) → IfErr r (OrMemory (IsSaid p asked)) → IfErr r (OrMemory (IsSaid p found))
missing-as p found asked same = refused-to (IsSaid p asked) (IsSaid p found) (IsSaid-of p found asked same)

-- the submodule that was found leads on
pub module_below-step : (m next : CodegenModule) (names : List (String Global)) (i : ℕ) (name : String Global) (text : Text) → i < length names → name ≡ get_or names i name → text ≡ string_bytes name
    → Some next ≡ find (has_name text) (out-CodegenModule m).submodules.items → module_below m (map string_bytes (drop i names)) ≡ module_below next (map string_bytes (drop (i + 1) names))
module_below-step m next names i name text less at is found =
    let Below : Text → Type 0 = λ t. Some next ≡ find (has_name t) (out-CodegenModule m).submodules.items in
    let here = subst Below (is ∙ ap string_bytes at) found in
    at_drop_more (λ ns. module_below m (map string_bytes ns)) names i name less ∙ rw (← here, module_below) refl

-- and where none was found, that is said
pub module_below-stuck : (m : CodegenModule) (names : List (String Global)) (i : ℕ) (name : String Global) (text : Text) → i < length names → name ≡ get_or names i name → text ≡ string_bytes name
    → None ≡ find (has_name text) (out-CodegenModule m).submodules.items → module_below m (map string_bytes (drop i names)) ≡ Err (no_submodule (module_name m) text)
module_below-stuck m names i name text less at is none =
    let same : text ≡ string_bytes (get_or names i name) = is ∙ ap string_bytes at in
    let Below : Text → Type 0 = λ t. None ≡ find (has_name t) (out-CodegenModule m).submodules.items in
    let here = subst Below same none in
    at_drop_more (λ ns. module_below m (map string_bytes ns)) names i name less ∙ rw (← here, module_below) (ap (λ t. Err (no_submodule (module_name m) t)) (sym same))

pub module_below-all : (m : CodegenModule) (names : List (String Global)) (i : ℕ) → length names ≤ i → module_below m (map string_bytes (drop i names)) ≡ Ok m
module_below-all m names i all = at_drop_all (λ ns. module_below m (map string_bytes ns)) names i all

-- the dependency that was found leads on
pub package_below-step : (whole : Text) (k next : CodegenPkg) (among : List CodegenPkg) (parts : List (Bor Text)) (i : ℕ) (part : Bor Text) → i < length parts → among ≡ (out-CodegenPkg k).dependencies.items
    → Some next ≡ find (root_has_name (get_or parts i part).now) among → package_below whole k (texts (drop i parts)) ≡ package_below whole next (texts (drop (i + 1) parts))
package_below-step whole k next among parts i part less are found =
    let Among : List CodegenPkg → Type 0 = λ ks. Some next ≡ find (root_has_name (get_or parts i part).now) ks in
    let here = subst Among are found in
    at_drop_more (λ ps. package_below whole k (texts ps)) parts i part less ∙ rw (← here, package_below) refl

pub package_below-stuck : (whole : Text) (k : CodegenPkg) (among : List CodegenPkg) (parts : List (Bor Text)) (i : ℕ) (part : Bor Text) → i < length parts → among ≡ (out-CodegenPkg k).dependencies.items
    → None ≡ find (root_has_name (get_or parts i part).now) among → package_below whole k (texts (drop i parts)) ≡ Err (no_dependency (get_or parts i part).now whole)
package_below-stuck whole k among parts i part less are none =
    let Among : List CodegenPkg → Type 0 = λ ks. None ≡ find (root_has_name (get_or parts i part).now) ks in
    let here = subst Among are none in
    at_drop_more (λ ps. package_below whole k (texts ps)) parts i part less ∙ rw (← here, package_below) refl

pub package_below-all : (whole : Text) (k : CodegenPkg) (parts : List (Bor Text)) (i : ℕ) → length parts ≤ i → package_below whole k (texts (drop i parts)) ≡ Ok k
package_below-all whole k parts i all = at_drop_all (λ ps. package_below whole k (texts ps)) parts i all

-- the package of the first part leads on
pub package_at-step : (packages : List CodegenPkg) (whole : Text) (parts others : List (Bor Text)) (first : Bor Text) (k : CodegenPkg) → IsFirstAndRest parts first others
    → Some k ≡ find (root_has_name first.now) packages → package_at packages whole (texts parts) ≡ package_below whole k (texts others)
package_at-step packages whole parts others first k are found = ap (λ ps. package_at packages whole (texts ps)) are.0 ∙ rw (← found, package_at) refl

pub package_at-stuck : (packages : List CodegenPkg) (whole : Text) (parts others : List (Bor Text)) (first : Bor Text) → IsFirstAndRest parts first others
    → None ≡ find (root_has_name first.now) packages → package_at packages whole (texts parts) ≡ Err (no_package whole)
package_at-stuck packages whole parts others first are none = ap (λ ps. package_at packages whole (texts ps)) are.0 ∙ rw (← none, package_at) refl

pub package_at-nothing : (packages : List CodegenPkg) (whole : Text) (parts : List (Bor Text)) → length parts ≡ 0 → package_at packages whole (texts parts) ≡ Err (no_package whole)
package_at-nothing packages whole [] h = refl
package_at-nothing packages whole (part ∷ parts) h = absurd (omega (arith, h))

-- the module is looked for in what the name of the path leads to
pub module_at-in : (packages : List CodegenPkg) (path : ModulePath) (name : String Global) (text : Text) (found : Result CodegenPkg Text) → path.origin ≡ Package name → text ≡ string_bytes name
    → package_at packages text (cut slash text) ≡ found → module_at packages (path_view path) ≡ module_in found (map string_bytes path.components.items)
module_at-in packages path name text found at is h =
    let names = map string_bytes path.components.items in
    ap (λ origin. module_from packages (origin_view origin) names) at ∙ ap (λ t. module_in (package_at packages t (cut slash t)) names) (sym is) ∙ ap (λ r. module_in r names) h

pub IsMissingIn-of : (packages : List CodegenPkg) (path : ModulePath) (name : String Global) (text : Text) → path.origin ≡ Package name → text ≡ string_bytes name
    → (e : ResolveError) → IsSaid (path_view path) (package_at packages text (cut slash text)) e → IsMissingIn packages (path_view path) e
IsMissingIn-of packages path name text at is e h = (h.0, module_at-in packages path name text (Err h.0) at is h.1, h.2)

-- no package is named
pub module_at-unnamed : (packages : List CodegenPkg) (origin : PathOrigin) (names : List Text) → ((name : String Global) → origin ≡ Package name → ⊥)
    → module_from packages (origin_view origin) names ≡ Err (codes "resolver can only resolve package imports")
module_at-unnamed packages Absolute names not = refl
module_at-unnamed packages (Relative n) names not = refl
module_at-unnamed packages (Package name) names not = absurd (not name refl)
