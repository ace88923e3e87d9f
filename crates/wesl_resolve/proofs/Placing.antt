-- What is noted of packages stays so, and where the first of a name stands.
use Rattle.std.proofs.Common.{◌≡◌, ◌<◌, ◌≤◌, ℕ, zero, suc, ◌+◌, Bool, true, false, ◌||◌, ◌==◌, not, if◌then◌else◌, cond, Option, Some, None, option_map, IfSome, Result, Ok, Err, List, [], ◌∷◌, ◌++◌, map, length, take, drop, get_or, Vec, Bor, String, string_bytes, bytes_eq, refl, sym, ap, ◌∙◌, subst, arith, add-one}
use Rattle.std.specs.declared.alloc.Global.{Global}
use Rattle.std.specs.HashSet.{HashSet, contains}
use Rattle.std.specs.List.{find, list_any, slice_get}
use Rattle.std.specs.Option.{is_some}
use Rattle.std.specs.Result.{result_ok}
use Rattle.std.specs.Map.{lookup}
use Rattle.std.specs.Slice.{IsItemAt}
use Rattle.std.proofs.lemmas.List.{at_drop_more, at_drop_all}
use Rattle.std.proofs.lemmas.Option.{slice_get-get_or, slice_get_past}
use Rattle.std.proofs.lemmas.Slice.Eq.{bytes_eq-Decides}
use Rattle.std.specs.HashMap.{HashMap, get}
use Rattle.wesl_tree_base.specs.Pieces.{has, slash, cut, before_first}
use Rattle.wesl_tree_names.specs.Path.{Text, Path, Origin, absolute, relative, from_package, path_view, push}
use Rattle.wesl_tree_names.specs.PathLaws.{path_eq}
use Rattle.wesl_tree_names.specs.declared.path.ModulePath.{ModulePath}
use Rattle.wesl_tree_names.specs.declared.path.PathOrigin.TheVariants.{Package}
use Rattle.wesl_tree_names.proofs.Order.{path_eq-decides}
use Rattle.wesl_resolve_base.specs.Packages.{has_name, root_has_name, no_submodule, no_package, module_name, module_below, package_below, package_at, module_in, module_from, module_at, source_of, IsSourceIn}
use Rattle.wesl_resolve_base.specs.declared.packages.CodegenModule.{CodegenModule, out-CodegenModule}
use Rattle.wesl_resolve_base.specs.declared.packages.CodegenPkg.{CodegenPkg, out-CodegenPkg}
use Rattle.wesl_resolve.specs.Places.{AreNoted, HaveNames, IsFirstBelow, IsFirstPackage, StandsAt, module_along, module_standing, package_name}

none_some : {X P : Type 0} (x : X) → None ≡ Some x → P
none_some x e = absurd (let g : None ≡ Some x = e in cc)

err_ok : {X P : Type 0} (t : Text) (x : X) → Err t ≡ Ok x → P
err_ok t x e = absurd (let g : Err t ≡ Ok x = e in cc)

some_inside : {X : Type 0} (x y : X) → Some x ≡ Some y → x ≡ y
some_inside x y e = cc

ok_inside : {X : Type 0} (x y : X) → ◌≡◌ {A = Result X Text} (Ok x) (Ok y) → x ≡ y
ok_inside x y e = cc

-- ---- packages that grow

get-more : {X : Type 0} (xs ys : List X) (i : ℕ) (x : X) → slice_get xs i ≡ Some x → slice_get (xs ++ ys) i ≡ Some x
get-more [] ys i x e = none_some x e
get-more (y ∷ xs) ys zero x e = e
get-more (y ∷ xs) ys (suc i) x e = get-more xs ys i x e

find-more : {X : Type 0} (p : X → Bool) (xs ys : List X) (x : X) → find p xs ≡ Some x → find p (xs ++ ys) ≡ Some x
find-more p [] ys x e = none_some x e
find-more p (y ∷ xs) ys x e = by (p y) (find-more p xs ys x) e
  where
    by : (b : Bool) → (find p xs ≡ Some x → find p (xs ++ ys) ≡ Some x) → cond b (Some y) (find p xs) ≡ Some x → cond b (Some y) (find p (xs ++ ys)) ≡ Some x
    by true more h = h
    by false more h = more h

standing-more : (ks more : List CodegenPkg) (is : List ℕ) (m : CodegenModule) → module_standing ks is ≡ Some m → module_standing (ks ++ more) is ≡ Some m
standing-more ks more [] m e = none_some m e
standing-more ks more (i ∷ is) m e = by (slice_get ks i) refl e
  where
    by : (o : Option CodegenPkg) → slice_get ks i ≡ o → elim o as (λ _. Option CodegenModule) [ None ↦ None | Some k ↦ module_along (out-CodegenPkg k).root is ] ≡ Some m → module_standing (ks ++ more) (i ∷ is) ≡ Some m
    by None at h = none_some m h
    by (Some k) at h = ap (λ o. elim o as (λ _. Option CodegenModule) [ None ↦ None | Some k ↦ module_along (out-CodegenPkg k).root is ]) (get-more ks more i k at) ∙ h

package-more : (ks more : List CodegenPkg) (whole : Text) (parts : List Text) (k : CodegenPkg) → package_at ks whole parts ≡ Ok k → package_at (ks ++ more) whole parts ≡ Ok k
package-more ks more whole [] k e = err_ok (no_package whole) k e
package-more ks more whole (part ∷ parts) k e = by (find (root_has_name part) ks) refl e
  where
    by : (o : Option CodegenPkg) → find (root_has_name part) ks ≡ o → elim o as (λ _. Result CodegenPkg Text) [ None ↦ Err (no_package whole) | Some d ↦ package_below whole d parts ] ≡ Ok k → package_at (ks ++ more) whole (part ∷ parts) ≡ Ok k
    by None at h = err_ok (no_package whole) k h
    by (Some d) at h = ap (λ o. elim o as (λ _. Result CodegenPkg Text) [ None ↦ Err (no_package whole) | Some d ↦ package_below whole d parts ]) (find-more (root_has_name part) ks more d at) ∙ h

at-more : (ks more : List CodegenPkg) (p : Path) (m : CodegenModule) → module_at ks p ≡ Ok m → module_at (ks ++ more) p ≡ Ok m
at-more ks more p m e = by p.origin e
  where
    in_one : (name : Text) (r : Result CodegenPkg Text) → package_at ks name (cut slash name) ≡ r → module_in r p.components ≡ Ok m → module_in (package_at (ks ++ more) name (cut slash name)) p.components ≡ Ok m
    in_one name (Err t) at h = err_ok t m h
    in_one name (Ok k) at h = ap (λ r. module_in r p.components) (package-more ks more name (cut slash name) k at) ∙ h

    by : (o : Origin) → module_from ks o p.components ≡ Ok m → module_from (ks ++ more) o p.components ≡ Ok m
    by (from_package name) h = in_one name (package_at ks name (cut slash name)) refl h
    by absolute h = err_ok _ m h
    by (relative n) h = err_ok _ m h

-- a module that says this is at the path
from_noted : (r : Result CodegenModule Text) (t : Text) → Some t ≡ option_map source_of (result_ok r) → (m : CodegenModule) × (r ≡ Ok m) × (source_of m ≡ t)
from_noted (Ok m) t e = (m, refl, sym (some_inside t (source_of m) e))
from_noted (Err x) t e = none_some t (sym e)

abbrev said : Result CodegenModule Text → Option Text
said r = option_map source_of (result_ok r)

pub noted-more : {S : Type 0} (ks more : List CodegenPkg) (places : HashMap ModulePath (Vec ℕ Global) S) → AreNoted ks places → AreNoted (ks ++ more) places
noted-more ks more places noted p is e = by (module_standing ks is.items) refl (noted p is e).0 (noted p is e).1
  where
    by : (o : Option CodegenModule) → module_standing ks is.items ≡ o → is_some o ≡ true → option_map source_of o ≡ said (module_at ks (path_view p))
        → (is_some (module_standing (ks ++ more) is.items) ≡ true) × (option_map source_of (module_standing (ks ++ more) is.items) ≡ said (module_at (ks ++ more) (path_view p)))
    by None at some h = absurd (let g : false ≡ true = some in cc)
    by (Some m) at some h =
        let stands : module_standing (ks ++ more) is.items ≡ Some m = standing-more ks more is.items m at in
        let there = from_noted (module_at ks (path_view p)) (source_of m) h in
        let found : module_at (ks ++ more) (path_view p) ≡ Ok there.0 = at-more ks more (path_view p) there.0 there.1 in
        (ap is_some stands, ap (option_map source_of) stands ∙ sym (ap said found ∙ ap Some there.2))

-- ---- one more place

pub noted-next : {S : Type 0} (ks : List CodegenPkg) (old new : HashMap ModulePath (Vec ℕ Global) S) (k : ModulePath) (v : Vec ℕ Global) (m : CodegenModule)
    → ((q : ModulePath) → get path_eq new q ≡ cond (path_eq k q) (Some v) (get path_eq old q)) → StandsAt ks (path_view k) v.items m → AreNoted ks old → AreNoted ks new
noted-next ks old new k v m is_new stands noted p is e = by (path_eq k p) refl (sym (is_new p) ∙ e)
  where
    by : (b : Bool) → path_eq k p ≡ b → cond b (Some v) (get path_eq old p) ≡ Some is → (is_some (module_standing ks is.items) ≡ true) × (option_map source_of (module_standing ks is.items) ≡ said (module_at ks (path_view p)))
    by true same h =
        let there : module_standing ks is.items ≡ Some m = subst (λ w. module_standing ks w.items ≡ Some m) (some_inside v is h) stands.0 in
        let found : module_at ks (path_view p) ≡ Ok m = subst (λ q. module_at ks q ≡ Ok m) ((path_eq-decides k p).0 same) stands.1 in
        (ap is_some there, ap (option_map source_of) there ∙ sym (ap said found))
    by false other h = noted p is h

-- what is noted of a path says what its module says
noted-found : {S : Type 0} (ks : List CodegenPkg) (places : HashMap ModulePath (Vec ℕ Global) S) → AreNoted ks places → (p : ModulePath) (is : Vec ℕ Global) (m : CodegenModule) → get path_eq places p ≡ Some is
    → module_standing ks is.items ≡ Some m → IsSourceIn ks (path_view p) (source_of m)
noted-found ks places noted p is m e at = from_noted (module_at ks (path_view p)) (source_of m) (sym (ap (option_map source_of) at) ∙ (noted p is e).1)

-- ---- the first of a name

first_found : {X : Type 0} (p : X → Bool) (xs : List X) (i : ℕ) (x : X) → slice_get xs i ≡ Some x → list_any p (take i xs) ≡ false → p x ≡ true → find p xs ≡ Some x
first_found p [] i x at none is = none_some x at
first_found p (y ∷ xs) zero x at none is = ap (λ b. cond b (Some y) (find p xs)) (ap p (some_inside y x at) ∙ is) ∙ at
first_found p (y ∷ xs) (suc i) x at none is = by (p y) (λ h. first_found p xs i x at h is) none
  where
    by : (b : Bool) → (list_any p (take i xs) ≡ false → find p xs ≡ Some x) → (b || list_any p (take i xs)) ≡ false → cond b (Some y) (find p xs) ≡ Some x
    by true more h = absurd (let g : true ≡ false = h in cc)
    by false more h = more h

-- ---- the module below

below-push : (r m s : CodegenModule) (cs : List Text) (n : Text) → module_below r cs ≡ Ok m → find (has_name n) (out-CodegenModule m).submodules.items ≡ Some s → module_below r (cs ++ n ∷ []) ≡ Ok s
below-push r m s [] n e found =
    let here : find (has_name n) (out-CodegenModule r).submodules.items ≡ Some s = subst (λ x. find (has_name n) (out-CodegenModule x).submodules.items ≡ Some s) (sym (ok_inside r m e)) found in
    ap (λ o. elim o as (λ _. Result CodegenModule Text) [ None ↦ Err (no_submodule (module_name r) n) | Some x ↦ Ok x ]) here
below-push r m s (c ∷ cs) n e found = by (find (has_name c) (out-CodegenModule r).submodules.items) (λ x h. below-push x m s cs n h found) e
  where
    by : (o : Option CodegenModule) → ((x : CodegenModule) → module_below x cs ≡ Ok m → module_below x (cs ++ n ∷ []) ≡ Ok s)
        → elim o as (λ _. Result CodegenModule Text) [ None ↦ Err (no_submodule (module_name r) c) | Some x ↦ module_below x cs ] ≡ Ok m
        → elim o as (λ _. Result CodegenModule Text) [ None ↦ Err (no_submodule (module_name r) c) | Some x ↦ module_below x (cs ++ n ∷ []) ] ≡ Ok s
    by None more h = err_ok (no_submodule (module_name r) c) m h
    by (Some x) more h = more x h

at-push : (ks : List CodegenPkg) (p : Path) (m s : CodegenModule) (n : Text) → module_at ks p ≡ Ok m → find (has_name n) (out-CodegenModule m).submodules.items ≡ Some s → module_at ks (push p n) ≡ Ok s
at-push ks p m s n e found = by p.origin e
  where
    in_one : (r : Result CodegenPkg Text) → module_in r p.components ≡ Ok m → module_in r (p.components ++ n ∷ []) ≡ Ok s
    in_one (Err t) h = err_ok t m h
    in_one (Ok k) h = below-push (out-CodegenPkg k).root m s p.components n h found

    by : (o : Origin) → module_from ks o p.components ≡ Ok m → module_from ks o (p.components ++ n ∷ []) ≡ Ok s
    by (from_package name) h = in_one (package_at ks name (cut slash name)) h
    by absolute h = err_ok _ m h
    by (relative k) h = err_ok _ m h

along-push : (r m s : CodegenModule) (is : List ℕ) (i : ℕ) → module_along r is ≡ Some m → slice_get (out-CodegenModule m).submodules.items i ≡ Some s → module_along r (is ++ i ∷ []) ≡ Some s
along-push r m s [] i e at =
    let here : slice_get (out-CodegenModule r).submodules.items i ≡ Some s = subst (λ x. slice_get (out-CodegenModule x).submodules.items i ≡ Some s) (sym (some_inside r m e)) at in
    ap (λ o. elim o as (λ _. Option CodegenModule) [ None ↦ None | Some x ↦ Some x ]) here
along-push r m s (j ∷ is) i e at = by (slice_get (out-CodegenModule r).submodules.items j) (λ x h. along-push x m s is i h at) e
  where
    by : (o : Option CodegenModule) → ((x : CodegenModule) → module_along x is ≡ Some m → module_along x (is ++ i ∷ []) ≡ Some s)
        → elim o as (λ _. Option CodegenModule) [ None ↦ None | Some x ↦ module_along x is ] ≡ Some m → elim o as (λ _. Option CodegenModule) [ None ↦ None | Some x ↦ module_along x (is ++ i ∷ []) ] ≡ Some s
    by None more h = none_some m h
    by (Some x) more h = more x h

standing-push : (ks : List CodegenPkg) (m s : CodegenModule) (is : List ℕ) (i : ℕ) → module_standing ks is ≡ Some m → slice_get (out-CodegenModule m).submodules.items i ≡ Some s → module_standing ks (is ++ i ∷ []) ≡ Some s
standing-push ks m s [] i e at = none_some m e
standing-push ks m s (j ∷ is) i e at = by (slice_get ks j) e
  where
    by : (o : Option CodegenPkg) → elim o as (λ _. Option CodegenModule) [ None ↦ None | Some k ↦ module_along (out-CodegenPkg k).root is ] ≡ Some m
        → elim o as (λ _. Option CodegenModule) [ None ↦ None | Some k ↦ module_along (out-CodegenPkg k).root (is ++ i ∷ []) ] ≡ Some s
    by None h = none_some m h
    by (Some k) h = along-push (out-CodegenPkg k).root m s is i h at

pub stands-below : (ks : List CodegenPkg) (p : Path) (is : List ℕ) (m s : CodegenModule) (i : ℕ) → StandsAt ks p is m → IsFirstBelow m i s → StandsAt ks (push p (module_name s)) (is ++ i ∷ []) s
stands-below ks p is m s i stands first = (standing-push ks m s is i stands.0 first.0, at-push ks p m s (module_name s) stands.1 first.1)

-- ---- the root of a package

uncut : (n : Text) → has slash n ≡ false → cut slash n ≡ n ∷ []
uncut [] e = refl
uncut (x ∷ xs) e = by (x == slash) (uncut xs) e
  where
    by : (b : Bool) → (has slash xs ≡ false → cut slash xs ≡ xs ∷ []) → (b || has slash xs) ≡ false → (if b then [] ∷ cut slash xs else before_first x (cut slash xs)) ≡ (x ∷ xs) ∷ []
    by true more h = absurd (let g : true ≡ false = h in cc)
    by false more h = ap (before_first x) (more h)

pub stands-root : (ks : List CodegenPkg) (i : ℕ) (k : CodegenPkg) → IsFirstPackage ks i k → StandsAt ks (record { origin = from_package (package_name k); components = [] }) (i ∷ []) (out-CodegenPkg k).root
stands-root ks i k first =
    let name = package_name k in
    let led : package_at ks name (cut slash name) ≡ Ok k = ap (package_at ks name) (uncut name first.2) ∙ ap (λ o. elim o as (λ _. Result CodegenPkg Text) [ None ↦ Err (no_package name) | Some d ↦ Ok d ]) first.1 in
    (ap (λ o. elim o as (λ _. Option CodegenModule) [ None ↦ None | Some d ↦ Some (out-CodegenPkg d).root ]) first.0, ap (λ r. module_in r []) led)

-- ---- the package that was added

pub added-there : (ks : List CodegenPkg) (k : CodegenPkg) → slice_get (ks ++ k ∷ []) (length ks) ≡ Some k
added-there [] k = refl
added-there (x ∷ ks) k = added-there ks k

pub added-first : (ks : List CodegenPkg) (k : CodegenPkg) → list_any (root_has_name (package_name k)) ks ≡ false → find (root_has_name (package_name k)) (ks ++ k ∷ []) ≡ Some k
added-first [] k none = ap (λ b. cond b (Some k) None) ((bytes_eq-Decides (package_name k) (package_name k)).1 refl)
added-first (x ∷ ks) k none = by (root_has_name (package_name k) x) (added-first ks k) none
  where
    by : (b : Bool) → (list_any (root_has_name (package_name k)) ks ≡ false → find (root_has_name (package_name k)) (ks ++ k ∷ []) ≡ Some k)
        → (b || list_any (root_has_name (package_name k)) ks) ≡ false → cond b (Some x) (find (root_has_name (package_name k)) (ks ++ k ∷ [])) ≡ Some k
    by true more h = absurd (let g : true ≡ false = h in cc)
    by false more h = more h

-- ---- places that lead on

pub along-step : (m next : CodegenModule) (is : List ℕ) (i d : ℕ) → i < length is → Some next ≡ slice_get (out-CodegenModule m).submodules.items (get_or is i d) → module_along m (drop i is) ≡ module_along next (drop (i + 1) is)
along-step m next is i d less found =
    at_drop_more (λ ns. module_along m ns) is i d less ∙ ap (λ o. elim o as (λ _. Option CodegenModule) [ None ↦ None | Some s ↦ module_along s (drop (i + 1) is) ]) (sym found)

pub along-stuck : (m : CodegenModule) (is : List ℕ) (i d : ℕ) → i < length is → None ≡ slice_get (out-CodegenModule m).submodules.items (get_or is i d) → module_along m (drop i is) ≡ None
along-stuck m is i d less none =
    at_drop_more (λ ns. module_along m ns) is i d less ∙ ap (λ o. elim o as (λ _. Option CodegenModule) [ None ↦ None | Some s ↦ module_along s (drop (i + 1) is) ]) (sym none)

pub along-all : (m : CodegenModule) (is : List ℕ) (i : ℕ) → length is ≤ i → module_along m (drop i is) ≡ Some m
along-all m is i all = at_drop_all (λ ns. module_along m ns) is i all

-- ---- what stays noted

pub noted-same : {S : Type 0} (ks : List CodegenPkg) (old new : HashMap ModulePath (Vec ℕ Global) S) → new.entries ≡ old.entries → AreNoted ks old → AreNoted ks new
noted-same ks old new same noted p is e = noted p is (ap (λ es. lookup (path_eq p) es) (sym same) ∙ e)

-- a module that is the first of its name so far
pub first-here : (m : CodegenModule) (ms : List CodegenModule) (i : ℕ) (x : CodegenModule) → (out-CodegenModule m).submodules.items ≡ ms → i < length ms → x ≡ get_or ms i x → list_any (has_name (module_name x)) (take i ms) ≡ false → IsFirstBelow m i x
first-here m ms i x same inside at none =
    let there : slice_get ms i ≡ Some x = slice_get-get_or ms i x inside ∙ ap Some (sym at) in
    let named : has_name (module_name x) x ≡ true = (bytes_eq-Decides (module_name x) (module_name x)).1 refl in
    (subst (λ xs. slice_get xs i ≡ Some x) (sym same) there, subst (λ xs. find (has_name (module_name x)) xs ≡ Some x) (sym same) (first_found (has_name (module_name x)) ms i x there none named))

-- one more name that was seen
any-next : {X : Type 0} (p : X → Bool) (xs : List X) (i : ℕ) (x : X) → i < length xs → x ≡ get_or xs i x → list_any p (take (suc i) xs) ≡ (p x || list_any p (take i xs))
any-next p [] i x inside at = absurd (omega (arith, inside))
any-next p (y ∷ xs) zero x inside at = ap (λ b. b || false) (ap p (sym at))
any-next p (y ∷ xs) (suc i) x inside at = ap (λ b. p y || b) (any-next p xs i x (omega (arith, inside)) at) ∙ swap (p y) (p x) (list_any p (take i xs))
  where
    swap : (s t u : Bool) → (s || (t || u)) ≡ (t || (s || u))
    swap true true u = refl
    swap true false u = refl
    swap false t u = refl

pub seen-next : (ys ms : List CodegenModule) → ys ≡ ms → (i : ℕ) (x : CodegenModule) (text n : Text) (was now : Bool) → i < length ys → x ≡ get_or ys i x → text ≡ module_name x
    → was ≡ list_any (has_name n) (take i ms) → now ≡ cond (bytes_eq text n) true was → now ≡ list_any (has_name n) (take (i + 1) ms)
seen-next ys ms same i x text n was now within is said w e =
    let inside : i < length ms = subst (λ zs. i < length zs) same within in
    let at : x ≡ get_or ms i x = is ∙ ap (λ zs. get_or zs i x) same in
    rw add-one (e ∙ or_of (bytes_eq text n) was ∙ ap (λ t. bytes_eq t n || was) said ∙ ap (λ b. has_name n x || b) w ∙ sym (any-next (has_name n) ms i x inside at))
  where
    or_of : (s t : Bool) → cond s true t ≡ (s || t)
    or_of true t = refl
    or_of false t = refl

-- ---- what is lent

-- the element that was lent is the one there
pub lent-at : {X : Type 0} (xs : List X) (i : ℕ) (r : Option (Bor X)) → IsItemAt xs i r → option_map (λ x. x.now) r ≡ slice_get xs i
lent-at xs i None item = sym (slice_get_past xs i item.3)
lent-at xs i (Some x) item = sym (slice_get-get_or xs i x.now item.3.0 ∙ ap Some (sym item.1))

pub standing-nothing : (ks : List CodegenPkg) (is : List ℕ) → length is ≡ 0 → None ≡ module_standing ks is
standing-nothing ks [] none = refl
standing-nothing ks (i ∷ is) none = absurd (omega (arith, none))

pub standing-step : (ks : List CodegenPkg) (is others : List ℕ) (first : ℕ) (k : CodegenPkg) → is ≡ first ∷ others → Some k ≡ slice_get ks first → module_standing ks is ≡ module_along (out-CodegenPkg k).root others
standing-step ks is others first k are at = ap (module_standing ks) are ∙ ap (λ o. elim o as (λ _. Option CodegenModule) [ None ↦ None | Some k ↦ module_along (out-CodegenPkg k).root others ]) (sym at)

pub standing-past : (ks : List CodegenPkg) (is others : List ℕ) (first : ℕ) → is ≡ first ∷ others → None ≡ slice_get ks first → None ≡ module_standing ks is
standing-past ks is others first are at = sym (ap (module_standing ks) are ∙ ap (λ o. elim o as (λ _. Option CodegenModule) [ None ↦ None | Some k ↦ module_along (out-CodegenPkg k).root others ]) (sym at))

pub noted-lent : {S : Type 0} (ks : List CodegenPkg) (places : HashMap ModulePath (Vec ℕ Global) S) → AreNoted ks places → (p : ModulePath) (is : Vec ℕ Global) (r : Option (Bor CodegenModule)) → get path_eq places p ≡ Some is
    → option_map (λ m. m.now) r ≡ module_standing ks is.items → IfSome r (λ m. IsSourceIn ks (path_view p) (source_of m.now))
noted-lent ks places noted p is None e at = tt
noted-lent ks places noted p is (Some m) e at = noted-found ks places noted p is m.now e (sym at)

-- nothing is noted of no packages
pub none-noted : {S : Type 0} (places : HashMap ModulePath (Vec ℕ Global) S) → places.entries ≡ [] → AreNoted [] places
none-noted places empty p is e = none_some is (sym (ap (λ es. lookup (path_eq p) es) empty) ∙ e)

pub none-named : {S : Type 0} (names : HashSet (String Global) S) → HaveNames [] names
none-named names n e = absurd (let g : false ≡ true = e in cc)

pub stands-there : (ks : List CodegenPkg) (p q : Path) (is js : List ℕ) (m s : CodegenModule) (i : ℕ) → q ≡ push p (module_name s) → js ≡ is ++ i ∷ [] → StandsAt ks p is m → IsFirstBelow m i s → StandsAt ks q js s
stands-there ks p q is js m s i there at stands first =
    let below = stands-below ks p is m s i stands first in
    (ap (module_standing ks) at ∙ below.0, ap (module_at ks) there ∙ below.1)

pub first-seen : (m : CodegenModule) (ys ms : List CodegenModule) → ys ≡ ms → (i number : ℕ) (x : CodegenModule) (text : Text) (was is_first : Bool) → (out-CodegenModule m).submodules.items ≡ ms → number ≡ i → i < length ys → x ≡ get_or ys i x → text ≡ module_name x
    → was ≡ list_any (has_name text) (take i ms) → is_first ≡ not was → is_first ≡ true → IsFirstBelow m number x
first-seen m ys ms ym i number x text was is_first same count inside at said seen added first =
    let none : was ≡ false = negated was (sym added ∙ first) in
    let unseen : list_any (has_name (module_name x)) (take i ms) ≡ false = ap (λ t. list_any (has_name t) (take i ms)) (sym said) ∙ sym seen ∙ none in
    subst (λ n. IsFirstBelow m n x) (sym count) (first-here m ms i x same (subst (λ zs. i < length zs) ym inside) (at ∙ ap (λ zs. get_or zs i x) ym) unseen)
  where
    negated : (b : Bool) → not b ≡ true → b ≡ false
    negated true e = absurd (let g : false ≡ true = e in cc)
    negated false e = refl

pub none-seen : {S : Type 0} (seen : HashSet (Bor Text) S) → seen.keys ≡ [] → (n : Bor Text) → contains (λ a b. bytes_eq a.now b.now) seen n ≡ false
none-seen seen empty n = ap (list_any (λ m. bytes_eq n.now m.now)) empty

abbrev at_root : Text → List Text → Path
at_root name components = record { origin = from_package name; components = components }

root-path : (path : ModulePath) (name : String Global) (parts : Vec (String Global) Global) (text : Text) (k : CodegenPkg) → path ≡ record { origin = Package name; components = parts } → parts.items ≡ [] → string_bytes name ≡ text → text ≡ package_name k → path_view path ≡ at_root (package_name k) []
root-path path name parts text k is empty same said = ap path_view is ∙ ap (λ cs. at_root (string_bytes name) (map string_bytes cs)) empty ∙ ap (λ t. at_root t []) (same ∙ said)

pub root-there : (ks : List CodegenPkg) (i : ℕ) (k : CodegenPkg) (path : ModulePath) (name : String Global) (parts : Vec (String Global) Global) (text : Text) (js : List ℕ)
    → path ≡ record { origin = Package name; components = parts } → parts.items ≡ [] → string_bytes name ≡ text → text ≡ package_name k → js ≡ i ∷ [] → IsFirstPackage ks i k → StandsAt ks (path_view path) js (out-CodegenPkg k).root
root-there ks i k path name parts text js is empty same said at first =
    let root = stands-root ks i k first in
    (ap (module_standing ks) at ∙ root.0, ap (module_at ks) (root-path path name parts text k is empty same said) ∙ root.1)

pub is-first : (ks : List CodegenPkg) (i : ℕ) (k x : CodegenPkg) (text : Text) → Some x ≡ slice_get ks i → slice_get ks i ≡ Some k → find (root_has_name (package_name k)) ks ≡ Some k → has slash text ≡ false → text ≡ package_name x → IsFirstPackage ks i x
is-first ks i k x text lent at found plain said =
    let same : k ≡ x = some_inside k x (sym at ∙ sym lent) in
    (sym lent, subst (λ y. find (root_has_name (package_name y)) ks ≡ Some y) same found, ap (has slash) (sym said) ∙ plain)

-- ---- one more package

pub push-noted : {S : Type 0} (ks qs : List CodegenPkg) (k : CodegenPkg) (old new : HashMap ModulePath (Vec ℕ Global) S) → qs ≡ ks ++ k ∷ [] → new ≡ old → AreNoted ks old → AreNoted qs new
push-noted ks qs k old new grown same noted = subst (λ xs. AreNoted xs new) (sym grown) (subst (λ ps. AreNoted (ks ++ k ∷ []) ps) (sym same) (noted-more ks (k ∷ []) old noted))

pub push-there : (ks qs : List CodegenPkg) (k : CodegenPkg) (number : ℕ) → qs ≡ ks ++ k ∷ [] → number ≡ length ks → slice_get qs number ≡ Some k
push-there ks qs k number grown count = ap (λ xs. slice_get xs number) grown ∙ ap (slice_get (ks ++ k ∷ [])) count ∙ added-there ks k

pub push-first : (ks qs : List CodegenPkg) (k : CodegenPkg) → qs ≡ ks ++ k ∷ [] → list_any (root_has_name (package_name k)) ks ≡ false → find (root_has_name (package_name k)) qs ≡ Some k
push-first ks qs k grown none = ap (find (root_has_name (package_name k))) grown ∙ added-first ks k none
