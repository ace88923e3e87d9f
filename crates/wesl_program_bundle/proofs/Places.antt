-- Where an error of a part is one of the whole.
use Rattle.std.proofs.Common.{◌≡◌, ℕ, [], ◌∷◌, ◌++◌, true, Some, None, option_map, codes, string_bytes, refl, sym, ap, ◌∙◌, subst, inl, inr}
use Rattle.serde_json.specs.Data.{Data, Items, Members, array, object}
use Rattle.serde_json.specs.Find.{get, at, get_item}
use Rattle.wesl_tree_names.specs.Path.{Text}
use Rattle.wesl_program_bundle.specs.declared.members.BundleError.{BundleError}
use Rattle.wesl_program_bundle.specs.declared.members.BundleError.TheVariants.{At, Memory}
use Rattle.wesl_json_form.specs.Keys.{HasMember}
use Rattle.wesl_json_form.specs.Pointer.{Part, key, index, part_text}
use Rattle.wesl_program_bundle.specs.Forms.{Form, a_list_of, a_name, a_package, a_package_module, a_unit, an_object_of, Field, fields, find_field, optional, required, IsWrong, IsWrongObject, IsBroken, HasFloatAt}
use Rattle.wesl_program_bundle.specs.Broken.{IfPlace, place_of, Locates, IsMemberBroken, LocatesMember, IsUnder}
use Rattle.wesl_program_bundle.specs.Parts.{IsModuleMemberBroken, LocatesModuleMember}

-- an error that tells this place
told : (P : Text → Type 0) (place : Text) (e : BundleError) → place_of e ≡ Some place → P place → IfPlace e P
told P place (At s) is holds = let same : place ≡ string_bytes s = cc in subst P same holds
told P place Memory is holds = tt

pub IfPlace-memory : (P : Text → Type 0) (e : BundleError) → e ≡ Memory → IfPlace e P
IfPlace-memory P e is = subst (λ x. IfPlace x P) (sym is) tt

pub IfPlace-more : (P Q : Text → Type 0) (e : BundleError) → ((place : Text) → P place → Q place) → IfPlace e P → IfPlace e Q
IfPlace-more P Q (At s) more h = more (string_bytes s) h
IfPlace-more P Q Memory more h = tt

-- what holds of a place within holds of the longer place
pub IfPlace-under : (part : Part) (P Q : Text → Type 0) (inner outer : BundleError) → ((p : Text) → P p → Q ((47 ∷ part_text part) ++ p)) → IfPlace inner P → IsUnder part inner outer → IfPlace outer Q
IfPlace-under part P Q (At s) outer more holds (inl m) = IfPlace-memory Q outer m
IfPlace-under part P Q (At s) outer more holds (inr h) =
    let same : string_bytes s ≡ h.0 = cc (h.1) in
    told Q ((47 ∷ part_text part) ++ h.0) outer h.2 (more h.0 (subst P same holds))
IfPlace-under part P Q Memory outer more holds (inl m) = IfPlace-memory Q outer m
IfPlace-under part P Q Memory outer more holds (inr h) = cc (h.1)

pub Locates-here : (f : Form) (d : Data) (e : BundleError) → place_of e ≡ Some [] → IsWrong f d → Locates f d e
Locates-here f d e is wrong = told (IsBroken f d) [] e is ([], refl, wrong)

pub LocatesMember-lacks : (f : Field) (d : Data) (e : BundleError) → f.is_required ≡ true → get f.named d ≡ None → place_of e ≡ Some [] → LocatesMember f d e
LocatesMember-lacks f d e must lacks is = told (IsMemberBroken f d) [] e is (inl (must, lacks, refl))

pub LocatesMember-under : (f : Field) (d v : Data) (inner outer : BundleError) → get f.named d ≡ Some v → Locates f.form v inner → IsUnder (key f.named) inner outer → LocatesMember f d outer
LocatesMember-under f d v inner outer found =
    IfPlace-under (key f.named) (IsBroken f.form v) (IsMemberBroken f d) inner outer
    (λ p breaks. inr (v, breaks.0, found, ap (λ q. (47 ∷ part_text (key f.named)) ++ q) breaks.1, breaks.2))

-- an item of a list
pub Locates-item : (g : Form) (i : ℕ) (d v : Data) (inner outer : BundleError) → at i d ≡ Some v → Locates g v inner → IsUnder (index i) inner outer → Locates (a_list_of g) d outer
Locates-item g i d v inner outer found =
    IfPlace-under (index i) (IsBroken g v) (IsBroken (a_list_of g) d) inner outer
    (λ p breaks. (index i ∷ breaks.0, ap (λ q. (47 ∷ part_text (index i)) ++ q) breaks.1, (g, v, refl, found, breaks.2)))

-- a member of an object with any keys
pub Locates-member : (g : Form) (k : Text) (d v : Data) (inner outer : BundleError) → get k d ≡ Some v → Locates g v inner → IsUnder (key k) inner outer → Locates (an_object_of g) d outer
Locates-member g k d v inner outer found =
    IfPlace-under (key k) (IsBroken g v) (IsBroken (an_object_of g) d) inner outer
    (λ p breaks. (key k ∷ breaks.0, ap (λ q. (47 ∷ part_text (key k)) ++ q) breaks.1, (g, v, inr refl, found, breaks.2)))

broken_member : (g : Form) (f : Field) (d : Data) (place : Text) → (IsWrongObject (fields g) d → IsWrong g d) → find_field f.named (fields g) ≡ Some f → IsMemberBroken f d place → IsBroken g d place
broken_member g f d place wrong there (inl lack) = ([], lack.2, wrong (inr (f.named, ap (option_map (λ x. x.is_required)) there ∙ ap Some lack.0, lack.1)))
broken_member g f d place wrong there (inr inside) = (key f.named ∷ inside.1, inside.3, (f.form, inside.0, inl (ap (option_map (λ x. x.form)) there), inside.2, inside.4))

-- a member of an object
pub Locates-field : (g : Form) (f : Field) (d : Data) (e : BundleError) → (IsWrongObject (fields g) d → IsWrong g d) → find_field f.named (fields g) ≡ Some f → LocatesMember f d e → Locates g d e
Locates-field g f d e wrong there = IfPlace-more (IsMemberBroken f d) (IsBroken g d) e (λ place h. broken_member g f d place wrong there h)

-- a member of a module, of a package as its root
module_broken : (g : Form) (d : Data) (place : Text) → (IsWrongObject (fields g) d → IsWrong g d) → find_field (codes "name") (fields g) ≡ Some (required (codes "name") a_name) → find_field (codes "unit") (fields g) ≡ Some (required (codes "unit") a_unit) → find_field (codes "modules") (fields g) ≡ Some (optional (codes "modules") (a_list_of a_package_module)) → IsModuleMemberBroken d place → IsBroken g d place
module_broken g d place wrong name unit modules (inl h) = broken_member g (required (codes "name") a_name) d place wrong name h
module_broken g d place wrong name unit modules (inr (inl h)) = broken_member g (required (codes "unit") a_unit) d place wrong unit h
module_broken g d place wrong name unit modules (inr (inr h)) = broken_member g (optional (codes "modules") (a_list_of a_package_module)) d place wrong modules h

pub module-fault : (d : Data) (e : BundleError) → LocatesModuleMember d e → Locates a_package_module d e
module-fault d e = IfPlace-more (IsModuleMemberBroken d) (IsBroken a_package_module d) e (λ place h. module_broken a_package_module d place (λ w. w) refl refl refl h)

pub package-fault : (d : Data) (e : BundleError) → LocatesModuleMember d e → Locates a_package d e
package-fault d e = IfPlace-more (IsModuleMemberBroken d) (IsBroken a_package d) e (λ place h. module_broken a_package d place (λ w. w) refl refl refl h)

-- a number in an item, and one in a member
pub HasFloatAt-item : (i : ℕ) (ds : Items) (d : Data) (inner outer : BundleError) → get_item i ds ≡ Some d → IfPlace inner (HasFloatAt d) → IsUnder (index i) inner outer → IfPlace outer (HasFloatAt (array ds))
HasFloatAt-item i ds d inner outer found =
    IfPlace-under (index i) (HasFloatAt d) (HasFloatAt (array ds)) inner outer
    (λ p h. (index i ∷ h.0, ap (λ q. (47 ∷ part_text (index i)) ++ q) h.1, (d, found, h.2)))

pub HasFloatAt-member : (k : Text) (ms : Members) (d : Data) (inner outer : BundleError) → HasMember k d ms → IfPlace inner (HasFloatAt d) → IsUnder (key k) inner outer → IfPlace outer (HasFloatAt (object ms))
HasFloatAt-member k ms d inner outer found =
    IfPlace-under (key k) (HasFloatAt d) (HasFloatAt (object ms)) inner outer
    (λ p h. (key k ∷ h.0, ap (λ q. (47 ∷ part_text (key k)) ++ q) h.1, (ms, d, refl, found, h.2)))
