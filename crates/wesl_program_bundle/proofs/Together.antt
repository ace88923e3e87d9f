-- What holds of the parts that are put together holds of the whole, and what holds of each fault of the fault that is told.
use Rattle.std.proofs.Common.{◌≡◌, [], Bool, true, false, Option, Some, None, Result, Ok, Err, inl, inr, ap, ◌∙◌}
use Rattle.std.specs.Prelude.{IfOk, IfErr, OnOk}
use Rattle.std.proofs.lemmas.Result.{IfOk-at_ok, IfErr-at_err, IfOk-weaker, IfErr-weaker}
use Rattle.serde_json.specs.Data.{Data}
use Rattle.serde_json.specs.Find.{get}
use Rattle.wesl_json_form.specs.Pointer.{key}
use Rattle.wesl_program_bundle.specs.declared.members.BundleError.{BundleError}
use Rattle.wesl_program_bundle.specs.Broken.{Locates, LocatesMember, place_of}
use Rattle.wesl_program_bundle.specs.Forms.{Field, Form, IsWrong, IsWrongObject, fields, find_field}
use Rattle.wesl_program_bundle.specs.Parts.{IsEither, IsFaultUnder, IsKeyOr, IsUnreadUnder}
use Rattle.wesl_program_bundle.proofs.Places.{Locates-field, Locates-here, LocatesMember-under}

-- what a part is
pub part : {T E : Type 0} (P : T → Type 0) {x : T} (r : Result T E) → r ≡ Ok x → IfOk r P → P x
part P r is h = IfOk-at_ok P is h

-- what is read of an object with no keys but these
pub IfOk-keyed : {T : Type 0} (P : T → Type 0) (known : Bool) (whole r : Result T BundleError) → OnOk whole (known ≡ true) → IfOk whole (λ x. r ≡ Ok x) → IfOk r (λ x. known ≡ true → P x) → IfOk whole P
IfOk-keyed P known (Ok x) r keys ok h = IfOk-at_ok (λ y. known ≡ true → P y) ok h keys
IfOk-keyed P known (Err e) r keys ok h = tt

-- ---- faults

-- the fault of one of two
pub either : {A B : Type 0} (P : BundleError → Type 0) (r : Result A BundleError) (s : Result B BundleError) (e : BundleError) → IsEither r s e → IfErr r P → IfErr s P → P e
either P r s e (inl is) h k = IfErr-at_err P is h
either P r s e (inr is) h k = IfErr-at_err P is k

pub of-both : {A B C : Type 0} (P : BundleError → Type 0) (b : Result C BundleError) (r : Result A BundleError) (s : Result B BundleError) → IfErr b (IsEither r s) → IfErr r P → IfErr s P → IfErr b P
of-both P b r s told h k = IfErr-weaker b (IsEither r s) P (λ e is. either P r s e is h k) told

-- a key too many, or the fault of a member
pub of-only : {A : Type 0} (P : BundleError → Type 0) (known : Bool) (r : Result A BundleError) (e : BundleError) → IsKeyOr known r e → (known ≡ false → place_of e ≡ Some [] → P e) → IfErr r P → P e
of-only P known r e (inl (unknown, is)) keys h = keys unknown is
of-only P known r e (inr (all, is)) keys h = IfErr-at_err P is h

-- the fault of a member is one of the object
pub of-field : {A : Type 0} (g : Form) (f : Field) (d : Data) (r : Result A BundleError) → (IsWrongObject (fields g) d → IsWrong g d) → find_field f.named (fields g) ≡ Some f → IfErr r (LocatesMember f d) → IfErr r (Locates g d)
of-field g f d r wrong there h = IfErr-weaker r (LocatesMember f d) (Locates g d) (λ e k. Locates-field g f d e wrong there k) h

-- ---- members

-- what is read of what is there
pub there-read : {T B : Type 0} (reading : Option Data → Option B) (see : T → B) (o : Option Data) (e : Data) (whole r : Result T BundleError) → o ≡ Some e → IfOk whole (λ x. r ≡ Ok x) → IfOk r (λ x. reading (Some e) ≡ Some (see x)) → IfOk whole (λ x. reading o ≡ Some (see x))
there-read {T} reading see o e whole r found ok h =
    IfOk-weaker whole (λ x. r ≡ Ok x) (λ x. reading o ≡ Some (see x))
    (λ x is. ap reading found ∙ IfOk-at_ok (λ (y : T). reading (Some e) ≡ Some (see y)) is h) ok

pub stated-read : {T : Type 0} (reading : Option Data → Option T) (o : Option Data) (e : Data) (whole : Result T BundleError) (r : Option T) → o ≡ Some e → IfOk whole (λ x. r ≡ Some x) → reading (Some e) ≡ r → IfOk whole (λ x. reading o ≡ Some x)
stated-read reading o e whole r found ok h =
    IfOk-weaker whole (λ x. r ≡ Some x) (λ x. reading o ≡ Some x) (λ x is. ap reading found ∙ h ∙ is) ok

-- the fault of what is there is one of the member
pub of-inside : {A B : Type 0} (f : Field) (d v : Data) (whole : Result B BundleError) (r : Result A BundleError) → get f.named d ≡ Some v → IfErr whole (IsFaultUnder (key f.named) r) → IfErr r (Locates f.form v) → IfErr whole (LocatesMember f d)
of-inside f d v whole r found told h =
    IfErr-weaker whole (IsFaultUnder (key f.named) r) (LocatesMember f d)
    (λ e (inner, is, under). LocatesMember-under f d v inner e found (IfErr-at_err (Locates f.form v) is h) under) told

-- nothing is read of what is there
pub of-stated : {A : Type 0} (f : Field) (d v : Data) (whole : Result A BundleError) (r : Option A) → get f.named d ≡ Some v → IfErr whole (IsUnreadUnder f.named r) → (r ≡ None → IsWrong f.form v) → IfErr whole (LocatesMember f d)
of-stated f d v whole r found told wrong =
    IfErr-weaker whole (IsUnreadUnder f.named r) (LocatesMember f d)
    (λ e (inner, none, here, under). LocatesMember-under f d v inner e found (Locates-here f.form v inner here (wrong none)) under) told
