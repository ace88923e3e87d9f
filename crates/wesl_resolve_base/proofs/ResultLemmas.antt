-- A fact of a result, weakened.
use Rattle.std.proofs.Common.{◌⊎◌, ◌↔◌, Result, Ok, Err, Option, Some, IfOk, IfErr, OnOk, IfSome, IsOkAnd, String, ◌≡◌, subst, sym, string_bytes, inl, inr, ⊎_elim}
use Rattle.std.specs.Result.{result_ok}
use Rattle.std.specs.declared.alloc.Global.{Global}
use Rattle.wesl_tree_names.specs.Path.{Text, Path}
use Rattle.wesl_tree_names.specs.Errors.{OrMemory, IsModuleNotFound}
use Rattle.wesl_tree_names.specs.declared.errors.ResolveError.{ResolveError}
use Rattle.wesl_tree_syntax.specs.Unit.{UnitOf}
use Rattle.wesl_resolve_base.specs.Resolver.{MeansTheSame}

pub IfOk-to : {A E : Type 0} (P Q : A → Type 0) → ((a : A) → P a → Q a) → (r : Result A E) → IfOk r P → IfOk r Q
IfOk-to P Q f (Ok a) h = f a h
IfOk-to P Q f (Err e) h = h

pub IfErr-to : {A E : Type 0} (P Q : E → Type 0) → ((e : E) → P e → Q e) → (r : Result A E) → IfErr r P → IfErr r Q
IfErr-to P Q f (Ok a) h = h
IfErr-to P Q f (Err e) h = f e h

pub OrMemory-to : (P Q : ResolveError → Type 0) → ((e : ResolveError) → P e → Q e) → (e : ResolveError) → OrMemory P e → OrMemory Q e
OrMemory-to P Q f e = ⊎_elim inl (λ p. inr (f e p))

pub refused-to : {A : Type 0} (P Q : ResolveError → Type 0) → ((e : ResolveError) → P e → Q e) → (r : Result A ResolveError) → IfErr r (OrMemory P) → IfErr r (OrMemory Q)
refused-to P Q f r = IfErr-to (OrMemory P) (OrMemory Q) (OrMemory-to P Q f) r

pub IfSome-ok : {A E : Type 0} (P : A → Type 0) (r : Result A E) → IfOk r P → IfSome (result_ok r) P
IfSome-ok P (Ok a) h = h
IfSome-ok P (Err e) h = tt

-- what was taken out of the result
pub IfSome-of : {A E : Type 0} (P : A → Type 0) (r : Result A E) (a : A) → Some a ≡ result_ok r → IfOk r P → P a
IfSome-of {A} P r a is h =
    let Taken : Option A → Type 0 = λ o. IfSome o P in
    subst Taken (sym is) (IfSome-ok P r h)

pub OnOk-both : {A E : Type 0} (P Q R : Type 0) → (P → Q → R) → (r : Result A E) → OnOk r P → OnOk r Q → OnOk r R
OnOk-both P Q R f (Ok a) p q = f p q
OnOk-both P Q R f (Err e) p q = tt

pub either-iff : {P Q R S : Type 0} → P ↔ Q → R ↔ S → (P ⊎ R) ↔ (Q ⊎ S)
either-iff h k = (⊎_elim (λ p. inl (h.0 p)) (λ r. inr (k.0 r)), ⊎_elim (λ q. inl (h.1 q)) (λ s. inr (k.1 s)))

pub both-iff : {P Q R S : Type 0} → P ↔ Q → R ↔ S → (P × R) ↔ (Q × S)
both-iff h k = ((λ b. (h.0 b.0, k.0 b.1)), (λ b. (h.1 b.0, k.1 b.1)))

told-as : {E : Type 0} (p : Path) (message : Text) (e : ResolveError) (r : Result (String Global) E) → IfOk r (λ text. string_bytes text ≡ message)
    → IsOkAnd r (λ text. IsModuleNotFound p (string_bytes text) e) → IsModuleNotFound p message e
told-as p message e (Ok text) is h =
    let Told : Text → Type 0 = λ t. IsModuleNotFound p t e in
    subst Told is h
told-as p message e (Err fault) is h = absurd h

-- the refusal tells the message, by a reason that says it
pub said-as : {E : Type 0} (p : Path) (message : Text) (e : ResolveError) (r : Result (String Global) E) → IfOk r (λ text. string_bytes text ≡ message)
    → OrMemory (λ x. IsOkAnd r (λ text. IsModuleNotFound p (string_bytes text) x)) e → OrMemory (IsModuleNotFound p message) e
said-as p message e r is = OrMemory-to _ (IsModuleNotFound p message) (λ x h. told-as p message x r is h) e

-- a resolver means what it means
pub means-itself : {S : Type 0} (hands : S → Path → UnitOf Text → Type 0) (refuses : S → Path → ResolveError → Type 0) (source : S → Path → Text → Type 0) (lacks : S → Path → ResolveError → Type 0) (shown : S → Path → Option Text → Type 0) (s : S)
    → MeansTheSame hands refuses source lacks shown s s
means-itself hands refuses source lacks shown s = record { units = λ p u. ((λ h. h), (λ h. h)); faults = λ p e. ((λ h. h), (λ h. h)); sources = λ p text. ((λ h. h), (λ h. h)); missing = λ p e. ((λ h. h), (λ h. h)); names = λ p name. ((λ h. h), (λ h. h)) }
