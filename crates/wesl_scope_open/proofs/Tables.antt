-- Rows of the table, and what is taken back of them.
use Rattle.std.proofs.Common.{◌≡◌, Bool, true, false, ◌||◌, ℕ, zero, suc, ◌<◌, Option, Some, List, [], ◌∷◌, ◌++◌, length, get_or, set, reverse, refl, sym, ap, ap₂, ◌∙◌, arith}
use Rattle.std.specs.Prelude.{Result, Ok, Err, if◌then◌else◌}
use Rattle.std.specs.Result.{is_err, is_ok}
use Rattle.std.proofs.lemmas.List.{reverse-append}
use Rattle.wesl_scope_open.specs.Table.{RowOf, taken_back_to}
use Rattle.wesl_scope_open.specs.declared.table.Change.{Change}
use Rattle.wesl_scope_open.specs.declared.table.Change.TheVariants as changes

pub popped : {X : Type 0} (xs rest : List X) (x : X) → xs ≡ rest ++ x ∷ [] → reverse xs ≡ x ∷ reverse rest
popped xs rest x e = ap reverse e ∙ reverse-append rest (x ∷ [])

-- what was there is there again
pub put_back : {X : Type 0} (r : List X) (n : ℕ) (x v : X) → n < length r → v ≡ get_or r n v → set (set r n x) n v ≡ r
put_back [] n x v h e = absurd (omega (arith, h))
put_back (y ∷ r) zero x v h e = ap (λ z. z ∷ r) e
put_back (y ∷ r) (suc n) x v h e = ap (λ z. y ∷ z) (put_back r n x v (omega (arith, h)) e)

pub declare_kept : {T : Type 0} (cs ds : List (Change T)) (r s : RowOf T) (n : ℕ) (b : T) (v : Option T) → n < length r → v ≡ get_or r n v → ds ≡ cs ++ changes.Read n v ∷ [] → s ≡ set r n (Some b) → taken_back_to (reverse ds) s ≡ taken_back_to (reverse cs) r
declare_kept cs ds r s n b v h e f g = ap₂ taken_back_to (popped ds cs (changes.Read n v) f) g ∙ ap (taken_back_to (reverse cs)) (put_back r n (Some b) v h e)

pub first_kept : (a b : Bool) → (a || b) ≡ false → a ≡ false
first_kept false b h = refl
first_kept true b h = h

-- a change that was kept
pub pushed : {X E A : Type 0} (r : Result X E) (before now : Bool) (new more old : A) → now ≡ is_err r → new ≡ (if is_ok r then more else old) → (before || now) ≡ false → new ≡ more
pushed (Ok x) before now new more old is e k = e
pushed (Err x) false now new more old is e k = absurd (let z : true ≡ false = sym is ∙ k in let y : ⊥ = cc in y)
pushed (Err x) true now new more old is e k = absurd (let y : ⊥ = cc in y)
