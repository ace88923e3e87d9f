-- What digits are read as.
use Rattle.std.proofs.Common.{◌≡◌, ◌+◌, ◌-◌, ◌*◌, ◌%◌, ◌<◌, ◌∙◌, ℕ, ltb, false, List, [], ◌∷◌, ◌++◌, Result, Ok, Err, OnOk, Some, refl, ap, append_assoc, arith}
use Rattle.std.proofs.lemmas.Bool.{lt-ltb}
use Rattle.std.proofs.lemmas.Bool.Decides.{nat_tests}
use Rattle.wesl_text_mappings.specs.Vlq.{AddsDigit, AddsNumber, digit, moved, number}

-- a last digit is the number
read_last : (d c : ℕ) (more : List ℕ) → digit c ≡ d → d < 32 → number (c ∷ more) ≡ Some (d, more)
unfolding number
read_last d c more e h = let below = lt-ltb d 32 h in rw e (rw below refl)

-- a digit with others behind it
read_next : (d c n : ℕ) (cs more : List ℕ) → digit c ≡ d + 32 → d < 32 → number cs ≡ Some (n, more) → number (c ∷ cs) ≡ Some (d + 32 * n, more)
unfolding number
read_next d c n cs more e h r =
    let above : ltb (d + 32) 32 ≡ false = grind (arith, nat_tests) in
    let below = lt-ltb (d + 32) 64 (omega arith) in
    let same : d + 32 - 32 + 32 * n ≡ d + 32 * n = omega arith in
    rw e (rw above (rw below (rw r (ap (λ (m : ℕ). Some (m, more)) same))))

-- one digit alone
pub adds_last : (d : ℕ) (old new : List ℕ) → d < 32 → AddsDigit d old new → AddsNumber d old new
adds_last d old new h a = record { added = a.character ∷ []; text = a.text; read = λ more. read_last d a.character more a.says h }

-- a digit before others
pub adds_next : (d n : ℕ) (old middle new : List ℕ) → d < 32 → AddsDigit (d + 32) old middle → AddsNumber n middle new → AddsNumber (d + 32 * n) old new
adds_next d n old middle new h a r = record {
  added = a.character ∷ r.added;
  text = r.text ∙ (ap (λ t. t ++ r.added) a.text ∙ append_assoc old (a.character ∷ []) r.added);
  read = λ more. read_next d a.character n (r.added ++ more) more a.says h (r.read more);
}

-- the same of numbers that are equal
pub adds_only : (n d : ℕ) (old new : List ℕ) → n ≡ d → d < 32 → AddsDigit d old new → AddsNumber n old new
adds_only n d old new e h a = rw e (adds_last d old new h a)

pub adds_more : (d m n : ℕ) (old middle new : List ℕ) → m ≡ n → d < 32 → AddsDigit (d + 32) old middle → AddsNumber m middle new → AddsNumber (d + 32 * n) old new
adds_more d m n old middle new e h a r = let s : AddsNumber n middle new = rw (← e) r in adds_next d n old middle new h a s

-- what follows from what a call that is not refused did
pub on_ok : {A E P Q : Type 0} (r : Result A E) → (P → Q) → OnOk r P → OnOk r Q
on_ok (Ok x) f p = f p
on_ok (Err e) f p = p

-- a number that leads on, and one that leads back
pub moved_on : (from size : ℕ) → moved from (2 * size + 0) ≡ from + size
unfolding moved
moved_on from size = let e : (2 * size + 0) % 2 ≡ 0 = omega arith in rw e (omega arith)

pub moved_back : (from size : ℕ) → moved from (2 * size + 1) ≡ from - size
unfolding moved
moved_back from size = let e : (2 * size + 1) % 2 ≡ 1 = omega arith in rw e (omega arith)
