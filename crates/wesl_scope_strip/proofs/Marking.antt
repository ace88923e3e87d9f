-- Marks of declarations and of numbers.
use Rattle.std.proofs.Common.{◌≡◌, ◌≢◌, ℕ, ◌+◌, ◌<◌, ◌≤◌, Bool, true, false, not, ◌&&◌, ◌||◌, ◌==◌, List, length, get_or, set, map, drop, refl, sym, ◌∙◌, ap, subst, arith, add-one, drop-cons, get_or-set_same, get_or-set_other}
use Rattle.std.specs.List.{list_any}
use Rattle.std.proofs.lemmas.List.{drop_all}
use Rattle.std.proofs.lemmas.Bool.Decides.{Decides-eqb}
use Rattle.wesl_scope_strip.specs.Marks.{mark_at}
use mathlib.Core.Bool.{and-false, and-true, or-false}
pub use Rattle.wesl_scope_graph.proofs.Meeting.{one_fewer}

-- by names that attributes of the sources can cite
pub or_false : (a : Bool) → (a || false) ≡ a
or_false a = or-false a

pub and_true_right : (a : Bool) → (a && true) ≡ a
and_true_right a = and-true a

pub or_assoc : (a b c : Bool) → ((a || b) || c) ≡ (a || (b || c))
or_assoc true b c = refl
or_assoc false b c = refl

same_test : (p m : ℕ) → p ≢ m → (p == m) ≡ false
same_test p m ne = by (p == m) (Decides-eqb p m)
  where
    by : (t : Bool) → ((t ≡ true → p ≡ m) × (p ≡ m → t ≡ true)) → t ≡ false
    by true d = absurd (ne (d.0 refl))
    by false d = refl

-- one mark is set
pub set_marked : (ms : List Bool) (p m : ℕ) → p < length ms → mark_at (set ms p true) m ≡ (mark_at ms m || p == m)
set_marked ms p m h = at (p == m) (Decides-eqb p m)
  where
    at : (t : Bool) → ((t ≡ true → p ≡ m) × (p ≡ m → t ≡ true)) → mark_at (set ms p true) m ≡ (mark_at ms m || t)
    at true d = subst (λ k. mark_at (set ms p true) k ≡ (mark_at ms k || true)) (d.0 refl) (get_or-set_same ms p true false h ∙ sym (or_true (mark_at ms p)))
      where
        or_true : (a : Bool) → (a || true) ≡ true
        or_true true = refl
        or_true false = refl
    at false d = let ne : m ≢ p = λ e. absurd (false_true (d.1 (sym e))) in get_or-set_other ms p m true false ne ∙ sym (or-false (mark_at ms m))
      where
        false_true : false ≡ true → ⊥
        false_true e = cc

-- a place past the end
pub mark_past : (ms : List Bool) (p m : ℕ) → m < length ms → length ms ≤ p → mark_at ms m ≡ (mark_at ms m || p == m)
mark_past ms p m h le = let e : (p == m) ≡ false = same_test p m (λ q. absurd (omega arith)) in rw e (sym (or-false (mark_at ms m)))

-- one mark is taken away
pub unset_marked : (ms : List Bool) (p j : ℕ) → p < length ms → mark_at (set ms p false) j ≡ (mark_at ms j && not (p == j))
unset_marked ms p j h = at (p == j) (Decides-eqb p j)
  where
    at : (t : Bool) → ((t ≡ true → p ≡ j) × (p ≡ j → t ≡ true)) → mark_at (set ms p false) j ≡ (mark_at ms j && not t)
    at true d = subst (λ k. mark_at (set ms p false) k ≡ (mark_at ms k && false)) (d.0 refl) (get_or-set_same ms p false false h ∙ sym (and-false (mark_at ms p)))
    at false d = let ne : j ≢ p = λ e. absurd (false_true (d.1 (sym e))) in get_or-set_other ms p j false false ne ∙ sym (and-true (mark_at ms j))
      where
        false_true : false ≡ true → ⊥
        false_true e = cc

pub unset_past : (ms : List Bool) (p j : ℕ) → j < length ms → length ms ≤ p → mark_at ms j ≡ (mark_at ms j && not (p == j))
unset_past ms p j h le = let e : (p == j) ≡ false = same_test p j (λ q. absurd (omega arith)) in rw e (sym (and-true (mark_at ms j)))

pub and_not_false : (a : Bool) → (a && not false) ≡ a
and_not_false a = and-true a

pub unset_step : (m h r : Bool) → ((m && not h) && not r) ≡ (m && not (h || r))
unset_step true true r = refl
unset_step true false r = refl
unset_step false h r = refl

-- one item after the other
module _ {A B : Type 0} (f : A → B) (p : B → Bool) where
  pub any_next : (xs : List A) (i : ℕ) (x : A) → i < length xs → x ≡ get_or xs i x → list_any p (map f (drop i xs)) ≡ (p (f x) || list_any p (map f (drop (i + 1) xs)))
  any_next xs i x h is = rw (drop-cons xs i x h, ← is, add-one) refl

  -- a mark and those of the items that follow, past one more item
  pub marked_next : (xs : List A) (i : ℕ) (x : A) (first old new : Bool) → i < length xs → x ≡ get_or xs i x → new ≡ (old || p (f x)) → (old || list_any p (map f (drop i xs))) ≡ first → (new || list_any p (map f (drop (i + 1) xs))) ≡ first
  marked_next xs i x first old new h is e so =
      let rest = list_any p (map f (drop (i + 1) xs)) in
      ap (λ b. b || rest) e ∙ (or_assoc old (p (f x)) rest ∙ (ap (λ b. old || b) (sym (any_next xs i x h is)) ∙ so))

  -- and past the last
  pub marked_all : (xs : List A) (i : ℕ) (first old : Bool) → length xs ≤ i → (old || list_any p (map f (drop i xs))) ≡ first → old ≡ first
  marked_all xs i first old h so = sym (or-false old) ∙ (ap (λ ys. old || list_any p (map f ys)) (sym (drop_all i xs h)) ∙ so)
