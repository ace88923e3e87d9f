-- The best of the mounts that were seen so far.
use Rattle.std.proofs.Common.{◌≡◌, ◌≤◌, ◌<◌, ◌+◌, ◌⊎◌, ℕ, zero, suc, set, List, [], ◌∷◌, Option, Some, None, true, false, slice_get, length, arith, subst, ap, sym, ◌∙◌, refl, ⊎_elim, inl, inr, true≢false}
use Rattle.std.proofs.Math.Nat.{eq-or-lt_of_le}
use Rattle.std.proofs.lemmas.Option.{same_Some, none-some, slice_get_within}
use Rattle.wesl_tree_names.specs.Path.{Path, path_view, starts_with}
use Rattle.wesl_tree_names.specs.declared.path.ModulePath.{ModulePath}
use Rattle.wesl_resolve_base.specs.Suffixes.{suffix}
use Rattle.wesl_resolve.specs.Router.{prefix_length, Takes, TakenByNone, IsRoute, Routed}

below_le : (k n : ℕ) → k < n + 1 → k ≤ n
below_le k n h = omega (arith, h)

below_next : (k n : ℕ) → k < n + 1 → (k < n) ⊎ (k ≡ n)
below_next k n h = ⊎_elim (λ same. inr (omega (arith, same))) (λ less. inl (omega (arith, less))) (eq-or-lt_of_le (below_le k n h))

module _ {B : Type 0} where
  within : (mounts : List (ModulePath × B)) (n k : ℕ) (m : ModulePath × B) → length mounts ≤ n → slice_get mounts k ≡ Some m → k < n
  within mounts n k m all at = omega (arith, all, slice_get_within mounts k m at)

  -- P holds of each mount before place n
  abbrev pub EachBelow : List (ModulePath × B) → ℕ → (ℕ → ModulePath × B → Type 0) → Type 0
  EachBelow mounts n P = (k : ℕ) (m : ModulePath × B) → k < n → slice_get mounts k ≡ Some m → P k m

  -- the prefix of m is no longer than that of the best one, and where as long m stands no later
  abbrev pub NoBetter : Path → ℕ → ModulePath × B → ℕ → ModulePath × B → Type 0
  NoBetter p place best k m = starts_with p (path_view m.0) ≡ true → (prefix_length m ≤ prefix_length best) × (prefix_length m ≡ prefix_length best → k ≤ place)

  -- the best place among the first n mounts, and the length of its prefix
  abbrev pub IsBest : List (ModulePath × B) → Path → ℕ → Option (ℕ × ℕ) → Type 0
  IsBest mounts p n None = EachBelow mounts n (λ k m. starts_with p (path_view m.0) ≡ false)
  IsBest mounts p n (Some best) =
      (m : ModulePath × B) × (slice_get mounts best.0 ≡ Some m) × (starts_with p (path_view m.0) ≡ true) × (best.1 ≡ prefix_length m)
      × EachBelow mounts n (NoBetter p best.0 m)

  pub EachBelow-more : (mounts : List (ModulePath × B)) (n : ℕ) (P : ℕ → ModulePath × B → Type 0) (x : ModulePath × B) → slice_get mounts n ≡ Some x
      → EachBelow mounts n P → P n x → EachBelow mounts (n + 1) P
  EachBelow-more mounts n P x at h last k m k_below m_at =
      ⊎_elim
      (λ before. h k m before m_at)
      (λ same.
      let Q : ℕ → Type 0 = λ j. slice_get mounts j ≡ Some m → P j m in
      subst Q (sym same) (λ m_there. subst (P n) (same_Some x m (sym at ∙ m_there)) last) m_at)
      (below_next k n k_below)

  -- a mount whose prefix does not begin the path changes nothing
  pub IsBest-other : (mounts : List (ModulePath × B)) (p : Path) (n : ℕ) (best : Option (ℕ × ℕ)) (x : ModulePath × B) → slice_get mounts n ≡ Some x
      → starts_with p (path_view x.0) ≡ false → IsBest mounts p n best → IsBest mounts p (n + 1) best
  IsBest-other mounts p n None x at other h = EachBelow-more mounts n _ x at h other
  IsBest-other mounts p n (Some best) x at other h =
      (h.0, h.1, h.2, h.3, EachBelow-more mounts n (NoBetter p best.0 h.0) x at h.4 (λ begins. absurd (true≢false (sym begins ∙ other))))

  -- nor does one with a shorter prefix
  pub IsBest-shorter : (mounts : List (ModulePath × B)) (p : Path) (n : ℕ) (best : ℕ × ℕ) (x : ModulePath × B) → slice_get mounts n ≡ Some x
      → prefix_length x < best.1 → IsBest mounts p n (Some best) → IsBest mounts p (n + 1) (Some best)
  IsBest-shorter mounts p n best x at shorter h =
      (h.0, h.1, h.2, h.3, EachBelow-more mounts n (NoBetter p best.0 h.0) x at h.4 (λ begins. (omega (arith, shorter, h.3), λ same. absurd (omega (arith, shorter, h.3, same)))))

  -- one that is as long is the best from there on
  pub IsBest-longer : (mounts : List (ModulePath × B)) (p : Path) (n : ℕ) (best : ℕ × ℕ) (x : ModulePath × B) → slice_get mounts n ≡ Some x
      → starts_with p (path_view x.0) ≡ true → best.1 ≤ prefix_length x → IsBest mounts p n (Some best) → IsBest mounts p (n + 1) (Some (n, prefix_length x))
  IsBest-longer mounts p n best x at begins longer h = (
    x,
    at,
    begins,
    refl,
    EachBelow-more mounts n (NoBetter p n x) x at
        (λ k m k_below m_at m_begins. (omega (arith, longer, h.3, (h.4 k m k_below m_at m_begins).0), λ _. omega (arith, k_below)))
        (λ _. (omega arith, λ _. omega arith)),
  )

  -- the first one whose prefix begins the path is the best
  pub IsBest-first : (mounts : List (ModulePath × B)) (p : Path) (n : ℕ) (x : ModulePath × B) → slice_get mounts n ≡ Some x
      → starts_with p (path_view x.0) ≡ true → IsBest mounts p n None → IsBest mounts p (n + 1) (Some (n, prefix_length x))
  IsBest-first mounts p n x at begins h = (
    x,
    at,
    begins,
    refl,
    EachBelow-more mounts n (NoBetter p n x) x at
        (λ k m k_below m_at m_begins. absurd (true≢false (sym m_begins ∙ h k m k_below m_at)))
        (λ _. (omega arith, λ _. omega arith)),
  )

  pub IsRoute-from_best : (mounts : List (ModulePath × B)) (p : Path) (n : ℕ) (best : ℕ × ℕ) → length mounts ≤ n → IsBest mounts p n (Some best) → IsRoute mounts p (Some best.0)
  IsRoute-from_best mounts p n best all h =
      (h.0, record { there = h.1; begins = h.2; longest = λ k other other_at other_begins. h.4 k other (within mounts n k other all other_at) other_at other_begins })

  pub IsRoute-from_none : (mounts : List (ModulePath × B)) (p : Path) (n : ℕ) → length mounts ≤ n → IsBest mounts p n None → IsRoute mounts p None
  IsRoute-from_none mounts p n all h = λ k other other_at. h k other (within mounts n k other all other_at) other_at

-- what stands in a list after one write
pub set-cases : {X : Type 0} (xs : List X) (i k : ℕ) (y x : X) → slice_get (set xs i y) k ≡ Some x → ((k ≡ i) × (x ≡ y)) ⊎ (slice_get xs k ≡ Some x)
set-cases [] i k y x h = inr h
set-cases (z ∷ zs) zero zero y x h = inl (refl, sym (same_Some y x h))
set-cases (z ∷ zs) zero (suc k) y x h = inr h
set-cases (z ∷ zs) (suc i) zero y x h = inr h
set-cases (z ∷ zs) (suc i) (suc k) y x h = ⊎_elim (λ e. inl (ap suc e.0, e.1)) inr (set-cases zs i k y x h)

set-there : {X : Type 0} (xs : List X) (i : ℕ) (y x : X) → slice_get xs i ≡ Some x → slice_get (set xs i y) i ≡ Some y
set-there [] i y x h = absurd (none-some x h)
set-there (z ∷ zs) zero y x h = refl
set-there (z ∷ zs) (suc i) y x h = set-there zs i y x h

pub set-others : {X : Type 0} (xs : List X) (i k : ℕ) (y x : X) → slice_get xs k ≡ Some x → (k ≡ i) ⊎ (slice_get (set xs i y) k ≡ Some x)
set-others [] i k y x h = inr h
set-others (z ∷ zs) zero zero y x h = inl refl
set-others (z ∷ zs) zero (suc k) y x h = inr h
set-others (z ∷ zs) (suc i) zero y x h = inr h
set-others (z ∷ zs) (suc i) (suc k) y x h = ⊎_elim (λ e. inl (ap suc e)) inr (set-others zs i k y x h)

module _ {B : Type 0} where
  -- each mount of ys stands in xs at its place, with its prefix, and answers there what it does in ys
  abbrev pub Holds : (B → Path → Type 0) → List (ModulePath × B) → List (ModulePath × B) → Type 0
  Holds A xs ys = (k : ℕ) (m : ModulePath × B) → slice_get ys k ≡ Some m → (n : ModulePath × B) × (slice_get xs k ≡ Some n) × (n.0 ≡ m.0) × ((q : Path) → A m.1 q → A n.1 q)

  pub Holds-set : (A : B → Path → Type 0) (xs : List (ModulePath × B)) (i : ℕ) (m : ModulePath × B) (b : B) → slice_get xs i ≡ Some m → ((q : Path) → A m.1 q → A b q)
      → Holds A (set xs i (m.0, b)) xs
  Holds-set A xs i m b there to k other at =
      ⊎_elim
      (λ same.
      let is_m : m ≡ other = same_Some m other (sym there ∙ ap (slice_get xs) (sym same) ∙ at) in
      let Q : ModulePath × B → Type 0 = λ o. (n : ModulePath × B) × (slice_get (set xs i (m.0, b)) k ≡ Some n) × (n.0 ≡ o.0) × ((q : Path) → A o.1 q → A n.1 q) in
      subst Q is_m ((m.0, b), ap (slice_get (set xs i (m.0, b))) same ∙ set-there xs i (m.0, b) m there, refl, to))
      (λ stays. (other, stays, refl, λ q a. a))
      (set-others xs i k (m.0, b) other at)

  pub Holds-before : (A : B → Path → Type 0) (xs : List (ModulePath × B)) (i : ℕ) (m : ModulePath × B) (b : B) → slice_get xs i ≡ Some m → ((q : Path) → A b q → A m.1 q)
      → Holds A xs (set xs i (m.0, b))
  Holds-before A xs i m b there from k other at =
      ⊎_elim
      (λ same.
      let Q : ModulePath × B → Type 0 = λ o. (n : ModulePath × B) × (slice_get xs k ≡ Some n) × (n.0 ≡ o.0) × ((q : Path) → A o.1 q → A n.1 q) in
      subst Q (sym same.1) (m, ap (slice_get xs) same.0 ∙ there, refl, from))
      (λ stays. (other, stays, refl, λ q a. a))
      (set-cases xs i k (m.0, b) other at)

  Takes-held : (A : B → Path → Type 0) (xs ys : List (ModulePath × B)) (p : Path) (place : ℕ) (m : ModulePath × B) → Holds A xs ys → Holds A ys xs → Takes ys p place m
      → (n : ModulePath × B) × Takes xs p place n × (n.0 ≡ m.0) × ((q : Path) → A m.1 q → A n.1 q)
  Takes-held A xs ys p place m to from takes =
      let held = to place m takes.there in
      let Begins : ModulePath → Type 0 = λ prefix. starts_with p (path_view prefix) ≡ true in (
        held.0,
        record {
          there = held.1;
          begins = subst Begins (sym held.2) takes.begins;
          longest = λ k other at begins.
              let back = from k other at in
              let Longest : ModulePath → ModulePath → Type 0 = λ o best. (length (path_view o).components ≤ length (path_view best).components) × (length (path_view o).components ≡ length (path_view best).components → k ≤ place) in
              let Of : ModulePath → Type 0 = λ best. Longest other.0 best in
              let To : ModulePath → Type 0 = λ o. Longest o m.0 in
              subst Of (sym held.2) (subst To back.2 (takes.longest k back.0 back.1 (subst Begins (sym back.2) begins)));
        },
        held.2,
        held.3,
      )

  pub TakenByNone-held : (A : B → Path → Type 0) (xs ys : List (ModulePath × B)) (p : Path) → Holds A ys xs → TakenByNone ys p → TakenByNone xs p
  TakenByNone-held A xs ys p from none k other at =
      let back = from k other at in
      let Other : ModulePath → Type 0 = λ prefix. starts_with p (path_view prefix) ≡ false in
      subst Other back.2 (none k back.0 back.1)

  pub Routed-held : (A : B → Path → Type 0) (xs ys : List (ModulePath × B)) (fallback : Option B) (p : Path) → Holds A xs ys → Holds A ys xs → Routed A ys fallback p → Routed A xs fallback p
  Routed-held A xs ys fallback p to from =
      ⊎_elim
      (λ h.
      let n = Takes-held A xs ys p h.0 h.1 to from h.2 in
      let At : ModulePath → Type 0 = λ prefix. A n.0.1 (suffix (length (path_view prefix).components) p) in
      inl (h.0, n.0, n.1, subst At (sym n.2) (n.3 _ h.3)))
      (λ h. inr (TakenByNone-held A xs ys p from h.0, h.1))
