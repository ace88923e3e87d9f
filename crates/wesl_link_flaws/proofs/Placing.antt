-- Where the module of each path stands.
use Rattle.std.proofs.Common.{◌≡◌, inl, inr, ℕ, ◌+◌, List, take, slice_get, Some, Contains, subst, sym, ap, ◌∙◌}
use Rattle.wesl_link_symbols.specs.Keyed.{Puts}
use Rattle.wesl_link_symbols.specs.Tables.{Table}
use Rattle.wesl_link_symbols.proofs.Lists.{at_contains, one_at}
use Rattle.wesl_link_reach.specs.World.{IsAt}
use Rattle.wesl_link_reach.specs.Loading.{ArePlaced}
use Rattle.wesl_link_reach.proofs.Growing.{turn_at, goes_on_itself}

-- the first n are placed
pub record FirstPlaced {P N : Type 0} (tables : List (Table P N)) (n : ℕ) (places : List (P × ℕ)) : Type 0 where
  pub found : (p : P) (k : ℕ) → Contains places (p, k) → (t : Table P N) × (slice_get tables k ≡ Some t) × (t.path ≡ p)
  pub indexed : (t : Table P N) → Contains (take n tables) t → (k : ℕ) × Contains places (t.path, k)

module _ {P N : Type 0} (tables : List (Table P N)) where
  pub placing_more : (n : ℕ) (t : Table P N) (old fresh : List (P × ℕ)) → slice_get tables n ≡ Some t → FirstPlaced tables n old → Puts old t.path n fresh → FirstPlaced tables (n + 1) fresh
  placing_more n t old fresh at placing put = record {
    found = λ p k h. elim (put.only p k h) [
      | inl (same, is) ↦ (t, subst (λ (j : ℕ). slice_get tables j ≡ Some t) (sym is) at, sym same)
      | inr (differ, before) ↦ placing.found p k before
    ];
    indexed = turn_at (λ (u : Table P N). (k : ℕ) × Contains fresh (u.path, k)) tables tables n t at (goes_on_itself tables) earlier (n, put.has);
  }
    where
      earlier : (u : Table P N) → Contains (take n tables) u → (k : ℕ) × Contains fresh (u.path, k)
      earlier u h = let (j, held) = placing.indexed u h in elim (put.keeps u.path j held) [
        | inl same ↦ (n, subst (λ (q : P). Contains fresh (q, n)) (sym same) put.has)
        | inr kept ↦ (j, kept)
      ]

  pub at_place : (places : List (P × ℕ)) (p : P) (k : ℕ) (t : Table P N) → ArePlaced tables places → Contains places (p, k) → slice_get tables k ≡ Some t → IsAt tables p t
  at_place places p k t placed held at =
      let (u, there, e) = placed.found p k held in (at_contains tables k t at, ap (λ (y : Table P N). y.path) (one_at tables k t u at there) ∙ e)

  pub not_at : (places : List (P × ℕ)) (p : P) → ArePlaced tables places → ((k : ℕ) → Contains places (p, k) → ⊥) → (t : Table P N) → IsAt tables p t → ⊥
  not_at places p placed none t at = let (k, held) = placed.indexed t at.0 in none k (subst (λ (q : P). Contains places (q, k)) at.1 held)
