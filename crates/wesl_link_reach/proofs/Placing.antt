-- Where the module of a path stands.
use Rattle.std.proofs.Common.{◌≡◌, inl, inr, ℕ, List, ◌∷◌, slice_get, Some, Contains, subst, ap, ◌∙◌}
use Rattle.wesl_link_symbols.specs.Tables.{Table}
use Rattle.wesl_link_reach.specs.World.{IsAt}
use Rattle.wesl_link_reach.specs.Loading.{ArePlaced}
use Rattle.wesl_link_symbols.proofs.Lists.{contains_later, contains_cases, at_contains, one_at}

module _ {P N : Type 0} (root : Table P N) (others : List (Table P N)) (places : List (P × ℕ)) (p : P) where
  pub placed_at : (k : ℕ) (x : Table P N) → ArePlaced others places → Contains places (p, k) → slice_get others k ≡ Some x → IsAt (root ∷ others) p x
  placed_at k x a held at =
      let (t, there, e) = a.found p k held in
      (contains_later root x others (at_contains others k x at), ap (λ (y : Table P N). y.path) (one_at others k x t at there) ∙ e)

  pub unplaced : ArePlaced others places → (root.path ≡ p → ⊥) → ((k : ℕ) → Contains places (p, k) → ⊥) → (t : Table P N) → IsAt (root ∷ others) p t → ⊥
  unplaced a other none t at = elim (contains_cases root t others at.0) [
    | inl e ↦ other (ap (λ (y : Table P N). y.path) e ∙ at.1)
    | inr held ↦ (let (k, there) = a.indexed t held in none k (subst (λ (q : P). Contains places (q, k)) at.1 there))
  ]
