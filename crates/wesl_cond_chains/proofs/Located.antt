-- Faults that stand in some trees, with their spans and without.
use Rattle.std.proofs.Common.{◌≡◌, Bool, false, List, [], ◌∷◌, inl, inr, refl, sym, ap, subst}
use Rattle.wesl_cond_chains.specs.Chains.{staying}
use Rattle.wesl_cond_chains.specs.Faults.{Stands, here, inside, beside, list_at}
use Rattle.wesl_cond_chains.specs.FormulaFaults.{Fault, IsAmong}
use Rattle.wesl_cond_chains.specs.Lists.{element, holds_body, judged}
use Rattle.wesl_cond_chains.specs.Places.{Place, StandsAt, list_places}
use Rattle.wesl_cond_chains.proofs.Placed.{faults_of, list_is, no_faults, no_places}
use Rattle.wesl_cond_features.specs.Features.{Replies, known}
use Rattle.wesl_tree_syntax.specs.Tree.{ForestOf}

module _ {I : Type 0} where
  fault_among : (p : Place I) (ps : List (Place I)) → IsAmong p ps → IsAmong p.fault (faults_of ps)
  fault_among p [] h = absurd h
  fault_among p (q ∷ ps) (inl e) = inl (ap (λ (r : Place I). r.fault) e)
  fault_among p (q ∷ ps) (inr h) = inr (fault_among p ps h)

  place_among : (f : Fault I) (ps : List (Place I)) → IsAmong f (faults_of ps) → (p : Place I) × IsAmong p ps × (p.fault ≡ f)
  place_among f [] h = absurd h
  place_among f (q ∷ ps) (inl e) = (q, inl refl, sym e)
  place_among f (q ∷ ps) (inr h) =
      let k = place_among f ps h in
      (k.0, inr k.1, k.2)

  module _ (reply : Replies I) where
    pub stands_without : (held : Bool) (t : ForestOf I) (p : Place I) → StandsAt reply held t p → Stands reply held t p.fault
    stands_without held t p (here {l = l} {children = c} e h) = here e (subst (IsAmong p.fault) (list_is reply false (list_at held l c)) (fault_among p (list_places reply false (list_at held l c)) h))
    stands_without held t p (inside {l = l} {children = c} e n s) = inside e (no_faults reply false (list_at held l c) n) (stands_without (holds_body held l) (judged (staying element (known reply)) held l c) p s)
    stands_without held t p (beside {others = o} s) = beside (stands_without held o p s)

    stands_at : (held : Bool) (t : ForestOf I) (f : Fault I) → Stands reply held t f → (p : Place I) × StandsAt reply held t p × (p.fault ≡ f)
    stands_at held t f (here {l = l} {children = c} e h) =
        let k = place_among f (list_places reply false (list_at held l c)) (subst (IsAmong f) (sym (list_is reply false (list_at held l c))) h) in
        (k.0, here e k.1, k.2)
    stands_at held t f (inside {l = l} {children = c} e n s) =
        let k = stands_at (holds_body held l) (judged (staying element (known reply)) held l c) f s in
        (k.0, inside e (no_places reply false (list_at held l c) n) k.1, k.2)
    stands_at held t f (beside {others = o} s) =
        let k = stands_at held o f s in
        (k.0, beside k.1, k.2)

    -- where no fault stands at a place, none stands
    pub clear_without : (t : ForestOf I) → ((p : Place I) → StandsAt reply false t p → ⊥) → (f : Fault I) → Stands reply false t f → ⊥
    clear_without t clear f s =
        let k = stands_at false t f s in
        clear k.0 k.1
