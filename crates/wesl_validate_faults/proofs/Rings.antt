-- Rings of the graph of numbers are rings of declarations, and the first of a list is found.
use Rattle.std.proofs.Common.{◌≡◌, ◌⊎◌, ◌↔◌, ℕ, suc, ◌<◌, ◌≤◌, ◌+◌, ◌++◌, List, [], ◌∷◌, length, get_or, drop, drop-cons, add-one, refl, sym, ap, ◌∙◌, subst, inl, inr, append_assoc, append-nil}
use Rattle.std.specs.Prelude.{Option, Some, None}
use Rattle.std.proofs.lemmas.List.{drop_all}
use Rattle.wesl_tree_names.specs.Path.{Text}
use Rattle.wesl_tree_syntax.specs.Unit.{UnitView}
use Rattle.wesl_scope_graph.specs.Graphs.{Graph, Leads}
use Rattle.wesl_validate_rules.specs.Graphs.{Path, edge, then, IsGrounded, IsRing}
use Rattle.wesl_validate_rules.specs.Valid.{LeadsTo, Reaches, directly, onward as reaches_onward}
use Rattle.wesl_validate_rules.proofs.Graphs.{no_ring}
use Rattle.wesl_validate_faults.specs.Findings.{Finding}
use Rattle.wesl_validate_faults.specs.Gathered.{cycle_here, AreRings, AddsRings}
use Rattle.wesl_validate_faults.specs.Listed.{module_numbers, IsFirst, ClosesCycle, AreCycles, cycle_by}

-- ---- the first of a list
module _ (P Q : ℕ → Type 0) (there : (x : ℕ) → P x → Q x) (back : (x : ℕ) → Q x → P x) where
  pub same_first : (xs : List ℕ) (r : Option ℕ) → IsFirst P xs r → IsFirst Q xs r
  same_first [] r e = e
  same_first (x ∷ xs) r (inl h) = inl (there x h.0, h.1)
  same_first (x ∷ xs) r (inr h) = inr (λ q. h.0 (back x q), same_first xs r h.1)

pub no_first : (P : ℕ → Type 0) (xs : List ℕ) → ((x : ℕ) → P x → ⊥) → IsFirst P xs None
no_first P [] n = refl
no_first P (x ∷ xs) n = inr (n x, no_first P xs n)

-- ---- rings
module _ (g : Graph) where
  longer : (a b c : ℕ) → Path g a b → Leads g b c → Path g a c
  longer a b c (edge _ _ s) t = then a b c s (edge b c t)
  longer a b c (then _ d _ s r) t = then a d c s (longer d b c r t)

  -- where every path ends no node reaches itself
  pub no_closing : ((a : ℕ) → IsGrounded g a) → (a last : ℕ) → IsRing g a last → ⊥
  no_closing all a last r = by r.leads_there
    where
      by : (a ≡ last) ⊎ Path g a last → ⊥
      by (inl e) = no_ring g a (all a) (edge a a (subst (λ k. Leads g k a) (sym e) r.leads_back))
      by (inr p) = no_ring g a (all a) (longer a last a p r.leads_back)

-- ---- one ring after the other
module _ (names : List Text) (g : Graph) (ds : List ℕ) where
  -- what is added, while that of the rest is still to come
  abbrev pub Owes : List Finding → List Finding → List ℕ → Type 0
  Owes old now rest = (cs : List Finding) × (now ≡ old ++ cs) × ((gs : List Finding) → AreRings names g ds rest gs → AreRings names g ds ds (cs ++ gs))

  pub owes_all : (old : List Finding) (i : ℕ) → i ≡ 0 → Owes old old (drop i ds)
  owes_all old i e = ([], sym (append-nil old), λ gs h. subst (λ k. AreRings names g ds (drop k ds) gs) e h)

  pub owes_next : (old now new : List Finding) (i a : ℕ) (last : Option ℕ) → i < length ds → a ≡ get_or ds i 0 → IsFirst (IsRing g a) ds last → new ≡ now ++ cycle_here names a last → Owes old now (drop i ds) → Owes old new (drop (i + 1) ds)
  owes_next old now new i a last l is first e (cs, so, rest) = (
    cs ++ cycle_here names a last,
    e ∙ (ap (λ fs. fs ++ cycle_here names a last) so ∙ append_assoc old cs (cycle_here names a last)),
    λ gs h. subst (AreRings names g ds ds) (sym (append_assoc cs (cycle_here names a last) gs)) (rest (cycle_here names a last ++ gs) (subst (λ ys. AreRings names g ds ys (cycle_here names a last ++ gs)) here (last, gs, first, h, refl))),
  )
    where
      here : a ∷ drop (i + 1) ds ≡ drop i ds
      here = rw add-one (ap (λ y. y ∷ drop (suc i) ds) is ∙ sym (drop-cons ds i 0 l))

  pub owes_none : (old now : List Finding) (i : ℕ) → length ds ≤ i → Owes old now (drop i ds) → AddsRings names g ds old now
  owes_none old now i l (cs, so, rest) = (cs, subst (AreRings names g ds ds) (append-nil cs) (rest [] (subst (λ ys. AreRings names g ds ys []) (sym (drop_all i ds l)) refl)), so)

module _ (u : UnitView) (names : List Text) (same : names ≡ u.names) (g : Graph) (steps : (a b : ℕ) → Leads g a b ↔ LeadsTo u a b) where
  path_of : (a b : ℕ) → Reaches u a b → Path g a b
  path_of a b (directly _ _ s) = edge a b ((steps a b).1 s)
  path_of a b (reaches_onward _ c _ s r) = then a c b ((steps a c).1 s) (path_of c b r)

  chain_of : (a b : ℕ) → Path g a b → Reaches u a b
  chain_of a b (edge _ _ s) = directly a b ((steps a b).0 s)
  chain_of a b (then _ c _ s r) = reaches_onward a c b ((steps a c).0 s) (chain_of c b r)

  back_of : (a x : ℕ) → IsRing g a x → ClosesCycle u a x
  back_of a x r = (by r.leads_there, (steps x a).0 r.leads_back)
    where
      by : (a ≡ x) ⊎ Path g a x → (a ≡ x) ⊎ Reaches u a x
      by (inl e) = inl e
      by (inr p) = inr (chain_of a x p)

  ring_of : (a x : ℕ) → ClosesCycle u a x → IsRing g a x
  ring_of a x (inl e, l) = record { leads_there = inl e; leads_back = (steps x a).1 l }
  ring_of a x (inr r, l) = record { leads_there = inr (path_of a x r); leads_back = (steps x a).1 l }

  pub closes_first : (a : ℕ) (ds : List ℕ) (r : Option ℕ) → IsFirst (IsRing g a) ds r → IsFirst (ClosesCycle u a) ds r
  closes_first a = same_first (IsRing g a) (ClosesCycle u a) (back_of a) (ring_of a)

  said_as : (a : ℕ) (r : Option ℕ) → cycle_here names a r ≡ cycle_by u a r
  said_as a None = refl
  said_as a (Some x) = ap (λ ns. cycle_here ns a (Some x)) same

  module _ (ds : List ℕ) (declares : module_numbers u ≡ ds) where
    cycles_of : (others : List ℕ) (fs : List Finding) → AreRings names g ds others fs → AreCycles u others fs
    cycles_of [] fs e = e
    cycles_of (a ∷ others) fs (last, rest, first, r, e) = (
      last,
      rest,
      subst (λ xs. IsFirst (ClosesCycle u a) xs last) (sym declares) (same_first (IsRing g a) (ClosesCycle u a) (back_of a) (ring_of a) ds last first),
      cycles_of others rest r,
      e ∙ ap (λ gs. gs ++ rest) (said_as a last),
    )

    pub are_cycles : (fs : List Finding) → AreRings names g ds ds fs → AreCycles u (module_numbers u) fs
    are_cycles fs r = subst (λ others. AreCycles u others fs) (sym declares) (cycles_of ds fs r)

  pub none_are_cycles : ((a : ℕ) → IsGrounded g a) → (others : List ℕ) → AreCycles u others []
  none_are_cycles all [] = refl
  none_are_cycles all (a ∷ others) = (None, [], no_first (ClosesCycle u a) (module_numbers u) (λ x h. no_closing g all a x (ring_of a x h)), none_are_cycles all others, refl)
