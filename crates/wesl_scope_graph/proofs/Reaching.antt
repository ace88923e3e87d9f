-- A walk marks what is reached.
use Rattle.std.proofs.Common.{◌≡◌, ◌⊎◌, ◌↔◌, ℕ, ◌<◌, Bool, true, false, List, [], ◌∷◌, ◌++◌, length, refl, sym, ◌∙◌, subst, inl, inr, arith}
use Rattle.std.specs.List.{Contains}
use Rattle.std.proofs.lemmas.List.Elements.{Contains-append_left, Contains-push, Contains-push_cases}
use Rattle.wesl_scope_graph.specs.Graphs.{Graph, edges_at, Leads, Reached, marked, onward}
use Rattle.wesl_scope_graph.specs.Marks.{mark_at, Meets}
use Rattle.wesl_scope_graph.proofs.Growing.{contains_none}

-- All nodes on the way are marked, and each marked node that is not there was gone on from.
pub record Reaching (g : Graph) (first marks : List Bool) (way : List ℕ) : Type 0 where
  pub sized : length marks ≡ length first
  pub more : (a : ℕ) → mark_at first a ≡ true → mark_at marks a ≡ true
  pub sound : (a : ℕ) → mark_at marks a ≡ true → Reached g first a
  pub on_way : (a : ℕ) → Contains way a → mark_at marks a ≡ true
  pub closed : (a b : ℕ) → mark_at marks a ≡ true → Leads g a b → b < length first → (mark_at marks b ≡ true) ⊎ Contains way a

pub begins : (g : Graph) (marks : List Bool) (way : List ℕ) → ((a : ℕ) → Contains way a ↔ (mark_at marks a ≡ true)) → Reaching g marks marks way
begins g marks way all = record {
  sized = refl;
  more = λ a h. h;
  sound = λ a h. marked a h;
  on_way = λ a c. (all a).0 c;
  closed = λ a b h l inside. inr ((all a).1 h);
}

module _ (g : Graph) (first marks after : List Bool) (way rest longer : List ℕ) (n : ℕ) (r : Reaching g first marks way) (taken : way ≡ rest ++ n ∷ []) (m : Meets (edges_at g n) marks after rest longer) where
  here : mark_at marks n ≡ true
  here = r.on_way n (subst (λ ws. Contains ws n) (sym taken) (Contains-push rest n))

  stays : (a : ℕ) → mark_at marks a ≡ true → mark_at after a ≡ true
  stays a h = (m.marks a).1 (inl h)

  sound : (a : ℕ) → (mark_at marks a ≡ true) ⊎ (Leads g n a × (a < length marks)) → Reached g first a
  sound a (inl h) = r.sound a h
  sound a (inr c) = onward n a (subst (λ k. a < k) r.sized c.1) (r.sound n here) c.0

  on_way : (a : ℕ) → Contains rest a ⊎ ((mark_at marks a ≡ false) × (mark_at after a ≡ true)) → mark_at after a ≡ true
  on_way a (inl c) = stays a (r.on_way a (subst (λ ws. Contains ws a) (sym taken) (Contains-append_left rest (n ∷ []) a c)))
  on_way a (inr p) = p.1

  still : (a b : ℕ) → Leads g a b → b < length first → Contains rest a ⊎ (n ≡ a) → (mark_at after b ≡ true) ⊎ Contains longer a
  still a b l inside (inl c) = inr ((m.put a).1 (inl c))
  still a b l inside (inr q) = inl ((m.marks b).1 (inr (subst (λ k. Leads g k b) (sym q) l, subst (λ k. b < k) (sym r.sized) inside)))

  went : (a b : ℕ) → Leads g a b → b < length first → (mark_at marks b ≡ true) ⊎ Contains way a → (mark_at after b ≡ true) ⊎ Contains longer a
  went a b l inside (inl h) = inl (stays b h)
  went a b l inside (inr c) = still a b l inside (Contains-push_cases rest n a (subst (λ ws. Contains ws a) taken c))

  closed : (a b : ℕ) (t : Bool) → mark_at marks a ≡ t → mark_at after a ≡ true → Leads g a b → b < length first → (mark_at after b ≡ true) ⊎ Contains longer a
  closed a b true e h l inside = went a b l inside (r.closed a b e l inside)
  closed a b false e h l inside = inr ((m.put a).1 (inr (e, h)))

  pub goes_on : Reaching g first after longer
  goes_on = record {
    sized = m.sized ∙ r.sized;
    more = λ a h. stays a (r.more a h);
    sound = λ a h. sound a ((m.marks a).0 h);
    on_way = λ a c. on_way a ((m.put a).0 c);
    closed = λ a b h l inside. closed a b (mark_at marks a) refl h l inside;
  }

pub empty : (ws : List ℕ) → length ws ≡ 0 → ws ≡ []
empty [] h = refl
empty (w ∷ ws) h = absurd (omega (arith, h))

-- at the end exactly those are marked that are reached
module _ (g : Graph) (first marks : List Bool) (r : Reaching g first marks []) where
  complete : (a : ℕ) → Reached g first a → mark_at marks a ≡ true
  complete _ (marked a h) = r.more a h
  complete _ (onward a b inside q l) = by b (r.closed a b (complete a q) l inside)
    where
      by : (b : ℕ) → (mark_at marks b ≡ true) ⊎ Contains [] a → mark_at marks b ≡ true
      by b (inl h) = h
      by b (inr c) = absurd (contains_none a c)

  pub ends : (a : ℕ) → (mark_at marks a ≡ true) ↔ Reached g first a
  ends a = (r.sound a, complete a)
