-- In a settled list no fault stands.
use Rattle.std.proofs.Common.{◌≡◌, inl, inr, ℕ, ◌≤◌, true≢false, List, map, length, Contains, arith, subst, sym, ◌∙◌}
use Rattle.std.proofs.lemmas.List.Elements.{All-contains}
use Rattle.wesl_link_symbols.specs.declared.symbols.LookUp.{LookUp}
use Rattle.wesl_link_symbols.specs.declared.symbols.Symbol.{Symbol}
use Rattle.wesl_link_symbols.specs.Tables.{Table}
use Rattle.wesl_link_reach.specs.World.{Task, IsAt, Entered, Reached, Followed}
use Rattle.wesl_link_reach.specs.World.Entered.{root, asked, imported}
use Rattle.wesl_link_reach.specs.World.Reached.{led_to, declared}
use Rattle.wesl_link_reach.specs.World.Followed.{kept, by_assert, by_symbol}
use Rattle.wesl_link_reach.specs.Faults.{Fault, duplicate, refused, missing, private, too_many, ambiguous, too_many_flags, Stands}
use Rattle.wesl_link_reach.specs.Laws.{Settles, IsSettled, WorklistIsEnough}
use Rattle.wesl_link_reach.proofs.Lists.{distinct_length, length_map, map_contains}
use Rattle.wesl_link_reach.proofs.Walks.{walks_at, leads_to_one, not_missing, not_private, not_ambiguous}

module _ {P N : Type 0} where
  mutual
    pub entered_at : {w : List (Table P N)} {task : (Task P N)} {ss : List (Symbol P N)} → IsSettled w task ss → (p : P) → Entered w task p → (t : (Table P N)) × IsAt w p t
    entered_at {w} c p (root _ e) = subst (λ (q : P). (t : (Table P N)) × IsAt w q t) (sym e) c.root_at
    entered_at {w} c p (asked l a _ f walks e) =
        let (s, leads, held) = settled c l f in
        subst (λ (q : P). (t : (Table P N)) × IsAt w q t) e (walks_at w c.clear l s a leads walks)
    entered_at {w} c p (imported q _ t i eager h at held e) = subst (λ (r : P). (t : (Table P N)) × IsAt w r t) e (c.imports eager t i at.0 held)

    pub reached_held : {w : List (Table P N)} {task : (Task P N)} {ss : List (Symbol P N)} → IsSettled w task ss → (s : (Symbol P N)) → Reached w task s → Contains ss s
    reached_held {w} {ss = ss} c s (led_to l _ f leads) =
        let (u, leads2, held) = settled c l f in subst (λ (x : (Symbol P N)). Contains ss x) (leads_to_one w l u s c.clear leads2 leads) held
    reached_held {ss = ss} c s (declared _ t eager h at d) =
        subst (λ (p : P). Contains ss (record { path = p; name = s.name })) at.1 (c.declares eager t s.name at.0 d)

    settled : {w : List (Table P N)} {task : (Task P N)} {ss : List (Symbol P N)} → IsSettled w task ss → (l : (LookUp P N)) → Followed w task l → Settles w ss l
    settled c l (kept _ k) = c.kept l k
    settled c l (by_assert p t _ h at asks) = c.asserts t l at.0 asks
    settled c l (by_symbol s t _ h at asks) = c.symbols s t l (reached_held c s h) at asks

  pub no_fault : {E : Type 0} (refuses : P → E → Type 0) (w : List (Table P N)) (task : (Task P N)) (ss : List (Symbol P N)) (limit : ℕ) (fault : Fault P N E) → IsSettled w task ss → length w ≤ limit
      → Stands refuses task limit w fault → ⊥
  no_fault refuses w task ss limit (duplicate p n) c room (t, at, h, clash) = (c.admitted t at.0).clear n clash
  no_fault refuses w task ss limit (refused e) c room (p, h, absent, is) = let (t, at) = entered_at c p h in absent t at
  no_fault refuses w task ss limit (missing p n) c room (l, f, rest) = let (s, leads, held) = settled c l f in not_missing w c.clear l s p n leads rest
  no_fault refuses w task ss limit (private n p) c room (l, f, rest) = let (s, leads, held) = settled c l f in not_private w c.clear l s n p leads rest
  no_fault refuses w task ss limit (ambiguous n) c room (inl (t, held, h, unclear)) = c.clear_asserts t n held unclear
  no_fault refuses w task ss limit (ambiguous n) c room (inr (inl (s, t, h, at, unclear))) = c.clear_symbols s t n (reached_held c s h) at unclear
  no_fault refuses w task ss limit (ambiguous n) c room (inr (inr (l, f, rest))) = let (s, leads, held) = settled c l f in not_ambiguous w c.clear l s n leads rest
  no_fault refuses w task ss limit (too_many_flags p) c room (t, at, h, crowded) = true≢false (sym crowded ∙ (c.admitted t at.0).roomy)
  no_fault refuses w task ss limit (too_many k) c room (e, ps, distinct, entered, many) =
      let fits : length ps ≤ length (map (λ (t : (Table P N)). t.path) w) = distinct_length ps (map (λ (t : (Table P N)). t.path) w) distinct
      (λ p h. (let (t, at) = entered_at c p (All-contains (Entered w task) ps p entered h) in
      subst (λ (q : P). Contains (map (λ (t : (Table P N)). t.path) w) q) at.1 (map_contains (λ (t : (Table P N)). t.path) w t at.0))) in
      let same : length (map (λ (t : (Table P N)). t.path) w) ≡ length w = length_map (λ (t : (Table P N)). t.path) w in
      omega arith

  pub enough : {E : Type 0} (refuses : P → E → Type 0) → WorklistIsEnough N refuses
  enough refuses = record {
    entered = λ w task ss c p h. entered_at c p h;
    reached = λ w task ss c s h. reached_held c s h;
    no_fault = λ w task ss limit fault c room stands. no_fault refuses w task ss limit fault c room stands;
  }
