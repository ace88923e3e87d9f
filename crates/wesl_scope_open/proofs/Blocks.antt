-- Blocks that open and close.
use Rattle.std.proofs.Common.{◌≡◌, ℕ, suc, ◌<◌, ◌≤◌, Bool, false, ◌||◌, ◌&&◌, Some, List, [], ◌∷◌, ◌++◌, map, refl, sym, ◌∙◌, ap, ap₂, subst, arith, ◌⊎◌, inl, inr}
use Rattle.std.specs.Prelude.{bytes_eq, if◌then◌else◌}
use Rattle.wesl_tree_names.specs.Path.{Text}
use Rattle.wesl_scope_occurrences.specs.Occurrences.{Block, Standing, module_name, parameter, local, reference, word}
use Rattle.wesl_scope_occurrences.specs.Events.{EventOf, opens, closes}
use Rattle.wesl_scope_open.specs.Scopes.{is_visible, binds}
use Rattle.wesl_scope_open.specs.Open.{Readings, after, number_of}
use Rattle.wesl_scope_open.proofs.Runs.{Every, every_append, every_so, map_append, Found, shows, first_in, sights, sight_at, AllWithin, within_append, none_shows, shows_append, elsewhere}
use Rattle.wesl_scope_open.proofs.Good.{Placed, PlacedAs, wider, none_outside, Among, among_first, among_second, Outwards, Knows, holding, Ran, Outside, Good, after_append, sights_append, ran_then}
use Rattle.wesl_scope_open.proofs.Still.{Still, calm_shows, calm_places, knows_still}
use Rattle.wesl_scope_occurrences.proofs.Cutting.{append_nil}

-- what runs in a block, by what runs in it once it is open
pub in_block : (all : List Found) (known : Text → Bool) (v w : Readings) (outer : List Readings) (es : List (EventOf Text)) (os : List Found) (b : Block) (x : ℕ)
    → ((n : Text) → sights n known (holding v (v ∷ outer)) es ≡ map (sight_at n all) os) → AllWithin (holding v (v ∷ outer)) es → after (holding v (v ∷ outer)) es ≡ holding w (v ∷ outer) → Knows all v b x → Ran all known v outer (opens ∷ (es ++ closes ∷ [])) os b x
in_block all known v w outer es os b x seen within state knows = record {
  seen = λ n. sights_append n known (holding v (v ∷ outer)) es (closes ∷ []) ∙ (append_nil (sights n known (holding v (v ∷ outer)) es) ∙ seen n);
  within = (tt, within_append (holding v (v ∷ outer)) es (closes ∷ []) within (tt, tt));
  left = v;
  state = after_append (holding v (v ∷ outer)) es (closes ∷ []) ∙ ap (λ s. after s (closes ∷ [])) state;
  knows = knows;
}

-- a block round what is still and what is good in it
module _ (lo : ℕ) (b : Block) (p p1 p2 q r q' : ℕ) (low : lo ≤ q) (some : suc q ≤ r) (way : Outwards lo q b) (es fs : List (EventOf Text)) (os us : List Found) (s : Still b p p1 es os) (g : Good lo (q ∷ b) p1 p2 r q' fs us) where
  pl : p ≤ p1
  pl = s.later

  pm : p1 ≤ p2
  pm = g.later

  rl : r ≤ q'
  rl = g.wider

  inside : Every (Placed b p1 p2 q q') us
  inside = wider (q ∷ b) p1 p2 r q' b p1 p2 q q' (omega arith) (omega arith) (omega (arith, some)) (omega arith) (λ c f. inr (let m : number_of c ≡ q = ap number_of f in omega (arith, m))) us g.placed

  module _ (all : List Found) (known : Text → Bool) (out : Outside all known) (a : Among all (os ++ us) lo p p2 q q') (v : Readings) (outer : List Readings) (k : Knows all v b p) where
    before : Among all os lo p p1 q q
    before = among_first all os us lo b p p1 p2 q q q' pl pm (omega arith) (omega (arith, some, rl)) (calm_places b p p1 q q os s.calm) b q q' inside a

    then : Among all us lo p1 p2 q q'
    then = among_second all os us lo b p p1 p2 q q q' pl pm (omega arith) (omega (arith, some, rl)) (calm_places b p p1 q q os s.calm) b q q' inside a low

    knows_before : (x : ℕ) → p ≤ x → x ≤ p1 → Knows all v b x
    knows_before = knows_still lo b p p1 q q (omega arith) way all os before.grows (λ w n x m h i. calm_shows os s.calm w n x) v k

    knows_inside : Knows all v (q ∷ b) p1
    knows_inside n = knows_before p1 pl (omega arith) n ∙ sym (ap (λ t. if t then Some q else first_in (λ w. shows all w n p1) b) (then.fresh (q ∷ b) n (omega arith) (omega (arith, some, rl))))

    ran : Ran all known v (v ∷ outer) fs us (q ∷ b) p2
    ran = g.runs all known out (record { grows = then.grows; fresh = λ w n h i. then.fresh w n (omega (arith, some, h)) i }) v (v ∷ outer) knows_inside

    knows_after : Knows all v b p2
    knows_after =
        knows_still lo b p p2 q q' (omega (arith, some, rl)) way all (os ++ us) a.grows
        (λ w n x m h i. shows_append os us w n x ∙ ap₂ (λ c d. c || d) (calm_shows os s.calm w n x) (none_outside b p1 p2 q r q' some us g.placed w n x m)) v k p2 (omega (arith, pl, pm)) (omega arith)

    opened_ran : Ran all known v outer (opens ∷ ((es ++ fs) ++ closes ∷ [])) (os ++ us) b p2
    opened_ran =
        in_block all known v ran.left outer (es ++ fs) (os ++ us) b p2
        (λ n.
        sights_append n known (holding v (v ∷ outer)) es fs
        ∙ (ap₂ (λ c d. c ++ sights n known d fs) (s.seen all known out v (v ∷ outer) (λ x i j. knows_before x i (omega (arith, j))) n) (s.state v (v ∷ outer))
        ∙ (ap (λ c. map (sight_at n all) os ++ c) (ran.seen n) ∙ sym (map_append (sight_at n all) os us))))
        (within_append (holding v (v ∷ outer)) es fs (s.within v (v ∷ outer)) (subst (λ d. AllWithin d fs) (sym (s.state v (v ∷ outer))) ran.within))
        (after_append (holding v (v ∷ outer)) es fs ∙ (ap (λ d. after d fs) (s.state v (v ∷ outer)) ∙ ran.state))
        knows_after

  pub opened : Good lo b p p2 q q' (opens ∷ ((es ++ fs) ++ closes ∷ [])) (os ++ us)
  opened = record {
    later = omega (arith, pl, pm);
    wider = omega (arith, some, rl);
    placed = every_append (Placed b p p2 q q') os us (calm_places b p p2 q q' os s.calm) (wider b p1 p2 q q' b p p2 q q' pl (omega arith) (omega arith) (omega arith) (λ c f. inl f) us inside);
    runs = λ all known out a v outer k. opened_ran all known out a v outer k;
  }

-- those after the number m hold nothing in the block of that number
none_at : (c : Block) (p p' m q' : ℕ) → number_of c < m → (w : Block) (n : Text) (x : ℕ) → number_of w ≡ m → (o : Found) (r : Standing) → PlacedAs c p p' (suc m) q' r o.block → (is_visible x r && (bytes_eq o.name n && bytes_eq o.block w)) ≡ false
none_at c p p' m q' l w n x e o (local y) (g, i, j, k) = elsewhere (is_visible x (local y)) o.name n o.block w (by j)
  where
    by : (o.block ≡ c) ⊎ (suc m ≤ number_of o.block) → o.block ≡ w → ⊥
    by (inl f) s = let h = ap number_of f in let t = ap number_of s in omega (arith, l, e, h, t)
    by (inr f) s = let t = ap number_of s in omega (arith, e, f, t)
none_at c p p' m q' l w n x e o (reference y) g = refl
none_at c p p' m q' l w n x e o word g = refl
none_at c p p' m q' l w n x e o module_name g = absurd g
none_at c p p' m q' l w n x e o parameter g = absurd g

-- a block of number m that opens after others, which have later numbers
module _ (lo : ℕ) (c : Block) (p p1 p2 m q1 q2 : ℕ) (low : lo ≤ m) (own : number_of c < m) (way : Outwards lo m c) (es fs : List (EventOf Text)) (os us : List Found) (f : Good lo c p p1 (suc m) q1 es os) (g : Good lo (m ∷ c) p1 p2 q1 q2 fs us) where
  ol : p ≤ p1
  ol = f.later

  om : p1 ≤ p2
  om = g.later

  nl : suc m ≤ q1
  nl = f.wider

  nm : q1 ≤ q2
  nm = g.wider

  first : Every (Placed c p p1 m q1) os
  first = wider c p p1 (suc m) q1 c p p1 m q1 (omega arith) (omega arith) (omega arith) (omega arith) (λ b e. inl e) os f.placed

  module _ (all : List Found) (known : Text → Bool) (out : Outside all known) (a : Among all (os ++ us) lo p p2 m q2) (v : Readings) (outer : List Readings) (k : Knows all v c p) where
    earlier : Among all os lo p p1 m q1
    earlier = among_first all os us lo c p p1 p2 m q1 q2 ol om (omega (arith, nl)) nm first (m ∷ c) q1 q2 g.placed a

    second : Among all us lo p1 p2 q1 q2
    second = among_second all os us lo c p p1 p2 m q1 q2 ol om (omega (arith, nl)) nm first (m ∷ c) q1 q2 g.placed a low

    ran_first : Ran all known v outer es os c p1
    ran_first = f.runs all known out (record { grows = earlier.grows; fresh = λ w n h i. earlier.fresh w n (omega (arith, h)) i }) v outer k

    unseen : (n : Text) → shows all (m ∷ c) n p1 ≡ false
    unseen n =
        earlier.grows (m ∷ c) n p1 ol (omega arith) low (omega (arith, nl))
        ∙ ap₂ (λ s t. s || t) (earlier.fresh (m ∷ c) n (omega arith) (omega (arith, nl)))
        (none_shows os (m ∷ c) n p1 (every_so (Placed c p p1 (suc m) q1) (λ o. binds (m ∷ c) n p1 o ≡ false) (λ o h. none_at c p p1 m q1 own (m ∷ c) n p1 refl o o.role h) os f.placed))

    module _ (w : Readings) (kw : Knows all w c p1) where
      knows_second : Knows all w (m ∷ c) p1
      knows_second n = kw n ∙ sym (ap (λ t. if t then Some m else first_in (λ d. shows all d n p1) c) (unseen n))

      ran_second : Ran all known w (w ∷ outer) fs us (m ∷ c) p2
      ran_second = g.runs all known out second w (w ∷ outer) knows_second

      knows_then : Knows all w c p2
      knows_then = knows_still lo c p1 p2 m q2 (omega (arith, nl, nm)) way all us second.grows (λ d n x l h i. none_outside c p1 p2 m q1 q2 nl us g.placed d n x l) w kw p2 om (omega arith)

      closed : Ran all known w outer (opens ∷ (fs ++ closes ∷ [])) us c p2
      closed = in_block all known w ran_second.left outer fs us c p2 ran_second.seen ran_second.within ran_second.state knows_then

    both_ran : Ran all known v outer (es ++ (opens ∷ (fs ++ closes ∷ []))) (os ++ us) c p2
    both_ran = ran_then all known v outer es (opens ∷ (fs ++ closes ∷ [])) os us c c p1 p2 ran_first closed

  pub opened_second : Good lo c p p2 m q2 (es ++ (opens ∷ (fs ++ closes ∷ []))) (os ++ us)
  opened_second = record {
    later = omega (arith, ol, om);
    wider = omega (arith, nl, nm);
    placed = every_append (Placed c p p2 m q2) os us
        (wider c p p1 m q1 c p p2 m q2 (omega arith) om (omega arith) nm (λ b e. inl e) os first)
        (wider (m ∷ c) p1 p2 q1 q2 c p p2 m q2 ol (omega arith) (omega (arith, nl)) (omega arith) (λ b e. inr (let h : number_of b ≡ m = ap number_of e in omega (arith, h))) us g.placed);
    runs = λ all known out a v outer k. both_ran all known out a v outer k;
  }
