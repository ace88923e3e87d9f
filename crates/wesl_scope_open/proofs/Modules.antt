-- Functions and other parts of a module.
use Rattle.std.proofs.Common.{◌≡◌, ℕ, suc, ◌<◌, ◌≤◌, Bool, true, false, ◌||◌, ◌&&◌, Some, None, List, [], ◌∷◌, ◌++◌, map, refl, sym, ◌∙◌, ap, ap₂, subst, arith, ◌⊎◌, inl, inr}
use Rattle.std.specs.Prelude.{bytes_eq, if◌then◌else◌}
use Rattle.std.proofs.lemmas.Slice.Eq.{bytes_eq-Decides}
use Rattle.wesl_tree_names.specs.Path.{Text}
use Rattle.wesl_scope_occurrences.specs.Occurrences.{Block, Standing, module_name, parameter, local, reference, word, is_binder, is_module_name}
use Rattle.wesl_scope_occurrences.specs.Events.{EventOf, opens, closes}
use Rattle.wesl_scope_open.specs.Scopes.{is_visible, binds}
use Rattle.wesl_scope_open.specs.Open.{Readings, after, number_of, is_declared_by}
use Rattle.wesl_scope_open.proofs.Runs.{Every, every_append, every_so, map_append, Found, shows, sights, sight_at, AllWithin, within_append, none_shows, same_shows, shows_append, apart, elsewhere}
use Rattle.wesl_scope_open.proofs.Good.{Placed, PlacedAs, hidden, Among, Knows, holding, Outside, Ran, Good, after_append, sights_append}
use Rattle.wesl_scope_open.proofs.Still.{IsCalm, StillIn}
use Rattle.wesl_scope_open.proofs.Functions.{Headed, HeadedAs, Header}
use mathlib.Core.Bool.{or-false}
use Rattle.wesl_scope_occurrences.proofs.Cutting.{append_nil}

-- names of the module stand in its block, and others in blocks that open here
abbrev pub ApartAs : ℕ → ℕ → Standing → Block → Type 0
ApartAs q q' module_name c = c ≡ []
ApartAs q q' parameter c = (q ≤ number_of c) × (number_of c < q')
ApartAs q q' (local e) c = (q ≤ number_of c) × (number_of c < q')
ApartAs q q' (reference y) c = Unit {0}
ApartAs q q' word c = Unit {0}

abbrev pub Apart : ℕ → ℕ → Found → Type 0
Apart q q' o = ApartAs q q' o.role o.block

-- the blocks that open here hold what these declare
abbrev pub AreOwn : List Found → List Found → ℕ → ℕ → Type 0
AreOwn all os q q' = (w : Block) (n : Text) (x : ℕ) → q ≤ number_of w → number_of w < q' → shows all w n x ≡ shows os w n x

-- outside of functions nothing is read but what the module declares
abbrev pub Nothing : Readings → Type 0
Nothing v = (n : Text) → v n ≡ None

pub record Outer (p p' q q' : ℕ) (es : List (EventOf Text)) (os : List Found) : Type 0 where
  pub later : p ≤ p'
  pub wider : q ≤ q'
  pub apart : Every (Apart q q') os
  pub runs : (all : List Found) (known : Text → Bool) → Outside all known → AreOwn all os q q' → (v : Readings) (outer : List Readings) → Nothing v
      → ((n : Text) → sights n known (holding v outer) es ≡ map (sight_at n all) os) × (after (holding v outer) es ≡ holding v outer) × AllWithin (holding v outer) es

-- ---- one after the other
module _ (q q' : ℕ) (w : Block) (n : Text) (x : ℕ) where
  late_one : q' ≤ number_of w → 0 < number_of w → (o : Found) (r : Standing) → ApartAs q q' r o.block → (is_visible x r && (bytes_eq o.name n && bytes_eq o.block w)) ≡ false
  late_one h z o module_name a = elsewhere true o.name n o.block w (λ e. let i : number_of o.block ≡ 0 = ap number_of a in let j = ap number_of e in omega (arith, z, i, j))
  late_one h z o parameter (a, b) = elsewhere true o.name n o.block w (λ e. let j = ap number_of e in omega (arith, h, b, j))
  late_one h z o (local e) (a, b) = elsewhere (is_visible x (local e)) o.name n o.block w (λ f. let j = ap number_of f in omega (arith, h, b, j))
  late_one h z o (reference y) a = refl
  late_one h z o word a = refl

  early_one : number_of w < q → (0 < number_of w) → (o : Found) (r : Standing) → ApartAs q q' r o.block → (is_visible x r && (bytes_eq o.name n && bytes_eq o.block w)) ≡ false
  early_one h z o module_name a = elsewhere true o.name n o.block w (λ e. let i : number_of o.block ≡ 0 = ap number_of a in let j = ap number_of e in omega (arith, z, i, j))
  early_one h z o parameter (a, b) = elsewhere true o.name n o.block w (λ e. let j = ap number_of e in omega (arith, h, a, j))
  early_one h z o (local e) (a, b) = elsewhere (is_visible x (local e)) o.name n o.block w (λ f. let j = ap number_of f in omega (arith, h, a, j))
  early_one h z o (reference y) a = refl
  early_one h z o word a = refl

  late : q' ≤ number_of w → 0 < number_of w → (os : List Found) → Every (Apart q q') os → shows os w n x ≡ false
  late h z os a = none_shows os w n x (every_so (Apart q q') (λ o. binds w n x o ≡ false) (λ o k. late_one h z o o.role k) os a)

  early : number_of w < q → 0 < number_of w → (os : List Found) → Every (Apart q q') os → shows os w n x ≡ false
  early h z os a = none_shows os w n x (every_so (Apart q q') (λ o. binds w n x o ≡ false) (λ o k. early_one h z o o.role k) os a)

wider_apart : (q q' r r' : ℕ) → r ≤ q → q' ≤ r' → (c : Block) (s : Standing) → ApartAs q q' s c → ApartAs r r' s c
wider_apart q q' r r' h i c module_name a = a
wider_apart q q' r r' h i c parameter (a, b) = (omega (arith, h, a), omega (arith, i, b))
wider_apart q q' r r' h i c (local e) (a, b) = (omega (arith, h, a), omega (arith, i, b))
wider_apart q q' r r' h i c (reference y) a = tt
wider_apart q q' r r' h i c word a = tt

pub outer_then : (p p1 p2 q q1 q2 : ℕ) (es fs : List (EventOf Text)) (os us : List Found) → 1 ≤ q → Outer p p1 q q1 es os → Outer p1 p2 q1 q2 fs us → Outer p p2 q q2 (es ++ fs) (os ++ us)
outer_then p p1 p2 q q1 q2 es fs os us some g h =
    let pl = g.later in
    let pm = h.later in
    let ql = g.wider in
    let qm = h.wider in
    record {
      later = omega (arith, pl, pm);
      wider = omega (arith, ql, qm);
      apart = every_append (Apart q q2) os us
          (every_so (Apart q q1) (Apart q q2) (λ o a. wider_apart q q1 q q2 (omega arith) qm o.block o.role a) os g.apart)
          (every_so (Apart q1 q2) (Apart q q2) (λ o a. wider_apart q1 q2 q q2 ql (omega arith) o.block o.role a) us h.apart);
      runs = λ all known out own v outer no.
          let (gk, gs, gw) = g.runs all known out (λ b n x i j. own b n x i (omega (arith, j, qm)) ∙ (shows_append os us b n x ∙ (ap (λ t. shows os b n x || t) (early q1 q2 b n x j (omega (arith, some, i)) us h.apart) ∙ or-false (shows os b n x)))) v outer no in
          let (hk, hs, hw) = h.runs all known out (λ b n x i j. own b n x (omega (arith, i, ql)) j ∙ (shows_append os us b n x ∙ ap (λ t. t || shows us b n x) (late q q1 b n x i (omega (arith, some, ql, i)) os g.apart))) v outer no in (
            λ n. sights_append n known (holding v outer) es fs ∙ (ap₂ (λ a t. a ++ sights n known t fs) (gk n) gs ∙ (ap (λ a. map (sight_at n all) os ++ a) (hk n) ∙ sym (map_append (sight_at n all) os us))),
            after_append (holding v outer) es fs ∙ (ap (λ y. after y fs) gs ∙ hs),
            within_append (holding v outer) es fs gw (subst (λ y. AllWithin y fs) (sym gs) hw),
          );
    }

pub outer_as : (p p' q q' : ℕ) (es fs : List (EventOf Text)) (os us : List Found) → fs ≡ es → us ≡ os → Outer p p' q q' es os → Outer p p' q q' fs us
outer_as p p' q q' es fs os us e f g = subst (λ xs. Outer p p' q q' xs us) (sym e) (subst (λ ys. Outer p p' q q' es ys) (sym f) g)

pub outer_wider : (p x p' q y r r' : ℕ) (es : List (EventOf Text)) (os : List Found) → x ≡ p' → r ≤ q → y ≤ r' → Outer p x q y es os → Outer p p' r r' es os
outer_wider p x p' q y r r' es os e h i g =
    let gl = g.later in
    let gw = g.wider in
    record {
      later = omega (arith, gl, e);
      wider = omega (arith, gw, h, i);
      apart = every_so (Apart q y) (Apart r r') (λ o a. wider_apart q y r r' h i o.block o.role a) os g.apart;
      runs = λ all known out own v outer no. g.runs all known out (λ b n x j k. own b n x (omega (arith, h, j)) (omega (arith, i, k))) v outer no;
    }

pub outer_none : (p p' q q' : ℕ) → p ≤ p' → q ≤ q' → Outer p p' q q' [] []
outer_none p p' q q' h i = record { later = h; wider = i; apart = tt; runs = λ all known out own v outer no. (λ n. refl, refl, tt) }

calm_apart : (q q' : ℕ) (o : Found) (r : Standing) → IsCalm r → ApartAs q q' r o.block
calm_apart q q' o (reference y) h = tt
calm_apart q q' o word h = tt
calm_apart q q' o (local e) h = absurd h
calm_apart q q' o module_name h = absurd h
calm_apart q q' o parameter h = absurd h

pub outer_still : (R : List Found → Readings → ℕ → Type 0) → ((all : List Found) (v : Readings) (x : ℕ) → R all v x) → (p p' q q' : ℕ) (es : List (EventOf Text)) (os : List Found) → q ≤ q' → StillIn R p p' es os → Outer p p' q q' es os
outer_still R any p p' q q' es os h s = record {
  later = s.later;
  wider = h;
  apart = every_so (λ o. IsCalm o.role) (Apart q q') (λ o c. calm_apart q q' o o.role c) os s.calm;
  runs = λ all known out own v outer no. (s.seen all known out v outer (λ x i j. any all v x), s.state v outer, s.within v outer);
}

-- ---- functions
steady_one : (m : ℕ) (w : Block) (n : Text) (x y : ℕ) (o : Found) (r : Standing) → HeadedAs m r o.block → (is_visible x r && (bytes_eq o.name n && bytes_eq o.block w)) ≡ (is_visible y r && (bytes_eq o.name n && bytes_eq o.block w))
steady_one m w n x y o module_name h = refl
steady_one m w n x y o parameter h = refl
steady_one m w n x y o (reference z) h = refl
steady_one m w n x y o word h = refl
steady_one m w n x y o (local e) h = absurd h

inner_one : (m : ℕ) (w : Block) (n : Text) (x : ℕ) → suc m ≤ number_of w → (o : Found) (r : Standing) → HeadedAs m r o.block → (is_visible x r && (bytes_eq o.name n && bytes_eq o.block w)) ≡ false
inner_one m w n x h o module_name a = elsewhere true o.name n o.block w (λ e. let i : number_of o.block ≡ 0 = ap number_of a in let j = ap number_of e in omega (arith, h, i, j))
inner_one m w n x h o parameter a = elsewhere true o.name n o.block w (λ e. let i : number_of o.block ≡ m = ap number_of a in let j = ap number_of e in omega (arith, h, i, j))
inner_one m w n x h o (reference z) a = refl
inner_one m w n x h o word a = refl
inner_one m w n x h o (local e) a = absurd a

module _ (p p1 p' q q' : ℕ) (some : 1 ≤ q) (es fs : List (EventOf Text)) (os us : List Found) (head : Header q p p1 es os) (body : Good q (q ∷ []) p1 p' (suc q) q' fs us) where
  pl : p ≤ p1
  pl = head.later

  pm : p1 ≤ p'
  pm = body.later

  ql : suc q ≤ q'
  ql = body.wider

  steady : (w : Block) (n : Text) (x y : ℕ) → shows os w n x ≡ shows os w n y
  steady w n x y = same_shows os w n x y (every_so (Headed q) (λ o. binds w n x o ≡ binds w n y o) (λ o h. steady_one q w n x y o o.role h) os head.headed)

  module _ (all : List Found) (known : Text → Bool) (out : Outside all known) (own : AreOwn all (os ++ us) q q') (v : Readings) (outer : List Readings) (no : Nothing v) where
    parts : (w : Block) (n : Text) (x : ℕ) → q ≤ number_of w → number_of w < q' → shows all w n x ≡ (shows os w n x || shows us w n x)
    parts w n x i j = own w n x i j ∙ shows_append os us w n x

    at_start : (w : Block) (n : Text) → q ≤ number_of w → number_of w < q' → shows all w n p1 ≡ shows os w n p1
    at_start w n i j = parts w n p1 i j ∙ (ap (λ t. shows os w n p1 || t) (hidden (q ∷ []) p1 p' (suc q) q' us body.placed w n p1 (omega arith)) ∙ or-false (shows os w n p1))

    among : Among all us q p1 p' (suc q) q'
    among = record {
      grows = λ w n x h i j k. parts w n x j k ∙ ap (λ t. t || shows us w n x) (steady w n x p1 ∙ sym (at_start w n j k));
      fresh = λ w n h i. at_start w n (omega (arith, h)) i ∙ none_shows os w n p1 (every_so (Headed q) (λ o. binds w n p1 o ≡ false) (λ o a. inner_one q w n p1 h o o.role a) os head.headed);
    }

    knows_start : Knows all (head.left v) (q ∷ []) p1
    knows_start n = head.reads v n p1 ∙ (ap (λ r. if shows os (q ∷ []) n p1 then Some q else r) (no n) ∙ ap (λ t. if t then Some q else None) (sym (at_start (q ∷ []) n (omega arith) (omega (arith, ql)))))

    ran : Ran all known (head.left v) (v ∷ outer) fs us (q ∷ []) p'
    ran = body.runs all known out among (head.left v) (v ∷ outer) knows_start

    function_seen : (n : Text) → sights n known (holding v outer) (opens ∷ ((es ++ fs) ++ closes ∷ [])) ≡ map (sight_at n all) (os ++ us)
    function_seen n =
        sights_append n known (holding v (v ∷ outer)) (es ++ fs) (closes ∷ [])
        ∙ (append_nil (sights n known (holding v (v ∷ outer)) (es ++ fs))
        ∙ (sights_append n known (holding v (v ∷ outer)) es fs
        ∙ (ap₂ (λ a t. a ++ sights n known t fs) (head.seen all known out v (v ∷ outer) n) (head.state v (v ∷ outer)) ∙ (ap (λ a. map (sight_at n all) os ++ a) (ran.seen n) ∙ sym (map_append (sight_at n all) os us)))))

    function_within : AllWithin (holding v outer) (opens ∷ ((es ++ fs) ++ closes ∷ []))
    function_within = (
      tt,
      within_append (holding v (v ∷ outer)) (es ++ fs) (closes ∷ [])
          (within_append (holding v (v ∷ outer)) es fs (head.within v (v ∷ outer) (λ n c e. let f = sym (no n) ∙ e in let z : ⊥ = cc in absurd z)) (subst (λ t. AllWithin t fs) (sym (head.state v (v ∷ outer))) ran.within))
          (tt, tt),
    )

    function_state : after (holding v outer) (opens ∷ ((es ++ fs) ++ closes ∷ [])) ≡ holding v outer
    function_state =
        after_append (holding v (v ∷ outer)) (es ++ fs) (closes ∷ [])
        ∙ ap (λ t. after t (closes ∷ [])) (after_append (holding v (v ∷ outer)) es fs ∙ (ap (λ t. after t fs) (head.state v (v ∷ outer)) ∙ ran.state))

  function_apart : Every (Apart q q') (os ++ us)
  function_apart = every_append (Apart q q') os us (every_so (Headed q) (Apart q q') (λ o h. head_one o o.role h) os head.headed) (every_so (Placed (q ∷ []) p1 p' (suc q) q') (Apart q q') (λ o h. body_one o o.role h) us body.placed)
    where
      head_one : (o : Found) (r : Standing) → HeadedAs q r o.block → ApartAs q q' r o.block
      head_one o module_name h = h
      head_one o parameter h = let i : number_of o.block ≡ q = ap number_of h in (omega (arith, i), omega (arith, i, ql))
      head_one o (reference z) h = tt
      head_one o word h = tt
      head_one o (local e) h = absurd h

      in_it : (c : Block) → (c ≡ q ∷ []) ⊎ (suc q ≤ number_of c) → q ≤ number_of c
      in_it c (inl e) = let i : number_of c ≡ q = ap number_of e in omega (arith, i)
      in_it c (inr h) = omega (arith, h)

      body_one : (o : Found) (r : Standing) → PlacedAs (q ∷ []) p1 p' (suc q) q' r o.block → ApartAs q q' r o.block
      body_one o (local e) (g, i, j, k) = (in_it o.block j, k)
      body_one o (reference z) h = tt
      body_one o word h = tt
      body_one o module_name h = absurd h
      body_one o parameter h = absurd h

  pub function_outer : Outer p p' q q' (opens ∷ ((es ++ fs) ++ closes ∷ [])) (os ++ us)
  function_outer = record {
    later = omega (arith, pl, pm);
    wider = omega (arith, ql);
    apart = function_apart;
    runs = λ all known out own v outer no. (function_seen all known out own v outer no, function_state all known out own v outer no, function_within all known out own v outer no);
  }

-- ---- a whole module
module _ (q' : ℕ) (n : Text) (x : ℕ) where
  outside_one : (o : Found) (r : Standing) → ApartAs 1 q' r o.block → (is_visible x r && (bytes_eq o.name n && bytes_eq o.block [])) ≡ (is_module_name r && bytes_eq o.name n)
  outside_one o module_name a = ap (λ c. bytes_eq o.name n && bytes_eq c []) a ∙ and_true (bytes_eq o.name n)
    where
      and_true : (b : Bool) → (b && true) ≡ b
      and_true true = refl
      and_true false = refl
  outside_one o parameter (a, b) = elsewhere true o.name n o.block [] (λ e. let j : number_of o.block ≡ 0 = ap number_of e in omega (arith, a, j))
  outside_one o (local e) (a, b) = elsewhere (is_visible x (local e)) o.name n o.block [] (λ f. let j : number_of o.block ≡ 0 = ap number_of f in omega (arith, a, j))
  outside_one o (reference z) a = refl
  outside_one o word a = refl

  outside : (os : List Found) → Every (Apart 1 q') os → shows os [] n x ≡ is_declared_by os n
  outside [] h = refl
  outside (o ∷ os) h = ap₂ (λ a b. a || b) (outside_one o o.role h.0) (outside os h.1)

module _ (p p' q' : ℕ) (es : List (EventOf Text)) (os : List Found) (g : Outer p p' 1 q' es os) where
  pub whole_outside : (n : Text) (x : ℕ) → shows os [] n x ≡ is_declared_by os n
  whole_outside n x = outside q' n x os g.apart

  global_one : (o : Found) (r : Standing) → ApartAs 1 q' r o.block → (is_binder r && bytes_eq o.block []) ≡ is_module_name r
  global_one o module_name a = (bytes_eq-Decides o.block []).1 a
  global_one o parameter (a, b) = apart o.block [] (λ e. let j : number_of o.block ≡ 0 = ap number_of e in omega (arith, a, j))
  global_one o (local e) (a, b) = apart o.block [] (λ f. let j : number_of o.block ≡ 0 = ap number_of f in omega (arith, a, j))
  global_one o (reference z) a = refl
  global_one o word a = refl

  -- what the module's block declares are its imports and global declarations
  pub whole_globals : Every (λ o. (is_binder o.role && bytes_eq o.block []) ≡ is_module_name o.role) os
  whole_globals = every_so (Apart 1 q') (λ o. (is_binder o.role && bytes_eq o.block []) ≡ is_module_name o.role) (λ o a. global_one o o.role a) os g.apart

  module _ (v : Readings) (none : Nothing v) where
    pub whole_seen : (n : Text) → sights n (is_declared_by os) (holding v []) es ≡ map (sight_at n os) os
    whole_seen = (g.runs os (is_declared_by os) whole_outside (λ w n x h i. refl) v [] none).0

    pub whole_within : AllWithin (holding v []) es
    whole_within = (g.runs os (is_declared_by os) whole_outside (λ w n x h i. refl) v [] none).2
