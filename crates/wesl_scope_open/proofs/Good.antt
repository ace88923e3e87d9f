-- Events of which references read what plain scoping finds, one after the other and in blocks.
use Rattle.std.proofs.Common.{◌≡◌, ℕ, suc, ◌<◌, ◌≤◌, Bool, true, false, ◌||◌, ◌&&◌, Some, List, [], ◌∷◌, ◌++◌, map, refl, sym, ◌∙◌, ap, ap₂, subst, arith, ◌⊎◌, inl, inr}
use Rattle.std.specs.Prelude.{bytes_eq, if◌then◌else◌}
use Rattle.wesl_tree_names.specs.Path.{Text}
use Rattle.wesl_scope_occurrences.specs.Occurrences.{Block, Standing, module_name, parameter, local, reference, word}
use Rattle.wesl_scope_occurrences.specs.Events.{EventOf}
use Rattle.wesl_scope_open.specs.Scopes.{is_visible, binds}
use Rattle.wesl_scope_open.specs.Open.{Readings, Open, stepped, after, number_of}
use Rattle.wesl_scope_open.proofs.Runs.{Every, every_append, every_so, append_again, map_append, Found, shows, first_in, sight, sights, sight_at, AllWithin, within_append, none_shows, same_shows, shows_append, or_again, not_le, is_le, elsewhere}
use mathlib.Core.Bool.{or-false}

-- ---- where local names are declared: between places p and p', in block b or in those that open there
abbrev pub PlacedAs : Block → ℕ → ℕ → ℕ → ℕ → Standing → Block → Type 0
PlacedAs b p p' q q' (local e) c = (p < e) × (e ≤ p') × ((c ≡ b) ⊎ (q ≤ number_of c)) × (number_of c < q')
PlacedAs b p p' q q' (reference y) c = Unit {0}
PlacedAs b p p' q q' word c = Unit {0}
PlacedAs b p p' q q' module_name c = ⊥
PlacedAs b p p' q q' parameter c = ⊥

abbrev pub Placed : Block → ℕ → ℕ → ℕ → ℕ → Found → Type 0
Placed b p p' q q' o = PlacedAs b p p' q q' o.role o.block

module _ (b : Block) (p p' q q' : ℕ) where
  hidden_one : (w : Block) (n : Text) (x : ℕ) → x ≤ p → (o : Found) (r : Standing) → PlacedAs b p p' q q' r o.block → (is_visible x r && (bytes_eq o.name n && bytes_eq o.block w)) ≡ false
  hidden_one w n x h o (local e) (g, i, j, k) = ap (λ t. t && (bytes_eq o.name n && bytes_eq o.block w)) (not_le e x (omega (arith, h, g)))
  hidden_one w n x h o (reference y) g = refl
  hidden_one w n x h o word g = refl
  hidden_one w n x h o module_name g = absurd g
  hidden_one w n x h o parameter g = absurd g

  -- none is visible yet where they begin
  pub hidden : (os : List Found) → Every (Placed b p p' q q') os → (w : Block) (n : Text) (x : ℕ) → x ≤ p → shows os w n x ≡ false
  hidden os h w n x l = none_shows os w n x (every_so (Placed b p p' q q') (λ o. binds w n x o ≡ false) (λ o k. hidden_one w n x l o o.role k) os h)

  settled_one : (w : Block) (n : Text) (x y : ℕ) → p' ≤ x → p' ≤ y → (o : Found) (r : Standing) → PlacedAs b p p' q q' r o.block
      → (is_visible x r && (bytes_eq o.name n && bytes_eq o.block w)) ≡ (is_visible y r && (bytes_eq o.name n && bytes_eq o.block w))
  settled_one w n x y h k o (local e) (g, i, j, l) = ap (λ t. t && (bytes_eq o.name n && bytes_eq o.block w)) (is_le e x (omega (arith, h, i)) ∙ sym (is_le e y (omega (arith, k, i))))
  settled_one w n x y h k o (reference z) g = refl
  settled_one w n x y h k o word g = refl
  settled_one w n x y h k o module_name g = absurd g
  settled_one w n x y h k o parameter g = absurd g

  -- after their end nothing changes
  pub settled : (os : List Found) → Every (Placed b p p' q q') os → (w : Block) (n : Text) (x y : ℕ) → p' ≤ x → p' ≤ y → shows os w n x ≡ shows os w n y
  settled os h w n x y l m = same_shows os w n x y (every_so (Placed b p p' q q') (λ o. binds w n x o ≡ binds w n y o) (λ o k. settled_one w n x y l m o o.role k) os h)

  later_one : (w : Block) (n : Text) (x : ℕ) → q' ≤ number_of w → (o : Found) (r : Standing) → PlacedAs b p p' q q' r o.block → (is_visible x r && (bytes_eq o.name n && bytes_eq o.block w)) ≡ false
  later_one w n x h o (local e) (g, i, j, k) = elsewhere (is_visible x (local e)) o.name n o.block w (λ f. let m = ap number_of f in omega (arith, h, k, m))
  later_one w n x h o (reference y) g = refl
  later_one w n x h o word g = refl
  later_one w n x h o module_name g = absurd g
  later_one w n x h o parameter g = absurd g

  -- blocks that open later hold none of them
  pub none_later : (os : List Found) → Every (Placed b p p' q q') os → (w : Block) (n : Text) (x : ℕ) → q' ≤ number_of w → shows os w n x ≡ false
  none_later os h w n x l = none_shows os w n x (every_so (Placed b p p' q q') (λ o. binds w n x o ≡ false) (λ o k. later_one w n x l o o.role k) os h)

  wider_one : (d : Block) (a a' e e' : ℕ) → a ≤ p → p' ≤ a' → e ≤ q → q' ≤ e' → ((c : Block) → c ≡ b → (c ≡ d) ⊎ (e ≤ number_of c)) → (c : Block) (r : Standing) → PlacedAs b p p' q q' r c → PlacedAs d a a' e e' r c
  wider_one d a a' e e' h i j k own c (local x) (l, m, s, t) = (omega (arith, h, l), omega (arith, i, m), by s, omega (arith, k, t))
    where
      by : (c ≡ b) ⊎ (q ≤ number_of c) → (c ≡ d) ⊎ (e ≤ number_of c)
      by (inl f) = own c f
      by (inr f) = inr (omega (arith, j, f))
  wider_one d a a' e e' h i j k own c (reference y) g = tt
  wider_one d a a' e e' h i j k own c word g = tt
  wider_one d a a' e e' h i j k own c module_name g = g
  wider_one d a a' e e' h i j k own c parameter g = g

  pub wider : (d : Block) (a a' e e' : ℕ) → a ≤ p → p' ≤ a' → e ≤ q → q' ≤ e' → ((c : Block) → c ≡ b → (c ≡ d) ⊎ (e ≤ number_of c)) → (os : List Found) → Every (Placed b p p' q q') os → Every (Placed d a a' e e') os
  wider d a a' e e' h i j k own os s = every_so (Placed b p p' q q') (Placed d a a' e e') (λ o g. wider_one d a a' e e' h i j k own o.block o.role g) os s

-- those of blocks that open here lie in no block that was there
module _ (b : Block) (p p' q r q' : ℕ) (some : suc q ≤ r) where
  inner_one : (w : Block) (n : Text) (x : ℕ) → number_of w < q → (o : Found) (s : Standing) → PlacedAs (q ∷ b) p p' r q' s o.block → (is_visible x s && (bytes_eq o.name n && bytes_eq o.block w)) ≡ false
  inner_one w n x h o (local e) (g, i, j, k) = elsewhere (is_visible x (local e)) o.name n o.block w (by j)
    where
      by : (o.block ≡ q ∷ b) ⊎ (r ≤ number_of o.block) → o.block ≡ w → ⊥
      by (inl f) s = let m : number_of o.block ≡ q = ap number_of f in let l = ap number_of s in omega (arith, h, m, l)
      by (inr f) s = let l = ap number_of s in omega (arith, h, f, l, some)
  inner_one w n x h o (reference y) g = refl
  inner_one w n x h o word g = refl
  inner_one w n x h o module_name g = absurd g
  inner_one w n x h o parameter g = absurd g

  pub none_outside : (os : List Found) → Every (Placed (q ∷ b) p p' r q') os → (w : Block) (n : Text) (x : ℕ) → number_of w < q → shows os w n x ≡ false
  none_outside os h w n x l = none_shows os w n x (every_so (Placed (q ∷ b) p p' r q') (λ o. binds w n x o ≡ false) (λ o k. inner_one w n x l o o.role k) os h)

-- ---- among all identifiers
-- What all show between places p and p', is what they showed at p, and what these show. Blocks that open there show nothing at p.
pub record Among (all os : List Found) (lo p p' q q' : ℕ) : Type 0 where
  pub grows : (w : Block) (n : Text) (x : ℕ) → p ≤ x → x ≤ p' → lo ≤ number_of w → number_of w < q' → shows all w n x ≡ (shows all w n p || shows os w n x)
  pub fresh : (w : Block) (n : Text) → q ≤ number_of w → number_of w < q' → shows all w n p ≡ false

abbrev pub Outwards : ℕ → ℕ → Block → Type 0
Outwards lo q [] = Unit {0}
Outwards lo q (k ∷ up) = (lo ≤ k) × (k < q) × Outwards lo k up

pub outwards_later : (lo q r : ℕ) (b : Block) → q ≤ r → Outwards lo q b → Outwards lo r b
outwards_later lo q r [] h o = tt
outwards_later lo q r (k ∷ up) h (l, m, n) = (l, omega (arith, h, m), n)

abbrev pub Knows : List Found → Readings → Block → ℕ → Type 0
Knows all v b x = (n : Text) → v n ≡ first_in (λ w. shows all w n x) b

-- tests that agree on blocks along the way
pub first_same : (lo q : ℕ) (s t : Block → Bool) → ((w : Block) → lo ≤ number_of w → number_of w < q → s w ≡ t w) → (b : Block) → Outwards lo q b → first_in s b ≡ first_in t b
first_same lo q s t same [] o = refl
first_same lo q s t same (k ∷ up) (l, m, n) =
    ap₂ (λ a r. if a then Some k else r) (same (k ∷ up) l m) (first_same lo k s t (λ w i j. same w i (omega (arith, j, m))) up n)

-- what is found along the way is no later than where it begins
pub first_within : (lo q : ℕ) (t : Block → Bool) (b : Block) → Outwards lo q b → (c : ℕ) → first_in t b ≡ Some c → c < q
first_within lo q t [] o c e = absurd (let z : ⊥ = cc in z)
first_within lo q t (k ∷ up) (l, m, n) c e = by (t (k ∷ up)) e (first_within lo k t up n c)
  where
    by : (a : Bool) → (if a then Some k else first_in t up) ≡ Some c → (first_in t up ≡ Some c → c < k) → c < q
    by true f g = let h : k ≡ c = cc in omega (arith, h, m)
    by false f g = let h = g f in omega (arith, h, m)

-- ---- runs
abbrev pub holding : Readings → List Readings → Open
holding v outer = record { reads = v; outer = outer }

pub record Ran (all : List Found) (known : Text → Bool) (v : Readings) (outer : List Readings) (es : List (EventOf Text)) (os : List Found) (b : Block) (x : ℕ) : Type 0 where
  pub seen : (n : Text) → sights n known (holding v outer) es ≡ map (sight_at n all) os
  pub within : AllWithin (holding v outer) es
  pub left : Readings
  pub state : after (holding v outer) es ≡ holding left outer
  pub knows : Knows all left b x

-- what the module declares
abbrev pub Outside : List Found → (Text → Bool) → Type 0
Outside all known = (n : Text) (x : ℕ) → shows all [] n x ≡ known n

pub record Good (lo : ℕ) (b : Block) (p p' q q' : ℕ) (es : List (EventOf Text)) (os : List Found) : Type 0 where
  pub later : p ≤ p'
  pub wider : q ≤ q'
  pub placed : Every (Placed b p p' q q') os
  pub runs : (all : List Found) (known : Text → Bool) → Outside all known → Among all os lo p p' q q' → (v : Readings) (outer : List Readings) → Knows all v b p → Ran all known v outer es os b p'

pub after_append : (s : Open) (es fs : List (EventOf Text)) → after s (es ++ fs) ≡ after (after s es) fs
after_append s [] fs = refl
after_append s (e ∷ es) fs = after_append (stepped s e) es fs

pub sights_append : (m : Text) (known : Text → Bool) (s : Open) (es fs : List (EventOf Text)) → sights m known s (es ++ fs) ≡ sights m known s es ++ sights m known (after s es) fs
sights_append m known s [] fs = refl
sights_append m known s (e ∷ es) fs = ap (λ ks. sight m known s e ++ ks) (sights_append m known (stepped s e) es fs) ∙ sym (append_again (sight m known s e) (sights m known (stepped s e) es) (sights m known (after (stepped s e) es) fs))

-- one run after the other
pub ran_then : (all : List Found) (known : Text → Bool) (v : Readings) (outer : List Readings) (es fs : List (EventOf Text)) (os us : List Found) (b c : Block) (x y : ℕ)
    → (r : Ran all known v outer es os b x) → ((w : Readings) → Knows all w b x → Ran all known w outer fs us c y) → Ran all known v outer (es ++ fs) (os ++ us) c y
ran_then all known v outer es fs os us b c x y r next =
    let n = next r.left r.knows in
    record {
      seen = λ m. sights_append m known (holding v outer) es fs ∙ (ap₂ (λ a s. a ++ sights m known s fs) (r.seen m) r.state ∙ (ap (λ a. map (sight_at m all) os ++ a) (n.seen m) ∙ sym (map_append (sight_at m all) os us)));
      within = within_append (holding v outer) es fs r.within (subst (λ s. AllWithin s fs) (sym r.state) n.within);
      left = n.left;
      state = after_append (holding v outer) es fs ∙ (ap (λ s. after s fs) r.state ∙ n.state);
      knows = n.knows;
    }

-- what is among all, in two parts
module _ (all os us : List Found) (lo : ℕ) (b : Block) (p p1 p2 q q1 q2 : ℕ) (pl : p ≤ p1) (pm : p1 ≤ p2) (ql : q ≤ q1) (qm : q1 ≤ q2)
    (first : Every (Placed b p p1 q q1) os) (d : Block) (e e' : ℕ) (second : Every (Placed d p1 p2 e e') us) (a : Among all (os ++ us) lo p p2 q q2) where
  together : (w : Block) (n : Text) (x : ℕ) → p ≤ x → x ≤ p2 → lo ≤ number_of w → number_of w < q2 → shows all w n x ≡ (shows all w n p || (shows os w n x || shows us w n x))
  together w n x h i j k = a.grows w n x h i j k ∙ ap (λ t. shows all w n p || t) (shows_append os us w n x)

  pub early : (w : Block) (n : Text) (x : ℕ) → p ≤ x → x ≤ p1 → lo ≤ number_of w → number_of w < q2 → shows all w n x ≡ (shows all w n p || shows os w n x)
  early w n x h i j k =
      together w n x h (omega (arith, i, pm)) j k
      ∙ ap (λ t. shows all w n p || t) (ap (λ t. shows os w n x || t) (hidden d p1 p2 e e' us second w n x i) ∙ or-false (shows os w n x))

  pub among_first : Among all os lo p p1 q q1
  among_first = record {
    grows = λ w n x h i j k. early w n x h i j (omega (arith, k, qm));
    fresh = λ w n h i. a.fresh w n h (omega (arith, i, qm));
  }

  pub among_second : lo ≤ q → Among all us lo p1 p2 q1 q2
  among_second low = record {
    grows = λ w n x h i j k.
        together w n x (omega (arith, pl, h)) i j k
        ∙ (sym (or_again (shows all w n p) (shows os w n x) (shows us w n x))
        ∙ ap (λ t. t || shows us w n x)
        (ap (λ t. shows all w n p || t) (settled b p p1 q q1 os first w n x p1 h (omega arith)) ∙ sym (early w n p1 pl (omega arith) j k)));
    fresh = λ w n h i.
        early w n p1 pl (omega arith) (omega (arith, low, ql, h)) i
        ∙ ap₂ (λ s t. s || t) (a.fresh w n (omega (arith, ql, h)) i) (none_later b p p1 q q1 os first w n p1 h);
  }

pub good_then : (lo : ℕ) (b : Block) (p p1 p2 q q1 q2 : ℕ) (es fs : List (EventOf Text)) (os us : List Found) → lo ≤ q
    → Good lo b p p1 q q1 es os → Good lo b p1 p2 q1 q2 fs us → Good lo b p p2 q q2 (es ++ fs) (os ++ us)
good_then lo b p p1 p2 q q1 q2 es fs os us low g h =
    let pl = g.later in
    let pm = h.later in
    let ql = g.wider in
    let qm = h.wider in
    record {
      later = omega (arith, pl, pm);
      wider = omega (arith, ql, qm);
      placed = every_append (Placed b p p2 q q2) os us
          (wider b p p1 q q1 b p p2 q q2 (omega arith) pm (omega arith) qm (λ c f. inl f) os g.placed)
          (wider b p1 p2 q1 q2 b p p2 q q2 pl (omega arith) ql (omega arith) (λ c f. inl f) us h.placed);
      runs = λ all known out a v outer k.
          ran_then all known v outer es fs os us b b p1 p2
          (g.runs all known out (among_first all os us lo b p p1 p2 q q1 q2 pl pm ql qm g.placed b q1 q2 h.placed a) v outer k)
          (λ w kw. h.runs all known out (among_second all os us lo b p p1 p2 q q1 q2 pl pm ql qm g.placed b q1 q2 h.placed a low) w outer kw);
    }
