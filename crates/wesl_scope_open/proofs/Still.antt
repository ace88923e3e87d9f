-- Events at which nothing changes, declarations, and blocks.
use Rattle.std.proofs.Common.{◌≡◌, ℕ, suc, ◌<◌, ◌≤◌, Bool, true, false, ◌||◌, ◌&&◌, Option, Some, List, [], ◌∷◌, ◌++◌, map, refl, sym, ◌∙◌, ap, ap₂, subst, arith, inl}
use Rattle.std.specs.Prelude.{bytes_eq, if◌then◌else◌}
use Rattle.std.proofs.lemmas.Slice.Eq.{bytes_eq-Decides}
use Rattle.wesl_tree_names.specs.Path.{Text}
use Rattle.wesl_scope_occurrences.specs.Occurrences.{Block, Standing, module_name, parameter, local, reference, word, Surroundings}
use Rattle.wesl_scope_occurrences.specs.Walk.{Here}
use Rattle.wesl_scope_occurrences.specs.Events.{EventOf, meets, ends}
use Rattle.wesl_scope_open.specs.Scopes.{is_visible, binds}
use Rattle.wesl_scope_open.specs.Open.{Readings, with_visible, after, of_block, number_of}
use Rattle.wesl_scope_open.proofs.Runs.{Every, every_append, every_so, map_append, Found, shows, first_in, sights, sight_at, AllWithin, ReadWithin, within_append, none_shows, is_le, not_le}
use Rattle.wesl_scope_open.proofs.Good.{Placed, PlacedAs, Among, Outwards, Knows, first_same, first_within, holding, Ran, Outside, Good, after_append, sights_append}
use mathlib.Core.Bool.{or-false, or-true}
use Rattle.wesl_scope_occurrences.proofs.Cutting.{append_nil}

-- surroundings by the numbers of their blocks
abbrev pub by_numbers : Surroundings Block → Here
by_numbers s = record { block = number_of s.block; held_block = number_of s.held_block; is_local = s.is_local; declaration = s.declaration; words = s.words; excused = s.excused }

-- what declares nothing
abbrev pub IsCalm : Standing → Type 0
IsCalm (reference y) = Unit {0}
IsCalm word = Unit {0}
IsCalm (local e) = ⊥
IsCalm module_name = ⊥
IsCalm parameter = ⊥

abbrev pub Calm : Found → Type 0
Calm o = IsCalm o.role

calm_one : (w : Block) (n : Text) (x : ℕ) (o : Found) (r : Standing) → IsCalm r → (is_visible x r && (bytes_eq o.name n && bytes_eq o.block w)) ≡ false
calm_one w n x o (reference y) h = refl
calm_one w n x o word h = refl
calm_one w n x o (local e) h = absurd h
calm_one w n x o module_name h = absurd h
calm_one w n x o parameter h = absurd h

pub calm_shows : (os : List Found) → Every Calm os → (w : Block) (n : Text) (x : ℕ) → shows os w n x ≡ false
calm_shows os h w n x = none_shows os w n x (every_so Calm (λ o. binds w n x o ≡ false) (λ o k. calm_one w n x o o.role k) os h)

calm_placed : (b : Block) (p p' q q' : ℕ) (o : Found) (r : Standing) → IsCalm r → PlacedAs b p p' q q' r o.block
calm_placed b p p' q q' o (reference y) h = tt
calm_placed b p p' q q' o word h = tt
calm_placed b p p' q q' o (local e) h = absurd h
calm_placed b p p' q q' o module_name h = absurd h
calm_placed b p p' q q' o parameter h = absurd h

pub calm_places : (b : Block) (p p' q q' : ℕ) (os : List Found) → Every Calm os → Every (Placed b p p' q q') os
calm_places b p p' q q' os h = every_so Calm (Placed b p p' q q') (λ o k. calm_placed b p p' q q' o o.role k) os h

-- events at which nothing is declared, opens or closes, where `R` is so of what references read
pub record StillIn (R : List Found → Readings → ℕ → Type 0) (p p' : ℕ) (es : List (EventOf Text)) (os : List Found) : Type 0 where
  pub later : p ≤ p'
  pub calm : Every Calm os
  pub seen : (all : List Found) (known : Text → Bool) → Outside all known → (v : Readings) (outer : List Readings) → ((x : ℕ) → p ≤ x → x < p' → R all v x) → (n : Text) → sights n known (holding v outer) es ≡ map (sight_at n all) os
  pub within : (v : Readings) (outer : List Readings) → AllWithin (holding v outer) es
  pub state : (v : Readings) (outer : List Readings) → after (holding v outer) es ≡ holding v outer

-- those of block b are known
abbrev pub knows : Block → List Found → Readings → ℕ → Type 0
knows b all v x = Knows all v b x

abbrev pub Still : Block → ℕ → ℕ → List (EventOf Text) → List Found → Type 0
Still b = StillIn (knows b)

module _ (R : List Found → Readings → ℕ → Type 0) where
  pub still_none_in : (p p' : ℕ) → p ≤ p' → StillIn R p p' [] []
  still_none_in p p' h = record { later = h; calm = tt; seen = λ all known out v outer k n. refl; within = λ v outer. tt; state = λ v outer. refl }

  pub still_then_in : (p p1 p2 : ℕ) (es fs : List (EventOf Text)) (os us : List Found) → StillIn R p p1 es os → StillIn R p1 p2 fs us → StillIn R p p2 (es ++ fs) (os ++ us)
  still_then_in p p1 p2 es fs os us g h =
      let pl = g.later in
      let pm = h.later in
      record {
        later = omega (arith, pl, pm);
        calm = every_append Calm os us g.calm h.calm;
        seen = λ all known out v outer k n.
            sights_append n known (holding v outer) es fs
            ∙ (ap₂ (λ a s. a ++ sights n known s fs) (g.seen all known out v outer (λ x i j. k x i (omega (arith, j, pm))) n) (g.state v outer)
            ∙ (ap (λ a. map (sight_at n all) os ++ a) (h.seen all known out v outer (λ x i j. k x (omega (arith, i, pl)) j) n) ∙ sym (map_append (sight_at n all) os us)));
        within = λ v outer. within_append (holding v outer) es fs (g.within v outer) (subst (λ s. AllWithin s fs) (sym (g.state v outer)) (h.within v outer));
        state = λ v outer. after_append (holding v outer) es fs ∙ (ap (λ s. after s fs) (g.state v outer) ∙ h.state v outer);
      }

pub still_none : (b : Block) (p p' : ℕ) → p ≤ p' → Still b p p' [] []
still_none b = still_none_in (knows b)

pub still_then : (b : Block) (p p1 p2 : ℕ) (es fs : List (EventOf Text)) (os us : List Found) → Still b p p1 es os → Still b p1 p2 fs us → Still b p p2 (es ++ fs) (os ++ us)
still_then b = still_then_in (knows b)

-- what is known stays so where nothing is declared
module _ (lo : ℕ) (b : Block) (p p' q q' : ℕ) (ql : q ≤ q') (way : Outwards lo q b) (all os : List Found)
    (grows : (w : Block) (n : Text) (x : ℕ) → p ≤ x → x ≤ p' → lo ≤ number_of w → number_of w < q' → shows all w n x ≡ (shows all w n p || shows os w n x)) (none : (w : Block) (n : Text) (x : ℕ) → number_of w < q → p ≤ x → x ≤ p' → shows os w n x ≡ false) where
  pub knows_still : (v : Readings) → Knows all v b p → (x : ℕ) → p ≤ x → x ≤ p' → Knows all v b x
  knows_still v k x h i = λ n.
      k n
      ∙ first_same lo q (λ w. shows all w n p) (λ w. shows all w n x)
      (λ w l m. sym (grows w n x h i l (omega (arith, m, ql)) ∙ (ap (λ t. shows all w n p || t) (none w n x m h i) ∙ or-false (shows all w n p)))) b way

pub still_good : (lo : ℕ) (b : Block) (p p' q q' : ℕ) (es : List (EventOf Text)) (os : List Found) → q ≤ q' → Outwards lo q b → Still b p p' es os → Good lo b p p' q q' es os
still_good lo b p p' q q' es os ql way s = record {
  later = s.later;
  wider = ql;
  placed = calm_places b p p' q q' os s.calm;
  runs = λ all known out a v outer k.
      let pl = s.later in
      let kn = knows_still lo b p p' q q' ql way all os a.grows (λ w n x m h i. calm_shows os s.calm w n x) v k in
      record {
        seen = s.seen all known out v outer (λ x i j. kn x i (omega (arith, j)));
        within = s.within v outer;
        left = v;
        state = s.state v outer;
        knows = kn p' pl (omega arith);
      };
}

-- ---- a declaration statement from its name on
abbrev pub the_name : ℕ → Text → ℕ → Block → Option ℕ → Bool → Found
the_name e x p b d u = record { role = local e; name = x; place = p; block = b; declaration = d; excused = u }

module _ (lo k : ℕ) (up : Block) (p p' q : ℕ) (way : Outwards lo q (k ∷ up)) (here : Here) (at : here.block ≡ k) (x : Text) (d : Option ℕ) (u : Bool) (es : List (EventOf Text)) (os : List Found) (s : Still (k ∷ up) (suc p) p' es os) where
  abbrev b : Block
  b = k ∷ up

  abbrev o : Found
  o = the_name p' x p b d u

  sl : suc p ≤ p'
  sl = s.later

  unseen : (w : Block) (n : Text) (y : ℕ) → y < p' → shows (o ∷ os) w n y ≡ false
  unseen w n y h = ap₂ (λ a c. (a && (bytes_eq x n && bytes_eq b w)) || c) (not_le p' y h) (calm_shows os s.calm w n y)

  seen : (n : Text) → bytes_eq x n ≡ true → shows (o ∷ os) b n p' ≡ true
  seen n e = let f = is_le p' p' (omega arith) in let g = (bytes_eq-Decides b b).1 refl in rw (f, e, g) refl

  other : (w : Block) (n : Text) → bytes_eq x n ≡ false → shows (o ∷ os) w n p' ≡ false
  other w n e = let f = is_le p' p' (omega arith) in let g = calm_shows os s.calm w n p' in rw (f, e, g) refl

  module _ (all : List Found) (known : Text → Bool) (out : Outside all known) (a : Among all (o ∷ os) lo p p' q q) (v : Readings) (outer : List Readings) (kn : Knows all v b p) where
    before_end : (y : ℕ) → p ≤ y → y < p' → Knows all v b y
    before_end y h i = λ n.
        kn n
        ∙ first_same lo q (λ w. shows all w n p) (λ w. shows all w n y)
        (λ w l m. sym (a.grows w n y h (omega (arith, i)) l m ∙ (ap (λ t. shows all w n p || t) (unseen w n y i) ∙ or-false (shows all w n p)))) b way

    at_end : Knows all (with_visible x here.block v) b p'
    at_end n = by (bytes_eq x n) refl
      where
        by : (t : Bool) → bytes_eq x n ≡ t → (if bytes_eq x n then Some here.block else v n) ≡ (if shows all (k ∷ up) n p' then Some k else first_in (λ w. shows all w n p') up)
        by true e =
            let f : shows all b n p' ≡ true = a.grows b n p' (omega (arith, sl)) (omega arith) way.0 way.1 ∙ (ap (λ t. shows all b n p || t) (seen n e) ∙ or-true (shows all b n p)) in
            rw (e, f, at) refl
        by false e =
            let g : v n ≡ first_in (λ w. shows all w n p') b =
            kn n
            ∙ first_same lo q (λ w. shows all w n p) (λ w. shows all w n p')
            (λ w l m. sym (a.grows w n p' (omega (arith, sl)) (omega arith) l m ∙ (ap (λ t. shows all w n p || t) (other w n e) ∙ or-false (shows all w n p)))) b way in
            ap (λ t. if t then Some here.block else v n) e ∙ g

    read_within : ReadWithin v here.block
    read_within n c e = let l = first_within lo (suc k) (λ w. shows all w n p) b (way.0, omega arith, way.2) c (sym (kn n) ∙ e) in omega (arith, l, at)

    declared_ran : Ran all known v outer (meets here (local 0) x ∷ (es ++ ends here x ∷ [])) (o ∷ os) b p'
    declared_ran = record {
      seen = λ n.
          ap₂ (λ c r. c ∷ r) (ap₂ (λ c y. (of_block c x, y)) at (kn n))
          (sights_append n known (holding v outer) es (ends here x ∷ []) ∙ (append_nil (sights n known (holding v outer) es) ∙ s.seen all known out v outer (λ y h i. before_end y (omega (arith, h)) i) n));
      within = (tt, within_append (holding v outer) es (ends here x ∷ []) (s.within v outer) (subst (λ t. AllWithin t (ends here x ∷ [])) (sym (s.state v outer)) (read_within, tt)));
      left = with_visible x here.block v;
      state = after_append (holding v outer) es (ends here x ∷ []) ∙ ap (λ r. after r (ends here x ∷ [])) (s.state v outer);
      knows = at_end;
    }

  pub declares : Good lo (k ∷ up) p p' q q (meets here (local 0) x ∷ (es ++ ends here x ∷ [])) (the_name p' x p (k ∷ up) d u ∷ os)
  declares = record {
    later = omega (arith, sl);
    wider = omega arith;
    placed = ((omega (arith, sl), omega arith, inl refl, way.1), calm_places b p p' q q os s.calm);
    runs = λ all known out a v outer kn. declared_ran all known out a v outer kn;
  }
