-- The turns of a search.
use Rattle.std.proofs.Common.{replicate, ◌≡◌, ◌≢◌, ◌⊎◌, ℕ, zero, suc, ◌<◌, ◌≤◌, ◌+◌, ◌-◌, ◌++◌, map, reverse, Vec, Global, Option, Some, None, List, [], ◌∷◌, length, get_or, set, refl, sym, ap, ◌∙◌, subst, inl, inr, arith}
use Rattle.std.specs.Prelude.{IfNone}
use Rattle.std.proofs.lemmas.List.{get_or-set_same, get_or-set_other, length-set, reverse-append, length-map}
use Rattle.wesl_validate_rules.specs.Graphs.{Graph, graph_view, edges_at, IsClosed, Leads, Path, edge, then, IsGrounded, grounded, IsRing}
use Rattle.wesl_validate_rules.specs.Searches.{edge_target, stage_at, left_at, OnWay, AreWay, IsSearch}
use Rattle.wesl_validate_rules.specs.declared.graph.Mark.{Mark}
use Rattle.wesl_validate_rules.specs.declared.graph.Mark.TheVariants.{New, Open, Done}

abbrev Is : Mark → Mark → Type 0
Is New New = Unit {0}
Is Open Open = Unit {0}
Is Done Done = Unit {0}
Is _ _ = ⊥

new_not_done : New ≡ Done → ⊥
new_not_done e = subst (λ m. Is New m) e tt

new_not_open : New ≡ Open → ⊥
new_not_open e = subst (λ m. Is New m) e tt

open_not_done : Open ≡ Done → ⊥
open_not_done e = subst (λ m. Is Open m) e tt

abbrev IsNothing : Option ℕ → Type 0
IsNothing None = Unit {0}
IsNothing (Some x) = ⊥

none_some : {x : ℕ} → None ≡ Some x → ⊥
none_some e = subst IsNothing e tt

equal_or : (x y : ℕ) → (x ≡ y) ⊎ (x ≢ y)
equal_or zero zero = inl refl
equal_or zero (suc y) = inr (λ e. absurd (omega (arith, e)))
equal_or (suc x) zero = inr (λ e. absurd (omega (arith, e)))
equal_or (suc x) (suc y) = step (equal_or x y)
  where
    step : (x ≡ y) ⊎ (x ≢ y) → (suc x ≡ suc y) ⊎ (suc x ≢ suc y)
    step (inl e) = inl (ap suc e)
    step (inr f) = inr (λ e. f (omega (arith, e)))

equal_or_less : (x y : ℕ) → x ≤ y → (x ≡ y) ⊎ (suc x ≤ y)
equal_or_less zero zero q = inl refl
equal_or_less zero (suc y) q = inr (omega arith)
equal_or_less (suc x) zero q = absurd (omega (arith, q))
equal_or_less (suc x) (suc y) q = step (equal_or_less x y (omega (arith, q)))
  where
    step : (x ≡ y) ⊎ (suc x ≤ y) → (suc x ≡ suc y) ⊎ (suc (suc x) ≤ suc y)
    step (inl e) = inl (ap suc e)
    step (inr f) = inr (omega (arith, f))

-- what was met stays met
pub met_after : (ms : List Mark) (t : ℕ) (m : Mark) (b : ℕ) → t < length ms → m ≢ New → stage_at ms b ≢ New → stage_at (set ms t m) b ≢ New
met_after ms t m b h f met e = by (equal_or b t)
  where
    by : (b ≡ t) ⊎ (b ≢ t) → ⊥
    by (inl q) = f (sym (get_or-set_same ms t m New h) ∙ (ap (stage_at (set ms t m)) (sym q) ∙ e))
    by (inr q) = met (sym (get_or-set_other ms t b m New q) ∙ e)

module _ (g : Graph) where
  -- what is done stays done
  way_marks : (ms ns : List Mark) (ls : List ℕ) → ((b : ℕ) → stage_at ms b ≡ Done → stage_at ns b ≡ Done) → (above : Option ℕ) (ws : List ℕ) → AreWay g ms ls above ws → AreWay g ns ls above ws
  way_marks ms ns ls f above [] w = tt
  way_marks ms ns ls f above (a ∷ ws) (i, l, o, n, w) = (i, (λ k h j. by k (l k h j)), o, n, way_marks ms ns ls f (Some a) ws w)
    where
      by : (k : ℕ) → (stage_at ms (edge_target g a k) ≡ Done) ⊎ (above ≡ Some (edge_target g a k)) → (stage_at ns (edge_target g a k) ≡ Done) ⊎ (above ≡ Some (edge_target g a k))
      by k (inl d) = inl (f (edge_target g a k) d)
      by k (inr e) = inr e

  -- edges of a node that is not on the way play no part
  way_left : (ms : List Mark) (ls : List ℕ) (a n : ℕ) (above : Option ℕ) (ws : List ℕ) → (OnWay a ws → ⊥) → AreWay g ms ls above ws → AreWay g ms (set ls a n) above ws
  way_left ms ls a n above [] off w = tt
  way_left ms ls a n above (b ∷ ws) off (i, l, o, d, w) =
      (i, (λ k h j. l k (subst (λ x. x ≤ k) (get_or-set_other ls a b n 0 (λ e. off (inl e))) h) j), o, d, way_left ms ls a n (Some b) ws (λ x. off (inr x)) w)

  -- a path down the way
  path_down : (ms : List Mark) (ls : List ℕ) (t a : ℕ) (ws : List ℕ) → AreWay g ms ls (Some a) ws → OnWay t ws → Path g t a
  path_down ms ls t a [] w on = absurd on
  path_down ms ls t a (b ∷ ws) (i, l, o, n, w) (inl e) = edge t a (subst (λ x. Leads g x a) e o)
  path_down ms ls t a (b ∷ ws) (i, l, o, n, w) (inr on) = extended t b a (path_down ms ls t b ws w on) o
    where
      extended : (x y z : ℕ) → Path g x y → Leads g y z → Path g x z
      extended x y z (edge _ _ s) q = then x y z s (edge y z q)
      extended x y z (then _ d _ s r) q = then x d z s (extended d y z r q)

  -- the edge that is looked at is one
  leads : (a n : ℕ) → n < length (edges_at g a) → Leads g a (edge_target g a n)
  leads a n h = (n, h, get_or_any (edges_at g a) n (edge_target g a n) 0 h)
    where
      get_or_any : (xs : List ℕ) (i d e : ℕ) → i < length xs → get_or xs i d ≡ get_or xs i e
      get_or_any [] i d e j = absurd (omega (arith, j))
      get_or_any (x ∷ xs) zero d e j = refl
      get_or_any (x ∷ xs) (suc i) d e j = get_or_any xs i d e (omega (arith, j))

  -- a target that is open closes a ring
  pub closes : (ms : List Mark) (ls : List ℕ) (a n : ℕ) (ws : List ℕ) → IsSearch g ms ls (a ∷ ws) → n < length (edges_at g a) → stage_at ms (edge_target g a n) ≡ Open → IsRing g (edge_target g a n) a
  closes ms ls a n ws s h m = record { leads_there = by (s.on_way (edge_target g a n) m); leads_back = leads a n h }
    where
      by : OnWay (edge_target g a n) (a ∷ ws) → (edge_target g a n ≡ a) ⊎ Path g (edge_target g a n) a
      by (inl e) = inl (sym e)
      by (inr on) = inr (path_down ms ls (edge_target g a n) a ws (s.way.4) on)

  -- a target that is done
  pub skips : (ms : List Mark) (ls : List ℕ) (a n : ℕ) (ws : List ℕ) → IsSearch g ms ls (a ∷ ws) → left_at ls a ≡ suc n → stage_at ms (edge_target g a n) ≡ Done → IsSearch g ms (set ls a n) (a ∷ ws)
  skips ms ls a n ws s left m = record {
    marks_sized = s.marks_sized;
    left_sized = length-set ls a n ∙ s.left_sized;
    fresh = λ b i e. get_or-set_other ls a b n 0 (apart b e) ∙ s.fresh b i e;
    within = λ b i. less b i;
    done = s.done;
    on_way = s.on_way;
    opened = s.opened;
    way = (s.way.0, (λ k h j. looked k h j), s.way.2, s.way.3, way_left ms ls a n (Some a) ws s.way.3 s.way.4);
  }
    where
      inside : a < length ls
      inside = subst (λ x. a < x) (sym s.left_sized) s.way.0

      here : left_at (set ls a n) a ≡ n
      here = get_or-set_same ls a n 0 inside

      apart : (b : ℕ) → stage_at ms b ≡ New → b ≢ a
      apart b e q = new_not_open (sym e ∙ (ap (stage_at ms) q ∙ s.opened a (inl refl)))

      at_most : n ≤ length (edges_at g a)
      at_most = let w = s.within a s.way.0 in omega (arith, w, left)

      less : (b : ℕ) → b < length g → left_at (set ls a n) b ≤ length (edges_at g b)
      less b i = by (dec b a)
        where
          dec : (x y : ℕ) → (x ≡ y) ⊎ (x ≢ y)
          dec zero zero = inl refl
          dec zero (suc y) = inr (λ e. absurd (omega (arith, e)))
          dec (suc x) zero = inr (λ e. absurd (omega (arith, e)))
          dec (suc x) (suc y) = step (dec x y)
            where
              step : (x ≡ y) ⊎ (x ≢ y) → (suc x ≡ suc y) ⊎ (suc x ≢ suc y)
              step (inl e) = inl (ap suc e)
              step (inr f) = inr (λ e. f (omega (arith, e)))

          by : (b ≡ a) ⊎ (b ≢ a) → left_at (set ls a n) b ≤ length (edges_at g b)
          by (inl e) = subst (λ x. left_at (set ls a n) x ≤ length (edges_at g x)) (sym e) (subst (λ x. x ≤ length (edges_at g a)) (sym here) at_most)
          by (inr f) = subst (λ x. x ≤ length (edges_at g b)) (sym (get_or-set_other ls a b n 0 f)) (s.within b i)

      looked : (k : ℕ) → left_at (set ls a n) a ≤ k → k < length (edges_at g a) → (stage_at ms (edge_target g a k) ≡ Done) ⊎ (None ≡ Some (edge_target g a k))
      looked k h j = by (cases n k (subst (λ x. x ≤ k) here h))
        where
          cases : (x y : ℕ) → x ≤ y → (x ≡ y) ⊎ (suc x ≤ y)
          cases zero zero q = inl refl
          cases zero (suc y) q = inr (omega arith)
          cases (suc x) zero q = absurd (omega (arith, q))
          cases (suc x) (suc y) q = step (cases x y (omega (arith, q)))
            where
              step : (x ≡ y) ⊎ (suc x ≤ y) → (suc x ≡ suc y) ⊎ (suc (suc x) ≤ suc y)
              step (inl e) = inl (ap suc e)
              step (inr f) = inr (omega (arith, f))

          by : (n ≡ k) ⊎ (suc n ≤ k) → (stage_at ms (edge_target g a k) ≡ Done) ⊎ (None ≡ Some (edge_target g a k))
          by (inl e) = inl (subst (λ x. stage_at ms (edge_target g a x) ≡ Done) e m)
          by (inr f) = s.way.1 k (subst (λ x. x ≤ k) (sym left) f) j

  -- a node with no edge left is done
  pub finishes : (ms : List Mark) (ls : List ℕ) (a : ℕ) (ws : List ℕ) → IsSearch g ms ls (a ∷ ws) → left_at ls a ≡ 0 → IsSearch g (set ms a Done) ls ws
  finishes ms ls a ws s left = record {
    marks_sized = length-set ms a Done ∙ s.marks_sized;
    left_sized = s.left_sized;
    fresh = λ b i e. s.fresh b i (back b New (λ q. new_not_done (sym q)) e);
    within = s.within;
    done = λ b e. finished b e (equal b a);
    on_way = λ b e. stays b e (s.on_way b (back b Open (λ q. open_not_done (sym q)) e));
    opened = λ b on. kept b on (equal b a);
    way = below ws s.way.3 s.way.4;
  }
    where
      inside : a < length ms
      inside = subst (λ x. a < x) (sym s.marks_sized) s.way.0

      here : stage_at (set ms a Done) a ≡ Done
      here = get_or-set_same ms a Done New inside

      there : (b : ℕ) → b ≢ a → stage_at (set ms a Done) b ≡ stage_at ms b
      there b f = get_or-set_other ms a b Done New f

      equal : (x y : ℕ) → (x ≡ y) ⊎ (x ≢ y)
      equal zero zero = inl refl
      equal zero (suc y) = inr (λ e. absurd (omega (arith, e)))
      equal (suc x) zero = inr (λ e. absurd (omega (arith, e)))
      equal (suc x) (suc y) = step (equal x y)
        where
          step : (x ≡ y) ⊎ (x ≢ y) → (suc x ≡ suc y) ⊎ (suc x ≢ suc y)
          step (inl e) = inl (ap suc e)
          step (inr f) = inr (λ e. f (omega (arith, e)))

      back : (b : ℕ) (m : Mark) → (Done ≡ m → ⊥) → stage_at (set ms a Done) b ≡ m → stage_at ms b ≡ m
      back b m f e = by (equal b a)
        where
          by : (b ≡ a) ⊎ (b ≢ a) → stage_at ms b ≡ m
          by (inl q) = absurd (f (sym here ∙ (ap (stage_at (set ms a Done)) (sym q) ∙ e)))
          by (inr q) = sym (there b q) ∙ e

      all_done : (b : ℕ) → Leads g a b → IsGrounded g b
      all_done b l = by (s.way.1 l.0 (subst (λ x. x ≤ l.0) (sym left) (omega arith)) l.1)
        where
          hit : (xs : List ℕ) (i d e : ℕ) → i < length xs → get_or xs i d ≡ get_or xs i e
          hit [] i d e j = absurd (omega (arith, j))
          hit (x ∷ xs) zero d e j = refl
          hit (x ∷ xs) (suc i) d e j = hit xs i d e (omega (arith, j))

          is_b : edge_target g a l.0 ≡ b
          is_b = hit (edges_at g a) l.0 0 b l.1 ∙ l.2

          by : (stage_at ms (edge_target g a l.0) ≡ Done) ⊎ (None ≡ Some (edge_target g a l.0)) → IsGrounded g b
          by (inl d) = subst (IsGrounded g) is_b (s.done (edge_target g a l.0) d)
          by (inr e) = absurd (none_some e)

      finished : (b : ℕ) → stage_at (set ms a Done) b ≡ Done → (b ≡ a) ⊎ (b ≢ a) → IsGrounded g b
      finished b e (inl q) = subst (IsGrounded g) (sym q) (grounded a all_done)
      finished b e (inr q) = s.done b (sym (there b q) ∙ e)

      stays : (b : ℕ) → stage_at (set ms a Done) b ≡ Open → OnWay b (a ∷ ws) → OnWay b ws
      stays b e (inl q) = absurd (open_not_done (sym e ∙ (ap (stage_at (set ms a Done)) (sym q) ∙ here)))
      stays b e (inr on) = on

      kept : (b : ℕ) → OnWay b ws → (b ≡ a) ⊎ (b ≢ a) → stage_at (set ms a Done) b ≡ Open
      kept b on (inl q) = absurd (s.way.3 (subst (λ x. OnWay x ws) q on))
      kept b on (inr q) = there b q ∙ s.opened b (inr on)

      mono : (b : ℕ) → stage_at ms b ≡ Done → stage_at (set ms a Done) b ≡ Done
      mono b e = by (equal b a)
        where
          by : (b ≡ a) ⊎ (b ≢ a) → stage_at (set ms a Done) b ≡ Done
          by (inl q) = ap (stage_at (set ms a Done)) q ∙ here
          by (inr q) = there b q ∙ e

      below : (vs : List ℕ) → (OnWay a vs → ⊥) → AreWay g ms ls (Some a) vs → AreWay g (set ms a Done) ls None vs
      below [] off w = tt
      below (c ∷ vs) off (i, l, o, n, w) = (i, (λ k h j. by k (l k h j)), tt, n, way_marks ms (set ms a Done) ls mono (Some c) vs w)
        where
          some_inj : (x y : ℕ) → Some x ≡ Some y → x ≡ y
          some_inj x y e = ap (λ q. elim q as (λ _. ℕ) [ None ↦ 0 | Some z ↦ z ]) e

          by : (k : ℕ) → (stage_at ms (edge_target g c k) ≡ Done) ⊎ (Some a ≡ Some (edge_target g c k)) → (stage_at (set ms a Done) (edge_target g c k) ≡ Done) ⊎ (None ≡ Some (edge_target g c k))
          by k (inl d) = inl (mono (edge_target g c k) d)
          by k (inr e) = inl (ap (stage_at (set ms a Done)) (sym (some_inj a (edge_target g c k) e)) ∙ here)

  -- a new target goes on the way
  pub enters : (ms : List Mark) (ls : List ℕ) (a n : ℕ) (ws : List ℕ) → IsSearch g ms ls (a ∷ ws) → left_at ls a ≡ suc n → edge_target g a n < length g → stage_at ms (edge_target g a n) ≡ New → IsSearch g (set ms (edge_target g a n) Open) (set ls a n) (edge_target g a n ∷ a ∷ ws)
  enters ms ls a n ws s left small m = record {
    marks_sized = length-set ms t Open ∙ s.marks_sized;
    left_sized = length-set ls a n ∙ s.left_sized;
    fresh = λ b i e. get_or-set_other ls a b n 0 (apart b (was_new b e)) ∙ s.fresh b i (was_new b e);
    within = λ b i. less b i (equal_or b a);
    done = λ b e. s.done b (back b Done open_not_done e);
    on_way = λ b e. on b e (equal_or b t);
    opened = λ b o. opens b o;
    way = (small, (λ k h j. absurd (none_left k h j)), tt, off, (s.way.0, (λ k h j. looked k h j), leads a n at_most, s.way.3, way_marks ms (set ms t Open) (set ls a n) mono (Some a) ws (way_left ms ls a n (Some a) ws s.way.3 s.way.4)));
  }
    where
      t : ℕ
      t = edge_target g a n

      inside : t < length ms
      inside = subst (λ x. t < x) (sym s.marks_sized) small

      a_inside : a < length ls
      a_inside = subst (λ x. a < x) (sym s.left_sized) s.way.0

      here : stage_at (set ms t Open) t ≡ Open
      here = get_or-set_same ms t Open New inside

      there : (b : ℕ) → b ≢ t → stage_at (set ms t Open) b ≡ stage_at ms b
      there b f = get_or-set_other ms t b Open New f

      back : (b : ℕ) (c : Mark) → (Open ≡ c → ⊥) → stage_at (set ms t Open) b ≡ c → stage_at ms b ≡ c
      back b c f e = by (equal_or b t)
        where
          by : (b ≡ t) ⊎ (b ≢ t) → stage_at ms b ≡ c
          by (inl q) = absurd (f (sym here ∙ (ap (stage_at (set ms t Open)) (sym q) ∙ e)))
          by (inr q) = sym (there b q) ∙ e

      was_new : (b : ℕ) → stage_at (set ms t Open) b ≡ New → stage_at ms b ≡ New
      was_new b e = back b New (λ q. new_not_open (sym q)) e

      apart : (b : ℕ) → stage_at ms b ≡ New → b ≢ a
      apart b e q = new_not_open (sym e ∙ (ap (stage_at ms) q ∙ s.opened a (inl refl)))

      at_most : n < length (edges_at g a)
      at_most = let w = s.within a s.way.0 in omega (arith, w, left)

      left_here : left_at (set ls a n) a ≡ n
      left_here = get_or-set_same ls a n 0 a_inside

      less : (b : ℕ) → b < length g → (b ≡ a) ⊎ (b ≢ a) → left_at (set ls a n) b ≤ length (edges_at g b)
      less b i (inl e) = subst (λ x. left_at (set ls a n) x ≤ length (edges_at g x)) (sym e) (subst (λ x. x ≤ length (edges_at g a)) (sym left_here) (omega (arith, at_most)))
      less b i (inr f) = subst (λ x. x ≤ length (edges_at g b)) (sym (get_or-set_other ls a b n 0 f)) (s.within b i)

      on : (b : ℕ) → stage_at (set ms t Open) b ≡ Open → (b ≡ t) ⊎ (b ≢ t) → OnWay b (t ∷ a ∷ ws)
      on b e (inl q) = inl (sym q)
      on b e (inr q) = inr (s.on_way b (sym (there b q) ∙ e))

      not_t : (b : ℕ) → stage_at ms b ≡ Open → b ≢ t
      not_t b e q = new_not_open (sym m ∙ (ap (stage_at ms) (sym q) ∙ e))

      opens : (b : ℕ) → OnWay b (t ∷ a ∷ ws) → stage_at (set ms t Open) b ≡ Open
      opens b (inl q) = ap (stage_at (set ms t Open)) (sym q) ∙ here
      opens b (inr o) = there b (not_t b (s.opened b o)) ∙ s.opened b o

      off : OnWay t (a ∷ ws) → ⊥
      off o = new_not_open (sym m ∙ s.opened t o)

      none_left : (k : ℕ) → left_at (set ls a n) t ≤ k → k < length (edges_at g t) → ⊥
      none_left k h j = let e = get_or-set_other ls a t n 0 (apart t m) ∙ s.fresh t small m in omega (arith, h, j, e)

      mono : (b : ℕ) → stage_at ms b ≡ Done → stage_at (set ms t Open) b ≡ Done
      mono b e = there b (λ q. new_not_done (sym m ∙ (ap (stage_at ms) (sym q) ∙ e))) ∙ e

      looked : (k : ℕ) → left_at (set ls a n) a ≤ k → k < length (edges_at g a) → (stage_at (set ms t Open) (edge_target g a k) ≡ Done) ⊎ (Some t ≡ Some (edge_target g a k))
      looked k h j = by (equal_or_less n k (subst (λ x. x ≤ k) left_here h))
        where
          next : (stage_at ms (edge_target g a k) ≡ Done) ⊎ (None ≡ Some (edge_target g a k)) → (stage_at (set ms t Open) (edge_target g a k) ≡ Done) ⊎ (Some t ≡ Some (edge_target g a k))
          next (inl d) = inl (mono (edge_target g a k) d)
          next (inr e) = absurd (none_some e)

          by : (n ≡ k) ⊎ (suc n ≤ k) → (stage_at (set ms t Open) (edge_target g a k) ≡ Done) ⊎ (Some t ≡ Some (edge_target g a k))
          by (inl e) = inr (ap (λ x. Some (edge_target g a x)) e)
          by (inr f) = next (s.way.1 k (subst (λ x. x ≤ k) (sym left) f) j)

pub popped : (way rest : List ℕ) (x : ℕ) → way ≡ rest ++ x ∷ [] → reverse way ≡ x ∷ reverse rest
popped way rest x e = ap reverse e ∙ reverse-append rest (x ∷ [])

items_at : (graph : List (Vec ℕ Global)) (a : ℕ) (v : Vec ℕ Global) → a < length graph → get_or graph a v ≡ v → edges_at (graph_view graph) a ≡ v.items
items_at [] a v h e = absurd (omega (arith, h))
items_at (w ∷ graph) zero v h e = ap (λ x. x.items) e
items_at (w ∷ graph) (suc a) v h e = items_at graph a v (omega (arith, h)) e

any_default : (xs : List ℕ) (i d e : ℕ) → i < length xs → get_or xs i d ≡ get_or xs i e
any_default [] i d e j = absurd (omega (arith, j))
any_default (x ∷ xs) zero d e j = refl
any_default (x ∷ xs) (suc i) d e j = any_default xs i d e (omega (arith, j))

-- a turn of the code
module _ (graph : List (Vec ℕ Global)) (ms : List Mark) (ls way rest : List ℕ) (a : ℕ) (search : IsSearch (graph_view graph) ms ls (reverse way)) (pop : way ≡ rest ++ a ∷ []) where
  abbrev g : Graph
  g = graph_view graph

  pub at_top : IsSearch g ms ls (a ∷ reverse rest)
  at_top = subst (λ ws. IsSearch g ms ls ws) (popped way rest a pop) search

  module _ (v : Vec ℕ Global) (t : ℕ) (positive : 0 < get_or ls a 0) (is : v ≡ get_or graph a v) (target : t ≡ get_or v.items (get_or ls a 0 - 1) t) where
    left : left_at ls a ≡ suc (get_or ls a 0 - 1)
    left = omega (arith, positive)

    in_graph : a < length graph
    in_graph = subst (λ x. a < x) (length-map graph (λ w. w.items)) (at_top.way.0)

    edges : edges_at g a ≡ v.items
    edges = items_at graph a v in_graph (sym is)

    in_edges : get_or ls a 0 - 1 < length (edges_at g a)
    in_edges = let w = at_top.within a at_top.way.0 in omega (arith, w, positive)

    is_target : edge_target g a (get_or ls a 0 - 1) ≡ t
    is_target = any_default (edges_at g a) (get_or ls a 0 - 1) 0 t in_edges ∙ (ap (λ xs. get_or xs (get_or ls a 0 - 1) t) edges ∙ sym target)

    leads_to : Leads g a t
    leads_to = subst (Leads g a) is_target (leads g a (get_or ls a 0 - 1) in_edges)

    pub small : IsClosed g → t < length ms
    small closed = subst (λ x. t < x) (sym at_top.marks_sized) (closed a t leads_to)

    pub turn_closes : stage_at ms t ≡ Open → IsRing g t a
    turn_closes m = subst (λ x. IsRing g x a) is_target (closes g ms ls a (get_or ls a 0 - 1) (reverse rest) at_top in_edges (ap (stage_at ms) is_target ∙ m))

    pub turn_skips : stage_at ms t ≡ Done → (now : List ℕ) → now ≡ rest ++ a ∷ [] → IsSearch g ms (set ls a (get_or ls a 0 - 1)) (reverse now)
    turn_skips m now e = subst (λ ws. IsSearch g ms (set ls a (get_or ls a 0 - 1)) ws) (sym (popped now rest a e)) (skips g ms ls a (get_or ls a 0 - 1) (reverse rest) at_top left (ap (stage_at ms) is_target ∙ m))

    pub turn_enters : IsClosed g → stage_at ms t ≡ New → (now last : List ℕ) → now ≡ rest ++ a ∷ [] → last ≡ now ++ t ∷ [] → IsSearch g (set ms t Open) (set ls a (get_or ls a 0 - 1)) (reverse last)
    turn_enters closed m now last e f =
        let made : IsSearch g (set ms (edge_target g a (get_or ls a 0 - 1)) Open) (set ls a (get_or ls a 0 - 1)) (edge_target g a (get_or ls a 0 - 1) ∷ a ∷ reverse rest)
        = enters g ms ls a (get_or ls a 0 - 1) (reverse rest) at_top left (subst (λ x. x < length g) (sym is_target) (closed a t leads_to)) (ap (stage_at ms) is_target ∙ m) in
        let named : IsSearch g (set ms t Open) (set ls a (get_or ls a 0 - 1)) (t ∷ a ∷ reverse rest)
        = subst (λ x. IsSearch g (set ms x Open) (set ls a (get_or ls a 0 - 1)) (x ∷ a ∷ reverse rest)) is_target made in
        subst (λ ws. IsSearch g (set ms t Open) (set ls a (get_or ls a 0 - 1)) ws) (sym (popped last now t f ∙ ap (λ ws. t ∷ ws) (popped now rest a e))) named

  pub in_left : a < length ls
  in_left = subst (λ x. a < x) (sym at_top.left_sized) at_top.way.0

  pub in_nodes : a < length graph
  in_nodes = subst (λ x. a < x) (length-map graph (λ w. w.items)) at_top.way.0

  pub node_inside : a < length ms
  node_inside = subst (λ x. a < x) (sym at_top.marks_sized) at_top.way.0

  pub turn_finishes : get_or ls a 0 ≤ 0 → IsSearch g (set ms a Done) ls (reverse rest)
  turn_finishes none = finishes g ms ls a (reverse rest) at_top (zero_of (get_or ls a 0) none)
    where
      zero_of : (x : ℕ) → x ≤ 0 → x ≡ 0
      zero_of zero f = refl
      zero_of (suc x) f = absurd (omega (arith, f))

pub open_not_new : Open ≢ New
open_not_new e = new_not_open (sym e)

pub done_not_new : Done ≢ New
done_not_new e = new_not_done (sym e)

-- marks that were all made new
pub all_new : (n a : ℕ) → stage_at (replicate n New) a ≡ New
all_new zero a = refl
all_new (suc n) zero = refl
all_new (suc n) (suc a) = all_new n a

sizes : (graph : List (Vec ℕ Global)) (a : ℕ) → left_at (map (λ v. length v.items) graph) a ≡ length (edges_at (graph_view graph) a)
sizes [] a = refl
sizes (v ∷ graph) zero = refl
sizes (v ∷ graph) (suc a) = sizes graph a

past : (g : Graph) (a : ℕ) → length g ≤ a → edges_at g a ≡ []
past [] a h = refl
past (x ∷ g) zero h = absurd (omega (arith, h))
past (x ∷ g) (suc a) h = past g a (omega (arith, h))

-- before the first node
pub begins : (graph : List (Vec ℕ Global)) (ms : List Mark) (ls : List ℕ) → length ms ≡ length graph → ((a : ℕ) → stage_at ms a ≡ New) → ls ≡ map (λ v. length v.items) graph → IsSearch (graph_view graph) ms ls []
begins graph ms ls all new counts = record {
  marks_sized = all ∙ sym (length-map graph (λ v. v.items));
  left_sized = ap length counts ∙ (length-map graph (λ v. length v.items) ∙ sym (length-map graph (λ v. v.items)));
  fresh = λ a h e. ap (λ xs. left_at xs a) counts ∙ sizes graph a;
  within = λ a h. let e = ap (λ xs. left_at xs a) counts ∙ sizes graph a in omega (arith, e);
  done = λ a e. absurd (new_not_done (sym (new a) ∙ e));
  on_way = λ a e. absurd (new_not_open (sym (new a) ∙ e));
  opened = λ a o. absurd o;
  way = tt;
}

-- a new node begins a way
pub starts : (g : Graph) (ms : List Mark) (ls : List ℕ) (t : ℕ) → IsSearch g ms ls [] → t < length g → stage_at ms t ≡ New → IsSearch g (set ms t Open) ls (t ∷ [])
starts g ms ls t s small m = record {
  marks_sized = length-set ms t Open ∙ s.marks_sized;
  left_sized = s.left_sized;
  fresh = λ b i e. s.fresh b i (back b New open_not_new e);
  within = s.within;
  done = λ b e. s.done b (back b Done open_not_done e);
  on_way = λ b e. on b e (equal_or b t);
  opened = λ b o. opens b o;
  way = (small, (λ k h j. absurd (none_left k h j)), tt, (λ o. o), tt);
}
  where
    inside : t < length ms
    inside = subst (λ x. t < x) (sym s.marks_sized) small

    here : stage_at (set ms t Open) t ≡ Open
    here = get_or-set_same ms t Open New inside

    back : (b : ℕ) (c : Mark) → (Open ≡ c → ⊥) → stage_at (set ms t Open) b ≡ c → stage_at ms b ≡ c
    back b c f e = by (equal_or b t)
      where
        by : (b ≡ t) ⊎ (b ≢ t) → stage_at ms b ≡ c
        by (inl q) = absurd (f (sym here ∙ (ap (stage_at (set ms t Open)) (sym q) ∙ e)))
        by (inr q) = sym (get_or-set_other ms t b Open New q) ∙ e

    on : (b : ℕ) → stage_at (set ms t Open) b ≡ Open → (b ≡ t) ⊎ (b ≢ t) → OnWay b (t ∷ [])
    on b e (inl q) = inl (sym q)
    on b e (inr q) = absurd (s.on_way b (sym (get_or-set_other ms t b Open New q) ∙ e))

    opens : (b : ℕ) → OnWay b (t ∷ []) → stage_at (set ms t Open) b ≡ Open
    opens b (inl q) = ap (stage_at (set ms t Open)) (sym q) ∙ here
    opens b (inr o) = absurd o

    none_left : (k : ℕ) → left_at ls t ≤ k → k < length (edges_at g t) → ⊥
    none_left k h j = let e = s.fresh t small m in omega (arith, h, j, e)

-- what holds where nothing is found
pub nothing_found : {X : Type 0} (o : Option X) (P : Type 0) → o ≡ None → IfNone o P → P
nothing_found None P e h = h
nothing_found (Some x) P e h = cc

-- one more node was met
pub met_next : (ms ns : List Mark) (n : ℕ) → ((a : ℕ) → a < n → stage_at ms a ≢ New) → ((a : ℕ) → stage_at ms a ≢ New → stage_at ns a ≢ New) → stage_at ns n ≢ New → (a : ℕ) → a < n + 1 → stage_at ns a ≢ New
met_next ms ns n below stays here a h = by (equal_or a n)
  where
    by : (a ≡ n) ⊎ (a ≢ n) → stage_at ns a ≢ New
    by (inl e) = λ q. here (ap (stage_at ns) (sym e) ∙ q)
    by (inr f) = stays a (below a (omega (arith, h, f)))

-- where all nodes were met, every path ends
pub all_grounded : (g : Graph) (ms : List Mark) (ls : List ℕ) → IsSearch g ms ls [] → ((a : ℕ) → a < length g → stage_at ms a ≢ New) → (a : ℕ) → IsGrounded g a
all_grounded g ms ls s met a = by (le_or_lt (length g) a)
  where
    le_or_lt : (x y : ℕ) → (x ≤ y) ⊎ (y < x)
    le_or_lt zero y = inl (omega arith)
    le_or_lt (suc x) zero = inr (omega arith)
    le_or_lt (suc x) (suc y) = step (le_or_lt x y)
      where
        step : (x ≤ y) ⊎ (y < x) → (suc x ≤ suc y) ⊎ (suc y < suc x)
        step (inl h) = inl (omega (arith, h))
        step (inr h) = inr (omega (arith, h))

    cases : (m : Mark) → stage_at ms a ≡ m → m ≢ New → IsGrounded g a
    cases New e f = absurd (f refl)
    cases Open e f = absurd (s.on_way a e)
    cases Done e f = s.done a e

    by : (length g ≤ a) ⊎ (a < length g) → IsGrounded g a
    by (inl h) = grounded a (λ b l. absurd (nothing b l))
      where
        nothing : (b : ℕ) → Leads g a b → ⊥
        nothing b l = let i : l.0 < 0 = subst (λ xs. l.0 < length xs) (past g a h) l.1 in omega (arith, i)
    by (inr h) = cases (stage_at ms a) refl (met a h)
