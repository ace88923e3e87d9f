-- What the walk knows that judges how names read, beside what references to marked names read.
use Rattle.std.proofs.Common.{◌≡◌, ℕ, ◌<◌, ◌≤◌, Bool, true, false, Option, Some, None, List, [], ◌∷◌, length, get_or, set, refl, sym, ap, ◌∙◌, subst, arith}
use Rattle.std.specs.Prelude.{not, ◌&&◌, ◌||◌, ◌==◌, bytes_eq, if◌then◌else◌}
use Rattle.std.proofs.lemmas.Bool.Decides.{Decides-eqb}
use Rattle.std.proofs.lemmas.List.{get_or-set_same, get_or-set_other, length-set}
use Rattle.wesl_tree_names.specs.Path.{Text}
use Rattle.wesl_tree_syntax.specs.Unit.{name_in}
use Rattle.wesl_scope_occurrences.specs.Occurrences.{Standing, module_name, parameter, local, reference, word}
use Rattle.wesl_scope_occurrences.specs.Walk.{Here}
use Rattle.wesl_scope_occurrences.specs.Events.{Event, begins, meets, opens, closes, ends}
use Rattle.wesl_scope_open.specs.Open.{Readings, Open, stepped, taken_back, declaring, with_visible}
use Rattle.wesl_scope_open.specs.Named.{event_as}
use Rattle.wesl_scope_open.specs.Matched.{IsMetSo}
use Rattle.wesl_scope_open.proofs.Runs.{DeclaresWithin, ReadWithin}
use Rattle.wesl_scope_numbers.specs.declared.agreed.Agreed.{Agreed}
use Rattle.wesl_scope_numbers.specs.declared.agreed.Agreed.TheVariants as made
use Rattle.wesl_scope_numbers.specs.declared.agreed.Visible.{Visible}
use Rattle.wesl_scope_numbers.specs.Judging.{is_on, with_number, agreed_in, visible_with, Row, Judging, right_of, outside_with, visible_again, name_at, declared, meeting, judging}
use Rattle.wesl_scope_numbers.proofs.Marked.{yes, mark, marked_test, is_at, equal, not_at}

-- ---- numbers on which binders agree
-- whether some binder has another number
abbrev pub differs : Option Agreed → ℕ → Bool
differs None m = false
differs (Some a) m = not (is_on a m)

abbrev pub is_there : {X : Type 0} → Option X → Bool
is_there None = false
is_there (Some x) = true

pub with_differs : (o : Option Agreed) (k m : ℕ) → differs (Some (with_number o k)) m ≡ (differs o m || not (k == m))
with_differs None k m = refl
with_differs (Some (made.On j)) k m = by (j == k) (Decides-eqb j k).0 refl
  where
    other : (t u : Bool) → (j == m) ≡ t → (k == m) ≡ u → (j ≡ k → ⊥) → true ≡ (not (j == m) || not (k == m))
    other true true e f d = absurd (d ((Decides-eqb j m).0 e ∙ sym ((Decides-eqb k m).0 f)))
    other true false e f d = rw (e, f) refl
    other false u e f d = rw e refl

    or_self : (b : Bool) → b ≡ (b || b)
    or_self true = refl
    or_self false = refl

    by : (t : Bool) → (t ≡ true → j ≡ k) → (j == k) ≡ t → not (is_on (if t then made.On j else made.Apart) m) ≡ (not (j == m) || not (k == m))
    by true d e = or_self (not (j == m)) ∙ ap (λ x. not (j == m) || not (x == m)) (d refl)
    by false d e = other (j == m) (k == m) refl refl (λ f. let g : true ≡ false = sym ((Decides-eqb j k).1 f) ∙ e in let z : ⊥ = cc in z)
with_differs (Some made.Apart) k m = refl

-- ---- one name
-- what is read without the binders of number m, where all read those of block b
abbrev pub Earlier : Bool → ℕ → Option ℕ → Type 0
Earlier true b r = r ≡ Some b
Earlier false b r = (c : ℕ) → r ≡ Some c → c < b

-- a name of the row stands for what is read by all its binders, and by those without number m
abbrev pub Stands : ℕ → Option Visible → Option ℕ → Option ℕ → Type 0
Stands m None r0 r1 = (r0 ≡ None) × (r1 ≡ None)
Stands m (Some v) r0 r1 = (r0 ≡ Some v.block) × Earlier (differs (Some v.agreed) m) v.block r1

-- the binder of number m is visible in block b
same_number : (m b : ℕ) (cell : Option Visible) (r0 r1 : Option ℕ) → ((c : ℕ) → r0 ≡ Some c → c ≤ b) → Stands m cell r0 r1 → Earlier (differs (agreed_in b cell) m) b r1
same_number m b None r0 r1 within (e, f) = λ c g. let h = sym f ∙ g in let z : ⊥ = cc in absurd z
same_number m b (Some v) r0 r1 within (e, f) = by (v.block == b) refl
  where
    before : (t : Bool) → Earlier t v.block r1 → v.block < b → (c : ℕ) → r1 ≡ Some c → c < b
    before true g l c h = let k : Some v.block ≡ Some c = sym g ∙ h in let n : v.block ≡ c = cc in omega (arith, n, l)
    before false g l c h = let n = g c h in omega (arith, n, l)

    by : (t : Bool) → (v.block == b) ≡ t → Earlier (differs (if t then Some v.agreed else None) m) b r1
    by true g = subst (λ k. Earlier (differs (Some v.agreed) m) k r1) ((Decides-eqb v.block b).0 g) f
    by false g =
        let l = within v.block e in
        let d : v.block ≡ b → ⊥ = λ h. let i : true ≡ false = sym ((Decides-eqb v.block b).1 h) ∙ g in let z : ⊥ = cc in z in
        before (differs (Some v.agreed) m) f (omega (arith, l, d))

-- a binder of number i of the name is
one_more : (m b i : ℕ) (cell : Option Visible) (r0 r1 : Option ℕ) → ((c : ℕ) → r0 ≡ Some c → c ≤ b) → Stands m cell r0 r1 → Stands m (Some (visible_with cell b i)) (Some b) (if not (i == m) then Some b else r1)
one_more m b i cell r0 r1 within h = (refl, subst (λ t. Earlier t b (if not (i == m) then Some b else r1)) (sym (with_differs (agreed_in b cell) i m)) (by (i == m)))
  where
    or_true : (x : Bool) → true ≡ (x || true)
    or_true true = refl
    or_true false = refl

    or_false : (x : Bool) → x ≡ (x || false)
    or_false true = refl
    or_false false = refl

    by : (t : Bool) → Earlier (differs (agreed_in b cell) m || not t) b (if not t then Some b else r1)
    by true = subst (λ t. Earlier t b r1) (or_false (differs (agreed_in b cell) m)) (same_number m b cell r0 r1 within h)
    by false = subst (λ t. Earlier t b (Some b)) (or_true (differs (agreed_in b cell) m)) refl

-- ---- rows
module _ (alike : List ℕ) (wide count : ℕ) where
  abbrev pub StandsIn : ℕ → Row → Readings → Readings → Type 0
  StandsIn m row v w = (length row ≡ wide) × Stands m (get_or row (name_at alike m) None) (v yes) (w yes)

  abbrev pub AllStandIn : ℕ → List Row → List Readings → List Readings → Type 0
  AllStandIn m [] [] [] = Unit {0}
  AllStandIn m (r ∷ rs) (v ∷ vs) (w ∷ ws) = StandsIn m r v w × AllStandIn m rs vs ws
  AllStandIn m _ _ _ = ⊥

  pub record Knows (m : ℕ) (s : Judging) (u v : Open) : Type 0 where
    pub now : StandsIn m s.visible u.reads v.reads
    pub outer : AllStandIn m s.outer u.outer v.outer

  -- tests of the name of number m, and of its other numbers
  pub record Tests (m : ℕ) (t0 t1 : ℕ → Bool) : Type 0 where
    pub below : name_at alike m < wide
    pub same : (i : ℕ) → i < count → (name_at alike i == name_at alike m) ≡ t0 i
    pub other : (i : ℕ) → t1 i ≡ (t0 i && not (i == m))

  module _ (m : ℕ) (t0 t1 : ℕ → Bool) (tests : Tests m t0 t1) where
    row_declared : (row : Row) (u v : Readings) (i b : ℕ) → i < count → ReadWithin u b → StandsIn m row u v → StandsIn m (declared alike b i row) (with_visible (mark t0 i) b u) (with_visible (mark t1 i) b v)
    row_declared row u v i b hi within (width, h) = (
      length-set row (name_at alike i) _ ∙ width,
      subst (λ r. Stands m (get_or (declared alike b i row) (name_at alike m) None) r (with_visible (mark t1 i) b v yes)) (sym (marked_test t0 i (Some b) (u yes)))
          (subst (λ r. Stands m (get_or (declared alike b i row) (name_at alike m) None) (if t0 i then Some b else u yes) r) (sym (marked_test t1 i (Some b) (v yes) ∙ ap (λ t. if t then Some b else v yes) (tests.other i)))
          (by (t0 i) (tests.same i hi))),
    )
      where
        by : (t : Bool) → (name_at alike i == name_at alike m) ≡ t → Stands m (get_or (declared alike b i row) (name_at alike m) None) (if t then Some b else u yes) (if t && not (i == m) then Some b else v yes)
        by true e =
            let same : name_at alike i ≡ name_at alike m = (Decides-eqb (name_at alike i) (name_at alike m)).0 e in
            let low : name_at alike m < length row = let l = tests.below in omega (arith, l, width) in
            subst (λ cell. Stands m cell (Some b) (if not (i == m) then Some b else v yes))
            (sym (ap (λ n. get_or (set row n (Some (visible_with (get_or row n None) b i))) (name_at alike m) None) same ∙ get_or-set_same row (name_at alike m) (Some (visible_with (get_or row (name_at alike m) None) b i)) None low))
            (one_more m b i (get_or row (name_at alike m) None) (u yes) (v yes) (λ c f. within yes c f) h)
        by false e =
            let apart : name_at alike m ≡ name_at alike i → ⊥ = λ f. let g : true ≡ false = sym ((Decides-eqb (name_at alike i) (name_at alike m)).1 (sym f)) ∙ e in let z : ⊥ = cc in z in
            subst (λ cell. Stands m cell (u yes) (v yes)) (sym (get_or-set_other row (name_at alike i) (name_at alike m) _ None apart)) h

    knows_met : (s : Judging) (u v : Open) (r : Standing) (here : Here) (i : ℕ) → i < count → DeclaresWithin u.reads (meets here r (mark t0 i)) → Knows m s u v
        → Knows m (meeting alike r here i s) (declaring r here.block (mark t0 i) u) (declaring r here.block (mark t1 i) v)
    knows_met s u v module_name here i hi within k = record { now = k.now; outer = k.outer }
    knows_met s u v parameter here i hi within k = record { now = row_declared s.visible u.reads v.reads i here.block hi within k.now; outer = k.outer }
    knows_met s u v (local e) here i hi within k = record { now = k.now; outer = k.outer }
    knows_met s u v (reference None) here i hi within k = record { now = k.now; outer = k.outer }
    knows_met s u v (reference (Some y)) here i hi within k = record { now = k.now; outer = k.outer }
    knows_met s u v word here i hi within k = record { now = k.now; outer = k.outer }

    knows_closed : (s : Judging) (u v : Open) (rs : List Row) (us vs : List Readings) → AllStandIn m rs us vs → Knows m s u v → Knows m (visible_again rs s) (taken_back us u) (taken_back vs v)
    knows_closed s u v [] [] [] a k = k
    knows_closed s u v (r ∷ rs) (x ∷ us) (y ∷ vs) a k = record { now = a.0; outer = a.1 }
    knows_closed s u v [] (x ∷ us) vs a k = absurd a
    knows_closed s u v [] [] (y ∷ vs) a k = absurd a
    knows_closed s u v (r ∷ rs) [] vs a k = absurd a
    knows_closed s u v (r ∷ rs) (x ∷ us) [] a k = absurd a

    pub knows_next : (s : Judging) (u v : Open) (e : Event) → IsMetSo (λ x. x < count) e → DeclaresWithin u.reads (event_as (mark t0) e) → Knows m s u v → Knows m (judging alike s e) (stepped u (event_as (mark t0) e)) (stepped v (event_as (mark t1) e))
    knows_next s u v begins hi within k = k
    knows_next s u v (meets here r i) hi within k = knows_met s u v r here i hi within k
    knows_next s u v opens hi within k = record { now = k.now; outer = (k.now, k.outer) }
    knows_next s u v closes hi within k = knows_closed s u v s.outer u.outer v.outer k.outer k
    knows_next s u v (ends here i) hi within k = record { now = row_declared s.visible u.reads v.reads i here.block hi within k.now; outer = k.outer }

-- ---- one reference
abbrev pub judged_by : Option ℕ → Option ℕ → Bool
judged_by (Some k) r = not (is_at r k)
judged_by None r = true

module _ (m : ℕ) (here : Here) where
  pub seen_right : (cell : Option Visible) (r0 r1 : Option ℕ) (l : Bool) → Stands m cell r0 r1 → right_of (if l then cell else None) m ≡ judged_by (if l then r0 else None) (if l then r1 else None)
  seen_right cell r0 r1 false h = refl
  seen_right None r0 r1 true (e, f) = sym (ap (λ r. judged_by r r1) e)
  seen_right (Some v) r0 r1 true (e, f) = by (is_on v.agreed m) f ∙ sym (ap (λ r. judged_by r r1) e)
    where
      by : (t : Bool) → Earlier (not t) v.block r1 → t ≡ not (is_at r1 v.block)
      by true g = sym (ap not (not_at r1 v.block g))
      by false g = sym (ap (λ r. not (is_at r v.block)) g ∙ ap not (equal v.block))

  pub seen_outside : (cell : Option Visible) (r0 r1 : Option ℕ) (l : Bool) → Stands m cell r0 r1 → is_there (if l then cell else None) ≡ is_there (if l then r0 else None)
  seen_outside cell r0 r1 false h = refl
  seen_outside None r0 r1 true (e, f) = sym (ap is_there e)
  seen_outside (Some v) r0 r1 true (e, f) = sym (ap is_there e)

-- ---- marks
pub marked : (marks : List Bool) (i m : ℕ) → i < length marks → get_or (set marks i true) m false ≡ (get_or marks m false || i == m)
marked marks i m h = by (i == m) refl
  where
    or_true : (x : Bool) → true ≡ (x || true)
    or_true true = refl
    or_true false = refl

    or_false : (x : Bool) → x ≡ (x || false)
    or_false true = refl
    or_false false = refl

    by : (t : Bool) → (i == m) ≡ t → get_or (set marks i true) m false ≡ (get_or marks m false || t)
    by true e = ap (λ n. get_or (set marks i true) n false) (sym ((Decides-eqb i m).0 e)) ∙ (get_or-set_same marks i true false h ∙ or_true (get_or marks m false))
    by false e =
        get_or-set_other marks i m true false (λ f. let g : true ≡ false = sym ((Decides-eqb i m).1 (sym f)) ∙ e in let z : ⊥ = cc in z)
        ∙ or_false (get_or marks m false)

pub outside_marked : (v : Option Visible) (marks : List Bool) (i m : ℕ) → i < length marks → get_or (outside_with v i marks) m false ≡ (get_or marks m false || (not (is_there v) && i == m))
outside_marked None marks i m h = marked marks i m h
outside_marked (Some v) marks i m h = or_false (get_or marks m false)
  where
    or_false : (x : Bool) → x ≡ (x || false)
    or_false true = refl
    or_false false = refl

pub outside_wide : (v : Option Visible) (marks : List Bool) (i : ℕ) → length (outside_with v i marks) ≡ length marks
outside_wide None marks i = length-set marks i true
outside_wide (Some v) marks i = refl

-- ---- numbers of names
-- identifiers whose names are spelled alike have one number of a name
pub record AreAlike (names : List Text) (wide : ℕ) (alike : List ℕ) : Type 0 where
  pub as_many : length alike ≡ length names
  pub below : (i : ℕ) → i < length names → name_at alike i < wide
  pub same : (i j : ℕ) → i < length names → j < length names → (name_at alike i == name_at alike j) ≡ bytes_eq (name_in names i) (name_in names j)
