-- The walk that judges how names read, over all events beside the identifiers that it meets.
use Rattle.std.proofs.Common.{◌≡◌, ℕ, zero, suc, ◌<◌, Bool, true, false, Option, Some, None, List, [], ◌∷◌, ◌++◌, length, get_or, set, map, refl, sym, ap, ◌∙◌, arith, append_assoc, append-nil}
use Rattle.std.specs.Prelude.{not, ◌&&◌, ◌||◌, ◌==◌}
use Rattle.std.specs.List.{list_any}
use Rattle.std.proofs.lemmas.Bool.Decides.{Decides-eqb}
use Rattle.std.proofs.lemmas.List.{get_or-set_same, get_or-set_other, length-set, map-append}
use Rattle.wesl_tree_syntax.specs.Unit.{UnitOf}
use Rattle.wesl_scope_occurrences.specs.Occurrences.{Block, Standing, module_name, parameter, local, reference, word, OccurrenceIn, Occurrence, occurrences, is_module_name, is_binder}
use Rattle.wesl_scope_occurrences.specs.Walk.{Here, ended_as, ended_at}
use Rattle.wesl_scope_occurrences.specs.Outer.{outers}
use Rattle.wesl_scope_occurrences.specs.Ways.{told, way}
use Rattle.wesl_scope_occurrences.specs.Events.{Event, begins, meets, opens, closes, ends, events}
use Rattle.wesl_scope_occurrences.specs.Collected.{Collected, nothing, last_ended, collecting, collected}
use Rattle.wesl_scope_occurrences.proofs.Collecting.{collected_occurrences}
use Rattle.wesl_scope_open.specs.Matched.{AreMetBelow}
use Rattle.wesl_scope_open.proofs.Runs.{or_again}
use Rattle.wesl_scope_numbers.specs.declared.agreed.Agreed.{Agreed}
use Rattle.wesl_scope_numbers.specs.Judging.{with_number, Row, Judging, seen_here, visible_again, name_at, meeting, judging, judged}
use Rattle.wesl_scope_numbers.proofs.Walked.{differs, is_there, with_differs, Tests, marked, outside_wide}
use mathlib.Core.Bool.{or-false}

-- ---- identifiers, by what is told when they are met
-- the same whether their declarations have ended or not
abbrev pub Lasts : {X : Type 0} → (Standing → X) → Type 0
Lasts q = (e : ℕ) (r : Standing) → q (ended_as e r) ≡ q r

pub lasts : {X : Type 0} (q : Standing → X) → ((e k : ℕ) → q (local e) ≡ q (local k)) → Lasts q
lasts q h e module_name = refl
lasts q h e parameter = refl
lasts q h e (local k) = h e k
lasts q h e (reference by) = refl
lasts q h e word = refl

module _ {X : Type 0} (q : Standing → ℕ → X) (last : (i : ℕ) → Lasts (λ r. q r i)) where
  abbrev pub sketch : {B : Type 0} → OccurrenceIn ℕ B → X
  sketch o = q o.role o.name

  abbrev pub sketches : List Event → List X
  sketches [] = []
  sketches (meets here r i ∷ es) = q r i ∷ sketches es
  sketches (_ ∷ es) = sketches es

  ended_sketch : (e p : ℕ) (os : List (OccurrenceIn ℕ ℕ)) → map sketch (ended_at e p os) ≡ map sketch os
  ended_sketch e p [] = refl
  ended_sketch e zero (o ∷ os) = ap (λ x. x ∷ map sketch os) (last o.name e o.role)
  ended_sketch e (suc p) (o ∷ os) = ap (λ xs. sketch o ∷ xs) (ended_sketch e p os)

  last_sketch : (ps : List ℕ) (c : Collected) → map sketch (last_ended ps c).found ≡ map sketch c.found
  last_sketch [] c = refl
  last_sketch (p ∷ ps) c = ended_sketch (length c.found) p c.found

  collected_sketch : (es : List Event) (c : Collected) → map sketch (collected c es).found ≡ map sketch c.found ++ sketches es
  collected_sketch [] c = sym (append-nil (map sketch c.found))
  collected_sketch (begins ∷ es) c = collected_sketch es (collecting c begins)
  collected_sketch (meets here r i ∷ es) c =
      collected_sketch es (collecting c (meets here r i))
      ∙ (ap (λ xs. xs ++ sketches es) (map-append sketch c.found (record { role = r; name = i; place = length c.found; block = here.block; declaration = here.declaration; excused = here.excused } ∷ []))
      ∙ append_assoc (map sketch c.found) (q r i ∷ []) (sketches es))
  collected_sketch (opens ∷ es) c = collected_sketch es c
  collected_sketch (closes ∷ es) c = collected_sketch es c
  collected_sketch (ends here i ∷ es) c = collected_sketch es (collecting c (ends here i)) ∙ ap (λ xs. xs ++ sketches es) (last_sketch c.naming c)

  told_sketch : (w : ℕ → Block) (os : List (OccurrenceIn ℕ ℕ)) → map sketch (map (told w) os) ≡ map sketch os
  told_sketch w [] = refl
  told_sketch w (o ∷ os) = ap (λ xs. sketch o ∷ xs) (told_sketch w os)

  pub occurrences_sketch : (u : UnitOf ℕ) → map sketch (occurrences u) ≡ sketches (events u)
  occurrences_sketch u = ap (map sketch) (sym (collected_occurrences u)) ∙ (told_sketch (way (outers u)) (collected nothing (events u)).found ∙ collected_sketch (events u) nothing)

-- ---- what is noted of identifiers by their numbers
abbrev pub any_met : (Standing → ℕ → Bool) → List Event → Bool
any_met q [] = false
any_met q (meets here r i ∷ es) = q r i || any_met q es
any_met q (_ ∷ es) = any_met q es

module _ (q : Standing → ℕ → Bool) where
  any_sketches : (last : (i : ℕ) → Lasts (λ r. q r i)) (es : List Event) → list_any (λ b. b) (sketches q last es) ≡ any_met q es
  any_sketches last [] = refl
  any_sketches last (begins ∷ es) = any_sketches last es
  any_sketches last (meets here r i ∷ es) = ap (λ b. q r i || b) (any_sketches last es)
  any_sketches last (opens ∷ es) = any_sketches last es
  any_sketches last (closes ∷ es) = any_sketches last es
  any_sketches last (ends here i ∷ es) = any_sketches last es

  any_sketch : (last : (i : ℕ) → Lasts (λ r. q r i)) (os : List (Occurrence ℕ)) → list_any (λ o. q o.role o.name) os ≡ list_any (λ b. b) (map (sketch q last) os)
  any_sketch last [] = refl
  any_sketch last (o ∷ os) = ap (λ b. q o.role o.name || b) (any_sketch last os)

  pub any_there : ((i : ℕ) → Lasts (λ r. q r i)) → (u : UnitOf ℕ) → list_any (λ o. q o.role o.name) (occurrences u) ≡ any_met q (events u)
  any_there last u = any_sketch last (occurrences u) ∙ (ap (list_any (λ b. b)) (occurrences_sketch q last u) ∙ any_sketches last (events u))

-- there is a place for each number
pub record Fits (wide count : ℕ) (s : Judging) : Type 0 where
  pub globals : length s.globals ≡ wide
  pub declares : length s.declares ≡ count
  pub bound : length s.bound ≡ count
  pub outside : length s.outside ≡ count

module _ (alike : List ℕ) (wide count : ℕ) where
  fits_met : (s : Judging) (r : Standing) (here : Here) (i : ℕ) → Fits wide count s → Fits wide count (meeting alike r here i s)
  fits_met s module_name here i f = record { globals = length-set s.globals (name_at alike i) _ ∙ f.globals; declares = length-set s.declares i true ∙ f.declares; bound = length-set s.bound i true ∙ f.bound; outside = f.outside }
  fits_met s parameter here i f = record { globals = f.globals; declares = f.declares; bound = length-set s.bound i true ∙ f.bound; outside = f.outside }
  fits_met s (local e) here i f = record { globals = f.globals; declares = f.declares; bound = length-set s.bound i true ∙ f.bound; outside = f.outside }
  fits_met s (reference None) here i f = record { globals = f.globals; declares = f.declares; bound = f.bound; outside = outside_wide (seen_here here (get_or s.visible (name_at alike i) None)) s.outside i ∙ f.outside }
  fits_met s (reference (Some y)) here i f = f
  fits_met s word here i f = f

  fits_back : (s : Judging) (rs : List Row) → Fits wide count s → Fits wide count (visible_again rs s)
  fits_back s [] f = f
  fits_back s (r ∷ rs) f = record { globals = f.globals; declares = f.declares; bound = f.bound; outside = f.outside }

  pub fits_next : (s : Judging) (e : Event) → Fits wide count s → Fits wide count (judging alike s e)
  fits_next s begins f = f
  fits_next s (meets here r i) f = fits_met s r here i f
  fits_next s opens f = record { globals = f.globals; declares = f.declares; bound = f.bound; outside = f.outside }
  fits_next s closes f = fits_back s s.outer f
  fits_next s (ends here i) f = record { globals = f.globals; declares = f.declares; bound = f.bound; outside = f.outside }

  -- what changes only where identifiers are met
  pub record Gathers (g : Judging → Bool) (q : Standing → ℕ → Bool) : Type 0 where
    pub met : (s : Judging) (r : Standing) (here : Here) (i : ℕ) → i < count → Fits wide count s → g (meeting alike r here i s) ≡ (g s || q r i)
    pub other : (s : Judging) (row : Row) (rows : List Row) → g (record s { visible = row; outer = rows }) ≡ g s

  module _ (g : Judging → Bool) (q : Standing → ℕ → Bool) (is : Gathers g q) where
    back : (s : Judging) (rs : List Row) → g (visible_again rs s) ≡ g s
    back s [] = refl
    back s (r ∷ rs) = is.other s r rs

    pub gathered : (es : List Event) (s : Judging) → AreMetBelow count es → Fits wide count s → g (judged alike s es) ≡ (g s || any_met q es)
    gathered [] s below f = sym (or-false (g s))
    gathered (begins ∷ es) s below f = gathered es s below.1 f
    gathered (meets here r i ∷ es) s below f =
        gathered es (meeting alike r here i s) below.1 (fits_met s r here i f) ∙ (ap (λ b. b || any_met q es) (is.met s r here i below.0 f) ∙ or_again (g s) (q r i) (any_met q es))
    gathered (opens ∷ es) s below f = gathered es (judging alike s opens) below.1 (fits_next s opens f) ∙ ap (λ b. b || any_met q es) (is.other s s.visible (s.visible ∷ s.outer))
    gathered (closes ∷ es) s below f = gathered es (visible_again s.outer s) below.1 (fits_back s s.outer f) ∙ ap (λ b. b || any_met q es) (back s s.outer)
    gathered (ends here i ∷ es) s below f = gathered es (judging alike s (ends here i)) below.1 (fits_next s (ends here i) f) ∙ ap (λ b. b || any_met q es) (is.other s _ s.outer)

  -- ---- the marks
  or_false : (x : Bool) → x ≡ (x || false)
  or_false x = sym (or-false x)

  pub bound_gathers : (m : ℕ) → Gathers (λ s. get_or s.bound m false) (λ r i. is_binder r && i == m)
  bound_gathers m = record { met = met; other = λ s row rows. refl }
    where
      met : (s : Judging) (r : Standing) (here : Here) (i : ℕ) → i < count → Fits wide count s → get_or (meeting alike r here i s).bound m false ≡ (get_or s.bound m false || (is_binder r && i == m))
      met s module_name here i h f = marked s.bound i m (omega (arith, h, f.bound))
      met s parameter here i h f = marked s.bound i m (omega (arith, h, f.bound))
      met s (local e) here i h f = marked s.bound i m (omega (arith, h, f.bound))
      met s (reference None) here i h f = or_false (get_or s.bound m false)
      met s (reference (Some y)) here i h f = or_false (get_or s.bound m false)
      met s word here i h f = or_false (get_or s.bound m false)

  pub declares_gathers : (m : ℕ) → Gathers (λ s. get_or s.declares m false) (λ r i. is_module_name r && i == m)
  declares_gathers m = record { met = met; other = λ s row rows. refl }
    where
      met : (s : Judging) (r : Standing) (here : Here) (i : ℕ) → i < count → Fits wide count s → get_or (meeting alike r here i s).declares m false ≡ (get_or s.declares m false || (is_module_name r && i == m))
      met s module_name here i h f = marked s.declares i m (omega (arith, h, f.declares))
      met s parameter here i h f = or_false (get_or s.declares m false)
      met s (local e) here i h f = or_false (get_or s.declares m false)
      met s (reference None) here i h f = or_false (get_or s.declares m false)
      met s (reference (Some y)) here i h f = or_false (get_or s.declares m false)
      met s word here i h f = or_false (get_or s.declares m false)

  -- ---- imports and global declarations
  module _ (m : ℕ) (t0 t1 : ℕ → Bool) (tests : Tests alike wide count m t0 t1) where
    -- the entry of the name, where one more import or global declaration is met
    with_global : (P : Option Agreed → Bool) (x : Bool) (s : Judging) (i : ℕ) (b : Bool) → (name_at alike i == name_at alike m) ≡ b → length s.globals ≡ wide
        → (P (Some (with_number (get_or s.globals (name_at alike m) None) i)) ≡ (P (get_or s.globals (name_at alike m) None) || x))
        → P (get_or (set s.globals (name_at alike i) (Some (with_number (get_or s.globals (name_at alike i) None) i))) (name_at alike m) None) ≡ (P (get_or s.globals (name_at alike m) None) || (b && x))
    with_global P x s i true e width h =
        let same : name_at alike i ≡ name_at alike m = (Decides-eqb (name_at alike i) (name_at alike m)).0 e in
        let low : name_at alike m < length s.globals = let l = tests.below in omega (arith, l, width) in
        ap P (ap (λ n. get_or (set s.globals n (Some (with_number (get_or s.globals n None) i))) (name_at alike m) None) same ∙ get_or-set_same s.globals (name_at alike m) (Some (with_number (get_or s.globals (name_at alike m) None) i)) None low) ∙ h
    with_global P x s i false e width h =
        let apart : name_at alike m ≡ name_at alike i → ⊥ = λ f. let g : true ≡ false = sym ((Decides-eqb (name_at alike i) (name_at alike m)).1 (sym f)) ∙ e in let z : ⊥ = cc in z in
        ap P (get_or-set_other s.globals (name_at alike i) (name_at alike m) _ None apart) ∙ or_false (P (get_or s.globals (name_at alike m) None))

    or_true : (x : Bool) → true ≡ (x || true)
    or_true true = refl
    or_true false = refl

    and_true : (x : Bool) → (x && true) ≡ x
    and_true true = refl
    and_true false = refl

    pub there_gathers : Gathers (λ s. is_there (get_or s.globals (name_at alike m) None)) (λ r i. is_module_name r && t0 i)
    there_gathers = record { met = met; other = λ s row rows. refl }
      where
        met : (s : Judging) (r : Standing) (here : Here) (i : ℕ) → i < count → Fits wide count s
            → is_there (get_or (meeting alike r here i s).globals (name_at alike m) None) ≡ (is_there (get_or s.globals (name_at alike m) None) || (is_module_name r && t0 i))
        met s module_name here i h f =
            with_global is_there true s i (t0 i) (tests.same i h) f.globals (or_true (is_there (get_or s.globals (name_at alike m) None)))
            ∙ ap (λ b. is_there (get_or s.globals (name_at alike m) None) || b) (and_true (t0 i))
        met s parameter here i h f = or_false (is_there (get_or s.globals (name_at alike m) None))
        met s (local e) here i h f = or_false (is_there (get_or s.globals (name_at alike m) None))
        met s (reference None) here i h f = or_false (is_there (get_or s.globals (name_at alike m) None))
        met s (reference (Some y)) here i h f = or_false (is_there (get_or s.globals (name_at alike m) None))
        met s word here i h f = or_false (is_there (get_or s.globals (name_at alike m) None))

    pub differs_gathers : Gathers (λ s. differs (get_or s.globals (name_at alike m) None) m) (λ r i. is_module_name r && t1 i)
    differs_gathers = record { met = met; other = λ s row rows. refl }
      where
        met : (s : Judging) (r : Standing) (here : Here) (i : ℕ) → i < count → Fits wide count s
            → differs (get_or (meeting alike r here i s).globals (name_at alike m) None) m ≡ (differs (get_or s.globals (name_at alike m) None) m || (is_module_name r && t1 i))
        met s module_name here i h f =
            with_global (λ o. differs o m) (not (i == m)) s i (t0 i) (tests.same i h) f.globals (with_differs (get_or s.globals (name_at alike m) None) i m)
            ∙ ap (λ b. differs (get_or s.globals (name_at alike m) None) m || b) (sym (tests.other i))
        met s parameter here i h f = or_false (differs (get_or s.globals (name_at alike m) None) m)
        met s (local e) here i h f = or_false (differs (get_or s.globals (name_at alike m) None) m)
        met s (reference None) here i h f = or_false (differs (get_or s.globals (name_at alike m) None) m)
        met s (reference (Some y)) here i h f = or_false (differs (get_or s.globals (name_at alike m) None) m)
        met s word here i h f = or_false (differs (get_or s.globals (name_at alike m) None) m)
