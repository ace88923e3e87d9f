-- References, by the walk that judges how names read.
use Rattle.std.proofs.Common.{◌≡◌, ℕ, ◌<◌, Bool, true, false, Option, Some, None, List, [], ◌∷◌, length, get_or, map, refl, sym, ap, ap₂, ◌∙◌, arith}
use Rattle.std.specs.Prelude.{not, ◌&&◌, ◌||◌, ◌==◌, if◌then◌else◌}
use Rattle.std.specs.List.{list_all, list_any}
use Rattle.wesl_tree_names.specs.Path.{Text}
use Rattle.wesl_scope_occurrences.specs.Occurrences.{Standing, module_name, parameter, local, reference, word, Occurrence, is_unqualified}
use Rattle.wesl_scope_occurrences.specs.Walk.{Here}
use Rattle.wesl_scope_occurrences.specs.Events.{EventOf, Event, begins, meets, opens, closes, ends}
use Rattle.wesl_scope_open.specs.Open.{Open, stepped, read_in}
use Rattle.wesl_scope_open.specs.Named.{event_as}
use Rattle.wesl_scope_open.specs.Matched.{AreMetBelow}
use Rattle.wesl_scope_open.proofs.Runs.{AllWithin, read_at, or_again}
use Rattle.wesl_scope_numbers.specs.Judging.{Row, Judging, seen_here, right_of, outside_with, visible_again, name_at, meeting, judging, judged}
use Rattle.wesl_scope_numbers.proofs.Marked.{yes, mark, alike_to, other_than}
use Rattle.wesl_scope_numbers.proofs.Walked.{is_there, Knows, Tests, knows_next, judged_by, seen_right, seen_outside, outside_marked}
use Rattle.wesl_scope_numbers.proofs.Along.{Lasts, lasts, sketches, sketch, Fits, fits_next}
use mathlib.Core.Bool.{or-false}

-- how an identifier stands and its number, as far as it matters here
abbrev pub Shape : Type 0
Shape = Bool × ℕ

abbrev pub shape : Standing → ℕ → Shape
shape r i = (is_unqualified r, i)

pub shape_lasts : (i : ℕ) → Lasts (λ r. shape r i)
shape_lasts i = lasts (λ r. shape r i) (λ e k. refl)

abbrev pub shape_of : Occurrence ℕ → Shape
shape_of = sketch shape shape_lasts

-- what the name n is read as at events
abbrev pub reads_of : Text → Open → List (EventOf Text) → List (Option ℕ)
reads_of n s [] = []
reads_of n s (meets here r x ∷ es) = read_at n s here r ∷ reads_of n (stepped s (meets here r x)) es
reads_of n s (e ∷ es) = reads_of n (stepped s e) es

abbrev pub Openings : Type 0
Openings = (ℕ → Bool) → Open

abbrev pub next : Openings → Event → Openings
next S e t = stepped (S t) (event_as (mark t) e)

and_again : (a b c : Bool) → ((a && b) && c) ≡ (a && (b && c))
and_again true b c = refl
and_again false b c = refl

and_none : (a : Bool) → a ≡ (a && true)
and_none true = refl
and_none false = refl

module _ (names : List Text) (alike : List ℕ) (wide : ℕ) (tests : (m : ℕ) → m < length names → Tests alike wide (length names) m (alike_to names m) (other_than names m)) (look : (ℕ → Bool) → Occurrence ℕ → Option ℕ) where
  abbrev count : ℕ
  count = length names

  abbrev alike_m : ℕ → ℕ → Bool
  alike_m = alike_to names

  abbrev other_m : ℕ → ℕ → Bool
  other_m = other_than names

  -- whether a reference that reads a binder in a function reads right
  abbrev pub judged_one : Occurrence ℕ → Bool
  judged_one o = if is_unqualified o.role then judged_by (look (alike_m o.name) o) (look (other_m o.name) o) else true

  -- whether a reference of number m reads none
  abbrev pub outside_one : ℕ → Occurrence ℕ → Bool
  outside_one m o = is_unqualified o.role && (not (is_there (look (alike_m o.name) o)) && o.name == m)

  -- events beside the identifiers that are met, from here on
  pub record Beside (s : Judging) (S : Openings) (es : List Event) (os : List (Occurrence ℕ)) : Type 0 where
    pub fits : Fits wide count s
    pub below : AreMetBelow count es
    pub knows : (m : ℕ) → m < count → Knows alike wide count m s (S (alike_m m)) (S (other_m m))
    pub within : (t : ℕ → Bool) → AllWithin (S t) (map (event_as (mark t)) es)
    pub same : map shape_of os ≡ sketches shape shape_lasts es
    pub reads : (t : ℕ → Bool) → reads_of yes (S t) (map (event_as (mark t)) es) ≡ map (look t) os

  beside_next : (e : Event) (es : List Event) (s : Judging) (S : Openings) (os us : List (Occurrence ℕ)) → Beside s S (e ∷ es) os → map shape_of us ≡ sketches shape shape_lasts es
      → ((t : ℕ → Bool) → reads_of yes (next S e t) (map (event_as (mark t)) es) ≡ map (look t) us) → Beside (judging alike s e) (next S e) es us
  beside_next e es s S os us b same reads = record {
    fits = fits_next alike wide count s e b.fits;
    below = b.below.1;
    knows = λ m h. knows_next alike wide count m (alike_m m) (other_m m) (tests m h) s (S (alike_m m)) (S (other_m m)) e b.below.0 (b.within (alike_m m)).0 (b.knows m h);
    within = λ t. (b.within t).1;
    same = same;
    reads = reads;
  }

  -- what is judged of these identifiers
  pub record Judges (right : Bool) (outside : List Bool) (d : Judging) (os : List (Occurrence ℕ)) : Type 0 where
    pub rights : d.right ≡ (right && list_all judged_one os)
    pub outsides : (m : ℕ) → get_or d.outside m false ≡ (get_or outside m false || list_any (outside_one m) os)

  judges_calm : (right : Bool) (outside : List Bool) (d : Judging) (o : Occurrence ℕ) (os : List (Occurrence ℕ)) → is_unqualified o.role ≡ false → Judges right outside d os → Judges right outside d (o ∷ os)
  judges_calm right outside d o os e j = record {
    rights = j.rights ∙ ap (λ u. right && ((if u then judged_by (look (alike_m o.name) o) (look (other_m o.name) o) else true) && list_all judged_one os)) (sym e);
    outsides = λ m. j.outsides m ∙ ap (λ u. get_or outside m false || ((u && (not (is_there (look (alike_m o.name) o)) && o.name == m)) || list_any (outside_one m) os)) (sym e);
  }

  -- a reference
  judges_reference : (s d : Judging) (S : Openings) (here : Here) (i : ℕ) (o : Occurrence ℕ) (os : List (Occurrence ℕ)) → i < count → Fits wide count s → Knows alike wide count i s (S (alike_m i)) (S (other_m i))
      → is_unqualified o.role ≡ true → o.name ≡ i → read_in here ((S (alike_m i)).reads yes) ≡ look (alike_m i) o → read_in here ((S (other_m i)).reads yes) ≡ look (other_m i) o
      → Judges (s.right && right_of (seen_here here (get_or s.visible (name_at alike i) None)) i) (outside_with (seen_here here (get_or s.visible (name_at alike i) None)) i s.outside) d os
      → Judges s.right s.outside d (o ∷ os)
  judges_reference s d S here i o os hi fits k unqualified name all other j =
      let cell = get_or s.visible (name_at alike i) None in
      let r0 = (S (alike_m i)).reads yes in
      let r1 = (S (other_m i)).reads yes in
      let v = seen_here here cell in
      let right : right_of v i ≡ judged_one o =
      seen_right i here cell r0 r1 here.is_local k.now.1
      ∙ (ap₂ judged_by all other ∙ (ap (λ m. judged_by (look (alike_m m) o) (look (other_m m) o)) (sym name) ∙ ap (λ u. if u then judged_by (look (alike_m o.name) o) (look (other_m o.name) o) else true) (sym unqualified))) in
      let out : (m : ℕ) → (not (is_there v) && i == m) ≡ outside_one m o =
      λ m.
      ap (λ b. not b && i == m) (seen_outside i here cell r0 r1 here.is_local k.now.1 ∙ ap is_there all)
      ∙ (ap (λ n. not (is_there (look (alike_m n) o)) && n == m) (sym name) ∙ ap (λ u. u && (not (is_there (look (alike_m o.name) o)) && o.name == m)) (sym unqualified)) in
      record {
        rights = j.rights ∙ (and_again s.right (right_of v i) (list_all judged_one os) ∙ ap (λ b. s.right && (b && list_all judged_one os)) right);
        outsides = λ m.
            j.outsides m
            ∙ (ap (λ b. b || list_any (outside_one m) os) (outside_marked v s.outside i m (let f = fits.outside in omega (arith, hi, f)))
            ∙ (or_again (get_or s.outside m false) (not (is_there v) && i == m) (list_any (outside_one m) os) ∙ ap (λ b. get_or s.outside m false || (b || list_any (outside_one m) os)) (out m)));
      }

  judges_met : (s d : Judging) (S : Openings) (r : Standing) (here : Here) (i : ℕ) (o : Occurrence ℕ) (os : List (Occurrence ℕ)) → i < count → Fits wide count s → Knows alike wide count i s (S (alike_m i)) (S (other_m i))
      → is_unqualified o.role ≡ is_unqualified r → o.name ≡ i → ((t : ℕ → Bool) → read_at yes (S t) here r ≡ look t o)
      → Judges (meeting alike r here i s).right (meeting alike r here i s).outside d os → Judges s.right s.outside d (o ∷ os)
  judges_met s d S module_name here i o os hi fits k role name looks j = judges_calm s.right s.outside d o os role j
  judges_met s d S parameter here i o os hi fits k role name looks j = judges_calm s.right s.outside d o os role j
  judges_met s d S (local e) here i o os hi fits k role name looks j = judges_calm s.right s.outside d o os role j
  judges_met s d S (reference None) here i o os hi fits k role name looks j = judges_reference s d S here i o os hi fits k role name (looks (alike_m i)) (looks (other_m i)) j
  judges_met s d S (reference (Some y)) here i o os hi fits k role name looks j = judges_calm s.right s.outside d o os role j
  judges_met s d S word here i o os hi fits k role name looks j = judges_calm s.right s.outside d o os role j

  judges_back : (s d : Judging) (rs : List Row) (os : List (Occurrence ℕ)) → Judges (visible_again rs s).right (visible_again rs s).outside d os → Judges s.right s.outside d os
  judges_back s d [] os j = j
  judges_back s d (r ∷ rs) os j = j

  pub judges : (es : List Event) (s : Judging) (S : Openings) (os : List (Occurrence ℕ)) → Beside s S es os → Judges s.right s.outside (judged alike s es) os
  judges [] s S [] b = record { rights = and_none s.right; outsides = λ m. sym (or-false (get_or s.outside m false)) }
  judges [] s S (o ∷ os) b = absurd (let e = b.same in let z : ⊥ = cc in z)
  judges (begins ∷ es) s S os b = judges es s (next S begins) os (beside_next begins es s S os os b b.same b.reads)
  judges (opens ∷ es) s S os b = judges es (judging alike s opens) (next S opens) os (beside_next opens es s S os os b b.same b.reads)
  judges (closes ∷ es) s S os b = judges_back s _ s.outer os (judges es (judging alike s closes) (next S closes) os (beside_next closes es s S os os b b.same b.reads))
  judges (ends here i ∷ es) s S os b = judges es (judging alike s (ends here i)) (next S (ends here i)) os (beside_next (ends here i) es s S os os b b.same b.reads)
  judges (meets here r i ∷ es) s S [] b = absurd (let e = b.same in let z : ⊥ = cc in z)
  judges (meets here r i ∷ es) s S (o ∷ os) b =
      let e = b.same in
      let first : shape_of o ≡ shape r i = cc in
      let rest : map shape_of os ≡ sketches shape shape_lasts es = cc in
      judges_met s (judged alike (meeting alike r here i s) es) S r here i o os b.below.0 b.fits (b.knows i b.below.0) (ap (λ p. p.0) first) (ap (λ p. p.1) first)
      (λ t. head_same (b.reads t))
      (judges es (meeting alike r here i s) (next S (meets here r i)) os (beside_next (meets here r i) es s S (o ∷ os) os b rest (λ t. tail_same (b.reads t))))
    where
      head_same : {X : Type 0} {x y : X} {xs ys : List X} → ◌≡◌ {A = List X} (x ∷ xs) (y ∷ ys) → x ≡ y
      head_same h = cc

      tail_same : {X : Type 0} {x y : X} {xs ys : List X} → ◌≡◌ {A = List X} (x ∷ xs) (y ∷ ys) → xs ≡ ys
      tail_same h = cc
