-- The steps of a collector.
use Rattle.std.proofs.Common.{◌≡◌, ℕ, zero, suc, ◌+◌, Bool, true, false, ◌||◌, List, [], ◌∷◌, ◌++◌, length, map, refl, sym, ap, ◌∙◌, subst, arith, append_assoc, append-nil, length-append}
use Rattle.std.specs.Prelude.{Option, Some, None, MatchOption, Result, Ok, Err, if◌then◌else◌}
use Rattle.std.specs.Result.{is_err, is_ok}
use Rattle.std.proofs.lemmas.List.{map-append, length-map}
use Rattle.wesl_scope_occurrences.specs.Occurrences.{Standing, module_name, parameter, local, reference, word}
use Rattle.wesl_scope_occurrences.specs.Walk.{Here, Found, ended_as, ended_at}
use Rattle.wesl_scope_occurrences.specs.Events.{begins, meets, ends}
use Rattle.wesl_scope_occurrences.specs.Collected.{Collected, naming_with, last_ended}
use Rattle.wesl_scope_occurrences.specs.Bare.{bare, bare_as, path_place, path_places}
use Rattle.wesl_scope_occurrences.specs.Shown.{name_place, backwards, Shows, Collects, NotesPlace, NotesName, Ends}
use Rattle.wesl_scope_occurrences.specs.Views.{occurrence_view}
use Rattle.wesl_scope_occurrences.specs.declared.occurrence.Occurrence.{Occurrence}
use Rattle.wesl_scope_occurrences.specs.declared.collector.Collector.{Collector}

-- what a push has done, where neither it nor one before was refused
pub pushed : {X E A : Type 0} (r : Result X E) (before now : Bool) (new more old : A) → now ≡ is_err r → new ≡ (if is_ok r then more else old) → before || now ≡ false → (before ≡ false) × (new ≡ more)
pushed (Ok x) false now new more old is e k = (refl, e)
pushed (Ok x) true now new more old is e k = cc
pushed (Err x) false now new more old is e k = cc
pushed (Err x) true now new more old is e k = cc

shown_length : (k : Collector) (c : Collected) → Shows k c → length k.found.items ≡ length c.found
shown_length k c s = omega (arith, ap length s.found, length-map k.found.items occurrence_view, length-map c.found bare)

pub begin_collects : (old new : Collector) (n : ℕ) → new.found ≡ old.found → new.qualified ≡ old.qualified → new.naming ≡ old.naming → n ≡ length old.found.items
    → (new.is_refused ≡ false → (old.is_refused ≡ false) × (new.starts.items ≡ old.starts.items ++ n ∷ [])) → Collects (begins ∷ []) old new
begin_collects old new n f q m e h = record {
  noted = λ k. (h k).0;
  shown = λ k c s. record {
    found = ap (λ v. map occurrence_view v.items) f ∙ s.found;
    qualified = ap (λ v. v.items) q ∙ s.qualified;
    naming = ap (λ v. v.items) m ∙ s.naming;
    starts = (h k).1 ∙ (ap (λ xs. xs ++ n ∷ []) s.starts ∙ ap (λ j. c.starts ++ j ∷ []) (e ∙ shown_length old c s));
  };
}

places_more : (p : ℕ) (os : List Found) (o : Found) → path_places p (os ++ o ∷ []) ≡ path_places p os ++ path_place (p + length os) o.role
places_more p [] o = append-nil (path_place p o.role) ∙ ap (λ k. path_place k o.role) (let e : p ≡ p + 0 = omega arith in e)
places_more p (y ∷ os) o =
    ap (λ xs. path_place p y.role ++ xs) (places_more (suc p) os o ∙ ap (λ k. path_places (suc p) os ++ path_place k o.role) (let e : suc p + length os ≡ p + suc (length os) = omega arith in e))
    ∙ sym (append_assoc (path_place p y.role) (path_places (suc p) os) (path_place (p + suc (length os)) o.role))

naming_more : (r : Standing) (p : ℕ) (ps : List ℕ) → backwards ps ++ name_place p r ≡ backwards (naming_with r p ps)
naming_more module_name p ps = append-nil (backwards ps)
naming_more parameter p ps = append-nil (backwards ps)
naming_more (local e) p ps = refl
naming_more (reference by) p ps = append-nil (backwards ps)
naming_more word p ps = append-nil (backwards ps)

abbrev met : Here → Standing → ℕ → ℕ → Found
met here r x p = record { role = r; name = x; place = p; block = here.block; declaration = here.declaration; excused = here.excused }

pub meet_collects : (old k1 k2 new : Collector) (here : Here) (r : Standing) (x n : ℕ) (o : Occurrence)
    → k1.qualified ≡ old.qualified → k1.naming ≡ old.naming → k1.starts ≡ old.starts → n ≡ length old.found.items → occurrence_view o ≡ bare (met here r x n)
    → (k1.is_refused ≡ false → (old.is_refused ≡ false) × (k1.found.items ≡ old.found.items ++ o ∷ []))
    → NotesPlace k1 k2 n r → NotesName k2 new n r → Collects (meets here r x ∷ []) old new
meet_collects old k1 k2 new here r x n o q m st e is h a b = record {
  noted = λ k. (h (a.noted (b.noted k))).0;
  shown = λ k c s.
      let k1f = a.noted (b.noted k) in
      let p : n ≡ length c.found = e ∙ shown_length old c s in
      let last : Found = met here r x (length c.found) in
      let view : occurrence_view o ≡ bare last = is ∙ ap (λ j. bare (met here r x j)) p in
      record {
        found =
            ap (λ v. map occurrence_view v.items) (b.found ∙ a.found)
            ∙ (ap (map occurrence_view) (h k1f).1
            ∙ (map-append occurrence_view old.found.items (o ∷ [])
            ∙ (ap (λ os. os ++ occurrence_view o ∷ []) s.found
            ∙ (ap (λ z. map bare c.found ++ z ∷ []) view ∙ sym (map-append bare c.found (last ∷ []))))));
        qualified =
            ap (λ v. v.items) b.qualified
            ∙ (a.qualified (b.noted k)
            ∙ (ap (λ v. v.items ++ path_place n r) q
            ∙ (ap (λ xs. xs ++ path_place n r) s.qualified
            ∙ (ap (λ j. path_places 0 c.found ++ path_place j r) (let z : n ≡ 0 + length c.found = omega (arith, p) in z) ∙ sym (places_more 0 c.found last)))));
        naming =
            b.naming k
            ∙ (ap (λ v. v.items ++ name_place n r) (a.naming ∙ m)
            ∙ (ap (λ xs. xs ++ name_place n r) s.naming ∙ (naming_more r n c.naming ∙ ap (λ j. backwards (naming_with r j c.naming)) p)));
        starts = ap (λ v. v.items) (b.starts ∙ (a.starts ∙ st)) ∙ s.starts;
      };
}

-- ---- a declaration has ended

bare_ended : (e : ℕ) (r : Standing) → bare_as (ended_as e r) ≡ ended_as e (bare_as r)
bare_ended e module_name = refl
bare_ended e parameter = refl
bare_ended e (local k) = refl
bare_ended e (reference None) = refl
bare_ended e (reference (Some p)) = refl
bare_ended e word = refl

bare_ended_at : (e p : ℕ) (os : List Found) → map bare (ended_at e p os) ≡ ended_at e p (map bare os)
bare_ended_at e p [] = refl
bare_ended_at e zero (o ∷ os) = ap (λ r. record o { role = r } ∷ map bare os) (bare_ended e o.role)
bare_ended_at e (suc p) (o ∷ os) = ap (λ xs. bare o ∷ xs) (bare_ended_at e p os)

place_ended : (e p : ℕ) (r : Standing) → path_place p (ended_as e r) ≡ path_place p r
place_ended e p module_name = refl
place_ended e p parameter = refl
place_ended e p (local k) = refl
place_ended e p (reference by) = refl
place_ended e p word = refl

places_ended : (e p k : ℕ) (os : List Found) → path_places k (ended_at e p os) ≡ path_places k os
places_ended e p k [] = refl
places_ended e zero k (o ∷ os) = ap (λ xs. xs ++ path_places (suc k) os) (place_ended e k o.role)
places_ended e (suc p) k (o ∷ os) = ap (λ xs. path_place k o.role ++ xs) (places_ended e p (suc k) os)

-- the last of a list, and those before it
last_same : (xs ys : List ℕ) (x y : ℕ) → xs ++ x ∷ [] ≡ ys ++ y ∷ [] → (xs ≡ ys) × (x ≡ y)
last_same [] [] x y e = (refl, ap (first x) e)
  where
    first : ℕ → List ℕ → ℕ
    first d [] = d
    first d (z ∷ zs) = z
last_same [] (b ∷ ys) x y e = let n = ap length e in absurd (omega (arith, n, length-append ys (y ∷ [])))
last_same (a ∷ xs) [] x y e = let n = ap length e in absurd (omega (arith, n, length-append xs (x ∷ [])))
last_same (a ∷ xs) (b ∷ ys) x y e =
    let r = last_same xs ys x y (ap rest e) in
    (ap (λ z. z ∷ xs) (ap (first a) e) ∙ ap (λ zs. b ∷ zs) r.0, r.1)
  where
    first : ℕ → List ℕ → ℕ
    first d [] = d
    first d (z ∷ zs) = z

    rest : List ℕ → List ℕ
    rest [] = []
    rest (z ∷ zs) = zs

none_last : (ps : List ℕ) (p : ℕ) → [] ≡ ps ++ p ∷ [] → ⊥
none_last ps p e = let n = ap length e in omega (arith, n, length-append ps (p ∷ []))

shown_ended : (old k1 new : Collector) (p : ℕ) (c : Collected) (ns : List ℕ) → c.naming ≡ ns → k1.found ≡ old.found → k1.qualified ≡ old.qualified → k1.starts ≡ old.starts
    → old.naming.items ≡ k1.naming.items ++ p ∷ [] → Ends k1 new p → Shows old c → Shows new (last_ended ns c)
shown_ended old k1 new p c [] is f q st e d s = absurd (none_last k1.naming.items p (sym (s.naming ∙ ap backwards is) ∙ e))
shown_ended old k1 new p c (m ∷ ns) is f q st e d s =
    let both = last_same k1.naming.items (backwards ns) p m (sym e ∙ (s.naming ∙ ap backwards is)) in
    let n : length k1.found.items ≡ length c.found = ap (λ v. length v.items) f ∙ shown_length old c s in
    record {
      found =
          d.found
          ∙ (ap (λ v. ended_at (length k1.found.items) p (map occurrence_view v.items)) f
          ∙ (ap (ended_at (length k1.found.items) p) s.found
          ∙ (ap (λ j. ended_at j p (map bare c.found)) n ∙ (ap (λ j. ended_at (length c.found) j (map bare c.found)) both.1 ∙ sym (bare_ended_at (length c.found) m c.found)))));
      qualified = ap (λ v. v.items) (d.qualified ∙ q) ∙ (s.qualified ∙ sym (places_ended (length c.found) m 0 c.found));
      naming = ap (λ v. v.items) d.naming ∙ both.0;
      starts = ap (λ v. v.items) (d.starts ∙ st) ∙ s.starts;
    }

pub end_collects : (old k1 new : Collector) (here : Here) (x p : ℕ) → k1.found ≡ old.found → k1.qualified ≡ old.qualified → k1.starts ≡ old.starts → k1.is_refused ≡ old.is_refused
    → old.naming.items ≡ k1.naming.items ++ p ∷ [] → Ends k1 new p → Collects (ends here x ∷ []) old new
end_collects old k1 new here x p f q st w e d = record {
  noted = λ k. sym w ∙ (sym d.is_refused ∙ k);
  shown = λ k c s. shown_ended old k1 new p c c.naming refl f q st e d s;
}

none_ended : (old new : Collector) (c : Collected) (ns : List ℕ) → c.naming ≡ ns → new.found ≡ old.found → new.qualified ≡ old.qualified → new.starts ≡ old.starts → old.naming.items ≡ [] → new.naming.items ≡ []
    → Shows old c → Shows new (last_ended ns c)
none_ended old new c [] is f q st e e2 s = record {
  found = ap (λ v. map occurrence_view v.items) f ∙ s.found;
  qualified = ap (λ v. v.items) q ∙ s.qualified;
  naming = e2 ∙ (sym e ∙ s.naming);
  starts = ap (λ v. v.items) st ∙ s.starts;
}
none_ended old new c (m ∷ ns) is f q st e e2 s = absurd (none_last (backwards ns) m (sym e ∙ (s.naming ∙ ap backwards is)))

pub end_none : (old new : Collector) (here : Here) (x : ℕ) → new.found ≡ old.found → new.qualified ≡ old.qualified → new.starts ≡ old.starts → new.is_refused ≡ old.is_refused → old.naming.items ≡ [] → new.naming.items ≡ []
    → Collects (ends here x ∷ []) old new
end_none old new here x f q st w e e2 = record { noted = λ k. sym w ∙ k; shown = λ k c s. none_ended old new c c.naming refl f q st e e2 s }

-- ---- nothing to take from a list

pub none_popped : (A B : Type 0) (r : Option ℕ) → r ≡ None → MatchOption r A (λ _. B) → A
none_popped A B r is m = subst (λ x. MatchOption x A (λ _. B)) is m

pub emptied : (xs : List ℕ) → length xs ≡ 0 → xs ≡ []
emptied [] h = refl
emptied (x ∷ xs) h = absurd (omega arith)
