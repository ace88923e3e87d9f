-- Identifiers whose paths were left out get them back, one after the other.
use Rattle.std.proofs.Common.{◌≡◌, ℕ, zero, suc, ◌+◌, ◌<◌, ◌≤◌, List, [], ◌∷◌, ◌++◌, length, get_or, set, map, refl, sym, ap, ◌∙◌, arith}
use Rattle.std.specs.Prelude.{Some, None}
use Rattle.wesl_tree_names.specs.Path.{Path}
use Rattle.wesl_scope_occurrences.specs.Occurrences.{Standing, module_name, parameter, local, reference, word}
use Rattle.wesl_scope_occurrences.specs.Walk.{Found}
use Rattle.wesl_scope_occurrences.specs.Events.{Event, begins, meets, opens, closes, ends, path_met, paths_met}
use Rattle.wesl_scope_occurrences.specs.Collected.{Collected, collecting, collected, last_ended}
use Rattle.wesl_scope_occurrences.specs.Walk.{ended_as, ended_at}
use Rattle.wesl_scope_occurrences.specs.Bare.{bare, bare_as, path_place, path_places, paths_in, with_path, fewer, first_partly, partly}
use Rattle.std.proofs.Common.{append_assoc, append-nil, length-append}
use Rattle.wesl_scope_occurrences.specs.Views.{occurrence_view}
use Rattle.wesl_scope_occurrences.specs.declared.occurrence.Occurrence.{Occurrence}

-- ---- none yet, and all

bare_same : (r : Standing) (o : Found) → o.role ≡ r → first_partly r 0 o ≡ bare o
bare_same module_name o e = ap (λ r. record o { role = r }) (e ∙ ap bare_as (sym e))
bare_same parameter o e = ap (λ r. record o { role = r }) (e ∙ ap bare_as (sym e))
bare_same (local k) o e = ap (λ r. record o { role = r }) (e ∙ ap bare_as (sym e))
bare_same (reference None) o e = ap (λ r. record o { role = r }) (e ∙ ap bare_as (sym e))
bare_same (reference (Some p)) o e = refl
bare_same word o e = ap (λ r. record o { role = r }) (e ∙ ap bare_as (sym e))

none_fewer : (r : Standing) → fewer r 0 ≡ 0
none_fewer module_name = refl
none_fewer parameter = refl
none_fewer (local k) = refl
none_fewer (reference None) = refl
none_fewer (reference (Some p)) = refl
none_fewer word = refl

pub partly_none : (os : List Found) → partly 0 os ≡ map bare os
partly_none [] = refl
partly_none (o ∷ os) = ap (λ x. x ∷ partly (fewer o.role 0) os) (bare_same o.role o refl) ∙ ap (λ xs. bare o ∷ xs) (ap (λ n. partly n os) (none_fewer o.role) ∙ partly_none os)

all_first : (r : Standing) (n k : ℕ) (o : Found) (os : List Found) → length (path_place k r ++ path_places (suc k) os) ≤ n
    → (first_partly r n o ≡ o) × (length (path_places (suc k) os) ≤ fewer r n)
all_first module_name n k o os h = (refl, h)
all_first parameter n k o os h = (refl, h)
all_first (local j) n k o os h = (refl, h)
all_first (reference None) n k o os h = (refl, h)
all_first (reference (Some p)) zero k o os h = absurd (omega arith)
all_first (reference (Some p)) (suc n) k o os h = (refl, omega arith)
all_first word n k o os h = (refl, h)

pub partly_all : (n k : ℕ) (os : List Found) → length (path_places k os) ≤ n → partly n os ≡ os
partly_all n k [] h = refl
partly_all n k (o ∷ os) h =
    let a = all_first o.role n k o os h in
    ap (λ x. x ∷ partly (fewer o.role n) os) a.0 ∙ ap (λ xs. o ∷ xs) (partly_all (fewer o.role n) (suc k) os a.1)

-- ---- one more

abbrev After : ℕ → List Found → Type 0
After k os = (i : ℕ) → i < length (path_places k os) → k ≤ get_or (path_places k os) i 0

-- past an identifier without a path
passed : (k : ℕ) (os : List Found) → After (suc k) os → (i : ℕ) → i < length (path_places (suc k) os) → k ≤ get_or (path_places (suc k) os) i 0
passed k os ih i h = let z = ih i h in omega (arith, z)

place_after : (r : Standing) (k : ℕ) (os : List Found) → After (suc k) os → (i : ℕ) → i < length (path_place k r ++ path_places (suc k) os) → k ≤ get_or (path_place k r ++ path_places (suc k) os) i 0
place_after module_name k os ih i h = passed k os ih i h
place_after parameter k os ih i h = passed k os ih i h
place_after (local j) k os ih i h = passed k os ih i h
place_after (reference None) k os ih i h = passed k os ih i h
place_after (reference (Some p)) k os ih zero h = omega arith
place_after (reference (Some p)) k os ih (suc i) h = passed k os ih i (omega arith)
place_after word k os ih i h = passed k os ih i h

places_after : (k : ℕ) (os : List Found) → After k os
places_after k [] i h = absurd (omega arith)
places_after k (o ∷ os) i h = place_after o.role k os (places_after (suc k) os) i h

abbrev Grows : ℕ → Path → Path → List Found → Type 0
Grows k path d os = (i p : ℕ) → i < length (path_places k os) → get_or (path_places k os) i 0 ≡ k + p → get_or (paths_in os) i d ≡ path → with_path p path (partly i os) ≡ partly (suc i) os

skipped : (k i p j : ℕ) (path d : Path) (o : Found) (os : List Found) → j < length (path_places (suc k) os) → get_or (path_places (suc k) os) j 0 ≡ k + p → get_or (paths_in os) j d ≡ path → Grows (suc k) path d os
    → with_path p path (o ∷ partly j os) ≡ o ∷ partly (suc j) os
skipped k i zero j path d o os h e f ih = let z = places_after (suc k) os j h in absurd (omega (arith, z, e))
skipped k i (suc p) j path d o os h e f ih = ap (λ xs. o ∷ xs) (ih j p h (e ∙ (let z : k + suc p ≡ suc k + p = omega arith in z)) f)

more : (r : Standing) (k i p : ℕ) (path d : Path) (o : Found) (os : List Found) → o.role ≡ r → i < length (path_place k r ++ path_places (suc k) os) → get_or (path_place k r ++ path_places (suc k) os) i 0 ≡ k + p
    → get_or (path_met r ++ paths_in os) i d ≡ path → Grows (suc k) path d os
    → with_path p path (first_partly r i o ∷ partly (fewer r i) os) ≡ first_partly r (suc i) o ∷ partly (fewer r (suc i)) os
more module_name k i p path d o os er h e f ih = skipped k i p i path d o os h e f ih
more parameter k i p path d o os er h e f ih = skipped k i p i path d o os h e f ih
more (local j) k i p path d o os er h e f ih = skipped k i p i path d o os h e f ih
more (reference None) k i p path d o os er h e f ih = skipped k i p i path d o os h e f ih
more (reference (Some q)) k zero zero path d o os er h e f ih = ap (λ z. record o { role = z } ∷ partly 0 os) (ap (λ y. reference (Some y)) (sym f) ∙ sym er)
more (reference (Some q)) k zero (suc p) path d o os er h e f ih = absurd (omega (arith, e))
more (reference (Some q)) k (suc i) p path d o os er h e f ih = skipped k i p i path d o os (omega arith) e f ih
more word k i p path d o os er h e f ih = skipped k i p i path d o os h e f ih

grows : (k : ℕ) (path d : Path) (os : List Found) → Grows k path d os
grows k path d [] i p h e f = absurd (omega arith)
grows k path d (o ∷ os) i p h e f = more o.role k i p path d o os refl h e f (grows (suc k) path d os)

pub one_patched : (os : List Found) (i p : ℕ) (path d : Path) → i < length (path_places 0 os) → p ≡ get_or (path_places 0 os) i 0 → get_or (paths_in os) i d ≡ path → with_path p path (partly i os) ≡ partly (suc i) os
one_patched os i p path d h e f = grows 0 path d os i p h (sym e ∙ (let z : p ≡ 0 + p = omega arith in z)) f

same_many_as : (r : Standing) (k m n : ℕ) → m ≡ n → length (path_met r) + m ≡ length (path_place k r) + n
same_many_as module_name k m n e = omega (arith, e)
same_many_as parameter k m n e = omega (arith, e)
same_many_as (local j) k m n e = omega (arith, e)
same_many_as (reference None) k m n e = omega (arith, e)
same_many_as (reference (Some p)) k m n e = omega (arith, e)
same_many_as word k m n e = omega (arith, e)

-- as many paths as places
pub same_many : (k : ℕ) (os : List Found) → length (paths_in os) ≡ length (path_places k os)
same_many k [] = refl
same_many k (o ∷ os) =
    let e = same_many_as o.role k (length (paths_in os)) (length (path_places (suc k) os)) (same_many (suc k) os) in
    omega (arith, e, length-append (path_met o.role) (paths_in os), length-append (path_place k o.role) (path_places (suc k) os))

-- ---- a path is put

pub put_set : (p : ℕ) (path : Path) (xs : List Occurrence) (w o : Occurrence) → p < length xs → o ≡ get_or xs p o → occurrence_view w ≡ record (occurrence_view o) { role = reference (Some path) }
    → map occurrence_view (set xs p w) ≡ with_path p path (map occurrence_view xs)
put_set p path [] w o h is e = absurd (omega arith)
put_set zero path (x ∷ xs) w o h is e = ap (λ z. z ∷ map occurrence_view xs) (e ∙ ap (λ z. record (occurrence_view z) { role = reference (Some path) }) is)
put_set (suc p) path (x ∷ xs) w o h is e = ap (λ zs. occurrence_view x ∷ zs) (put_set p path xs w o (omega arith) is e)

pub put_past : (p : ℕ) (path : Path) (xs : List Occurrence) → length xs ≤ p → map occurrence_view xs ≡ with_path p path (map occurrence_view xs)
put_past p path [] h = refl
put_past zero path (x ∷ xs) h = absurd (omega arith)
put_past (suc p) path (x ∷ xs) h = ap (λ zs. occurrence_view x ∷ zs) (put_past p path xs (omega arith))

-- ---- the paths of what is collected

ended_path : (e : ℕ) (r : Standing) → path_met (ended_as e r) ≡ path_met r
ended_path e module_name = refl
ended_path e parameter = refl
ended_path e (local k) = refl
ended_path e (reference by) = refl
ended_path e word = refl

ended_paths : (e p : ℕ) (os : List Found) → paths_in (ended_at e p os) ≡ paths_in os
ended_paths e p [] = refl
ended_paths e zero (o ∷ os) = ap (λ ps. ps ++ paths_in os) (ended_path e o.role)
ended_paths e (suc p) (o ∷ os) = ap (λ ps. path_met o.role ++ ps) (ended_paths e p os)

last_paths : (ns : List ℕ) (c : Collected) → paths_in (last_ended ns c).found ≡ paths_in c.found
last_paths [] c = refl
last_paths (n ∷ ns) c = ended_paths (length c.found) n c.found

paths_more : (os : List Found) (o : Found) → paths_in (os ++ o ∷ []) ≡ paths_in os ++ path_met o.role
paths_more [] o = append-nil (path_met o.role)
paths_more (y ∷ os) o = ap (λ ps. path_met y.role ++ ps) (paths_more os o) ∙ sym (append_assoc (path_met y.role) (paths_in os) (path_met o.role))

pub collected_paths : (es : List Event) (c : Collected) → paths_in (collected c es).found ≡ paths_in c.found ++ paths_met es
collected_paths [] c = sym (append-nil (paths_in c.found))
collected_paths (begins ∷ es) c = collected_paths es (collecting c begins)
collected_paths (meets here r x ∷ es) c =
    collected_paths es (collecting c (meets here r x))
    ∙ (ap (λ ps. ps ++ paths_met es) (paths_more c.found (record { role = r; name = x; place = length c.found; block = here.block; declaration = here.declaration; excused = here.excused }))
    ∙ append_assoc (paths_in c.found) (path_met r) (paths_met es))
collected_paths (opens ∷ es) c = collected_paths es c
collected_paths (closes ∷ es) c = collected_paths es c
collected_paths (ends here x ∷ es) c = collected_paths es (last_ended c.naming c) ∙ ap (λ ps. ps ++ paths_met es) (last_paths c.naming c)

pub got : {A B : Type 0} (f : A → B) (xs : List A) (i : ℕ) (d : A) → get_or (map f xs) i (f d) ≡ f (get_or xs i d)
got f [] i d = refl
got f (x ∷ xs) zero d = refl
got f (x ∷ xs) (suc i) d = got f xs i d
