-- Findings, each once: what is among them, and how they are gathered.
use Rattle.std.proofs.Common.{◌≡◌, ◌≢◌, ◌⊎◌, ℕ, ◌+◌, ◌<◌, ◌≤◌, ◌++◌, ◌&&◌, ◌||◌, Bool, true, false, not, cond, List, [], ◌∷◌, length, get_or, drop, suc, drop-cons, add-one, refl, sym, ap, ◌∙◌, subst, inl, inr, arith, append_assoc}
use Rattle.std.specs.Prelude.{if◌then◌else◌}
use Rattle.std.specs.List.{AllPairs, Contains, filter, list_any}
use Rattle.std.proofs.lemmas.List.{append-nil, drop_all}
use Rattle.std.proofs.lemmas.List.Elements.{filter_passes}
use Rattle.std.proofs.lemmas.List.Folds.{list_any-append}
use Rattle.std.proofs.lemmas.List.Kept.{AllPairs-cons, AllPairs-filter}
use Rattle.wesl_validate_free.proofs.Once.{and_right, not_both, of_passing, to_passing}
use Rattle.wesl_validate_faults.specs.Findings.{Finding, same_finding}
use Rattle.wesl_validate_faults.specs.Gathered.{finding_view, findings_view, with_finding}
use Rattle.wesl_validate_faults.specs.Listed.{each_once}
use Rattle.wesl_validate_faults.specs.declared.finding.Finding as code
use Rattle.wesl_validate_faults.proofs.Equality.{findings_decide, finding_eq, finding_test}
use mathlib.Core.Bool.{or-false}
use Rattle.wesl_scope_strip.proofs.Keeping.{contains_cases, contains_here, contains_later}

other_finding : (n m : Finding) → not (same_finding m n) ≡ true → n ≢ m
other_finding n m h e = let f : same_finding m n ≡ true = (findings_decide m n).1 (sym e) in absurd (let z : ⊥ = cc in z)

pub once_apart : (ns : List Finding) → AllPairs (λ m n. m ≢ n) (each_once ns)
once_apart [] = λ i j d b l. absurd (omega (arith, l))
once_apart (n ∷ ns) =
    AllPairs-cons (λ a b. a ≢ b) n (filter (λ m. not (same_finding m n)) (each_once ns))
    (λ i d l. other_finding n _ (filter_passes (λ m. not (same_finding m n)) (each_once ns) i d l))
    (AllPairs-filter (λ a b. a ≢ b) (λ m. not (same_finding m n)) (each_once ns) (once_apart ns))

pub of_once : (ns : List Finding) (n : Finding) → Contains (each_once ns) n → Contains ns n
of_once [] n c = c
of_once (m ∷ ns) n c = by (contains_cases m n (filter (λ k. not (same_finding k m)) (each_once ns)) c) (of_once ns n)
  where
    by : (m ≡ n) ⊎ Contains (filter (λ k. not (same_finding k m)) (each_once ns)) n → (Contains (each_once ns) n → Contains ns n) → Contains (m ∷ ns) n
    by (inl e) r = subst (Contains (m ∷ ns)) e (contains_here m ns)
    by (inr d) r = contains_later m n ns (r (of_passing (λ k. not (same_finding k m)) (each_once ns) n d).0)

pub to_once : (ns : List Finding) (n : Finding) → Contains ns n → Contains (each_once ns) n
to_once [] n c = c
to_once (m ∷ ns) n c = by (same_finding n m) refl (findings_decide n m) (contains_cases m n ns c) (to_once ns n)
  where
    by : (t : Bool) → same_finding n m ≡ t → ((t ≡ true → n ≡ m) × (n ≡ m → t ≡ true)) → (m ≡ n) ⊎ Contains ns n → (Contains ns n → Contains (each_once ns) n) → Contains (m ∷ filter (λ k. not (same_finding k m)) (each_once ns)) n
    by true f d s r = subst (Contains (m ∷ filter (λ k. not (same_finding k m)) (each_once ns))) (sym (d.0 refl)) (contains_here m (filter (λ k. not (same_finding k m)) (each_once ns)))
    by false f d (inl e) r = let q : false ≡ true = d.1 (sym e) in cc
    by false f d (inr s) r = contains_later m n (filter (λ k. not (same_finding k m)) (each_once ns)) (to_passing (λ k. not (same_finding k m)) (each_once ns) n (r s) (ap not f))

-- ---- gathered one after the other
-- findings, and those after them that are not among them
abbrev pub more : List Finding → List Finding → List Finding
more seen ns = seen ++ filter (λ m. not (list_any (same_finding m) seen)) (each_once ns)

passes_all : (xs : List Finding) → filter (λ m. true) xs ≡ xs
passes_all [] = refl
passes_all (x ∷ xs) = ap (λ ys. x ∷ ys) (passes_all xs)

none_before : (ns : List Finding) → more [] ns ≡ each_once ns
none_before ns = passes_all (each_once ns)

none_after : (seen : List Finding) → more seen [] ≡ seen
none_after seen = append-nil seen

-- one test after the other
passes_both : (p q r : Finding → Bool) → ((x : Finding) → (p x && q x) ≡ r x) → (xs : List Finding) → filter q (filter p xs) ≡ filter r xs
passes_both p q r h [] = refl
passes_both p q r h (x ∷ xs) = by (p x) (r x) (h x) (passes_both p q r h xs)
  where
    inner : (t w : Bool) → t ≡ w → filter q (filter p xs) ≡ filter r xs → cond t (x ∷ filter q (filter p xs)) (filter q (filter p xs)) ≡ cond w (x ∷ filter r xs) (filter r xs)
    inner true w e rest = ap (λ ys. x ∷ ys) rest ∙ ap (λ b. cond b (x ∷ filter r xs) (filter r xs)) e
    inner false w e rest = rest ∙ ap (λ b. cond b (x ∷ filter r xs) (filter r xs)) e

    by : (s w : Bool) → (s && q x) ≡ w → filter q (filter p xs) ≡ filter r xs → filter q (cond s (x ∷ filter p xs) (filter p xs)) ≡ cond w (x ∷ filter r xs) (filter r xs)
    by true w e rest = inner (q x) w e rest
    by false w e rest = rest ∙ ap (λ b. cond b (x ∷ filter r xs) (filter r xs)) e

next_finding : (seen : List Finding) (n : Finding) (ns : List Finding) → more seen (n ∷ ns) ≡ more (with_finding seen n) ns
next_finding seen n ns = by (list_any (same_finding n) seen) refl
  where
    new : Finding → Bool
    new m = not (list_any (same_finding m) seen)

    again : list_any (same_finding n) seen ≡ true → (m : Finding) → new m ≡ true → not (same_finding m n) ≡ true
    again h m e = at (same_finding m n) refl (findings_decide m n)
      where
        at : (t : Bool) → same_finding m n ≡ t → ((t ≡ true → m ≡ n) × (m ≡ n → t ≡ true)) → not t ≡ true
        at false f d = refl
        at true f d = let g : list_any (same_finding m) seen ≡ true = subst (λ k. list_any (same_finding k) seen ≡ true) (sym (d.0 refl)) h in sym (ap not g) ∙ e

    by : (t : Bool) → list_any (same_finding n) seen ≡ t → seen ++ cond (not t) (n ∷ filter new (filter (λ m. not (same_finding m n)) (each_once ns))) (filter new (filter (λ m. not (same_finding m n)) (each_once ns))) ≡ more (if t then seen else seen ++ n ∷ []) ns
    by true h = ap (λ ms. seen ++ ms) (passes_both (λ m. not (same_finding m n)) new new (λ m. and_right (not (same_finding m n)) (new m) (again h m)) (each_once ns))
    by false h =
        ap (λ ms. seen ++ n ∷ ms)
        (passes_both (λ m. not (same_finding m n)) new (λ m. not (list_any (same_finding m) (seen ++ n ∷ [])))
        (λ m. not_both (same_finding m n) (list_any (same_finding m) seen) ∙ ap not (sym (list_any-append (same_finding m) seen (n ∷ []) ∙ ap (λ t. list_any (same_finding m) seen || t) (or-false (same_finding m n))))) (each_once ns))
        ∙ sym (append_assoc seen (n ∷ []) (filter (λ m. not (list_any (same_finding m) (seen ++ n ∷ []))) (each_once ns)))

-- ---- findings of the code
pub view_push : (xs : List code.Finding) (x : code.Finding) → findings_view (xs ++ x ∷ []) ≡ findings_view xs ++ finding_view x ∷ []
view_push [] x = refl
view_push (y ∷ xs) x = ap (λ fs. finding_view y ∷ fs) (view_push xs x)

pub view_append : (xs ys : List code.Finding) → findings_view (xs ++ ys) ≡ findings_view xs ++ findings_view ys
view_append [] ys = refl
view_append (x ∷ xs) ys = ap (λ fs. finding_view x ∷ fs) (view_append xs ys)

pub seen_with : (seen : List code.Finding) (key : code.Finding) → findings_view (if list_any (finding_eq key) seen then seen else seen ++ key ∷ []) ≡ with_finding (findings_view seen) (finding_view key)
seen_with seen key = by (list_any (finding_eq key) seen) (list_any (same_finding (finding_view key)) (findings_view seen)) (same seen)
  where
    same : (ks : List code.Finding) → list_any (finding_eq key) ks ≡ list_any (same_finding (finding_view key)) (findings_view ks)
    same [] = refl
    same (k ∷ ks) = ap (λ t. t || list_any (finding_eq key) ks) (finding_test key k) ∙ ap (λ t. same_finding (finding_view key) (finding_view k) || t) (same ks)

    by : (s t : Bool) → s ≡ t → findings_view (if s then seen else seen ++ key ∷ []) ≡ (if t then findings_view seen else findings_view seen ++ finding_view key ∷ [])
    by true t e = ap (λ b. if b then findings_view seen else findings_view seen ++ finding_view key ∷ []) e
    by false t e = view_push seen key ∙ ap (λ b. if b then findings_view seen else findings_view seen ++ finding_view key ∷ []) e

module _ (xs : List code.Finding) where
  pub none_gathered : (none : List code.Finding) → none ≡ [] → more (findings_view none) (findings_view xs) ≡ each_once (findings_view xs)
  none_gathered none e = ap (λ ks. more (findings_view ks) (findings_view xs)) e ∙ none_before (findings_view xs)

  pub next_gathered : (i : ℕ) (x d : code.Finding) (seen now : List code.Finding) (z : List Finding) → i < length xs → x ≡ get_or xs i d → findings_view now ≡ with_finding (findings_view seen) (finding_view x)
      → more (findings_view seen) (findings_view (drop i xs)) ≡ z → more (findings_view now) (findings_view (drop (i + 1) xs)) ≡ z
  next_gathered i x d seen now z l is e so =
      ap (λ ns. more ns (findings_view (drop (i + 1) xs))) e
      ∙ (sym (next_finding (findings_view seen) (finding_view x) (findings_view (drop (i + 1) xs))) ∙ (ap (λ ys. more (findings_view seen) (findings_view ys)) here ∙ so))
    where
      here : x ∷ drop (i + 1) xs ≡ drop i xs
      here = rw add-one (ap (λ y. y ∷ drop (suc i) xs) is ∙ sym (drop-cons xs i d l))

  pub all_gathered : (i : ℕ) (seen : List code.Finding) (z : List Finding) → length xs ≤ i → more (findings_view seen) (findings_view (drop i xs)) ≡ z → findings_view seen ≡ z
  all_gathered i seen z l so = sym (none_after (findings_view seen)) ∙ (ap (λ ys. more (findings_view seen) (findings_view ys)) (sym (drop_all i xs l)) ∙ so)
