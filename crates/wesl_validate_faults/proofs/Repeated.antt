-- The names that stand again are those that stand twice.
use Rattle.std.proofs.Common.{◌≡◌, ◌⊎◌, ℕ, zero, suc, ◌<◌, ◌≤◌, ◌+◌, ◌||◌, Bool, true, false, not, List, [], ◌∷◌, ◌++◌, length, get_or, map, drop, drop-cons, add-one, refl, sym, ap, ◌∙◌, subst, inl, inr, arith, append_assoc}
use Rattle.std.specs.Prelude.{bytes_eq, if◌then◌else◌}
use Rattle.std.specs.List.{Contains, list_any}
use Rattle.std.proofs.lemmas.Slice.Eq.{bytes_eq-Decides}
use Rattle.std.proofs.lemmas.List.Elements.{Contains-append_cases, Contains-append_left, Contains-push}
use Rattle.std.proofs.lemmas.List.{append-nil, drop_all}
use denote.Ref.{Bor}
use Rattle.wesl_tree_base.specs.Borrowed.{texts}
use Rattle.wesl_tree_names.specs.Path.{Text}
use Rattle.wesl_tree_interner.specs.Interned.{with_text}
use Rattle.wesl_validate_rules.proofs.Twice.{among}
use Rattle.wesl_validate_rules.specs.Twice.{StandsTwice}
use Rattle.wesl_validate_faults.specs.Findings.{Finding, duplicate}
use Rattle.wesl_validate_faults.specs.Listed.{repeated_after}
use Rattle.wesl_scope_strip.proofs.Keeping.{contains_cases, contains_here, contains_later, contains_none}

is_there : (xs : List Text) (n : Text) → Contains xs n → list_any (bytes_eq n) xs ≡ true
is_there [] n c = absurd (contains_none n c)
is_there (x ∷ xs) n c = by (bytes_eq n x) (bytes_eq-Decides n x) (contains_cases x n xs c) (is_there xs n)
  where
    by : (t : Bool) → ((t ≡ true → n ≡ x) × (n ≡ x → t ≡ true)) → (x ≡ n) ⊎ Contains xs n → (Contains xs n → list_any (bytes_eq n) xs ≡ true) → (t || list_any (bytes_eq n) xs) ≡ true
    by true d s r = refl
    by false d (inl e) r = let q : false ≡ true = d.1 (sym e) in cc
    by false d (inr k) r = r k

-- a name stands before and again, or twice
abbrev Again : List Text → List Text → Text → Type 0
Again before ns n = (Contains before n × Contains ns n) ⊎ StandsTwice ns n

at_place : (ns : List Text) (n : Text) → Contains ns n → (i : ℕ) × (i < length ns) × (get_or ns i [] ≡ n)
at_place [] n c = absurd (contains_none n c)
at_place (m ∷ ns) n c = by (contains_cases m n ns c) (at_place ns n)
  where
    by : (m ≡ n) ⊎ Contains ns n → (Contains ns n → (i : ℕ) × (i < length ns) × (get_or ns i [] ≡ n)) → (i : ℕ) × (i < length (m ∷ ns)) × (get_or (m ∷ ns) i [] ≡ n)
    by (inl e) r = (0, omega arith, e)
    by (inr d) r = let s = r d in (suc s.0, omega (arith, s.1), s.2)

of_place : (ns : List Text) (n : Text) (i : ℕ) → i < length ns → get_or ns i [] ≡ n → Contains ns n
of_place [] n i l e = absurd (omega (arith, l))
of_place (m ∷ ns) n zero l e = subst (Contains (m ∷ ns)) e (contains_here m ns)
of_place (m ∷ ns) n (suc i) l e = contains_later m n ns (of_place ns n i (omega (arith, l)) e)

twice_here : (m n : Text) (ns : List Text) → m ≡ n → Contains ns n → StandsTwice (m ∷ ns) n
twice_here m n ns e c = let p = at_place ns n c in record { first = 0; second = suc p.0; before = omega arith; inside = omega (arith, p.1); named = e; again = p.2 }

twice_later : (m n : Text) (ns : List Text) → StandsTwice ns n → StandsTwice (m ∷ ns) n
twice_later m n ns t = record { first = suc t.first; second = suc t.second; before = omega (arith, t.before); inside = omega (arith, t.inside); named = t.named; again = t.again }

twice_cases : (m n : Text) (ns : List Text) → StandsTwice (m ∷ ns) n → ((m ≡ n) × Contains ns n) ⊎ StandsTwice ns n
twice_cases m n ns t = by t.first t.second t.before t.inside t.named t.again
  where
    by : (i j : ℕ) → i < j → j < length (m ∷ ns) → get_or (m ∷ ns) i [] ≡ n → get_or (m ∷ ns) j [] ≡ n → ((m ≡ n) × Contains ns n) ⊎ StandsTwice ns n
    by zero zero l k e f = absurd (omega (arith, l))
    by zero (suc j) l k e f = inl (e, of_place ns n j (omega (arith, k)) f)
    by (suc i) zero l k e f = absurd (omega (arith, l))
    by (suc i) (suc j) l k e f = inr (record { first = i; second = j; before = omega (arith, l); inside = omega (arith, k); named = e; again = f })

among_is : (xs : List Text) (n : Text) → list_any (bytes_eq n) xs ≡ true → Contains xs n
among_is xs n h =
    let p = among xs n h in
    of_place xs n p.0 p.1 p.2

one_is : (x m : Text) → Contains (x ∷ []) m → x ≡ m
one_is x m (zero, l, e) = e
one_is x m (suc k, l, e) = absurd (omega (arith, l))

-- what comes again in a list, after a first name
again_next : (before ns : List Text) (m n : Text) → Again before ns n → Again before (m ∷ ns) n
again_next before ns m n (inl k) = inl (k.0, contains_later m n ns k.1)
again_next before ns m n (inr t) = inr (twice_later m n ns t)

again_after : (before ns : List Text) (m n : Text) → Again (before ++ m ∷ []) ns n → Again before (m ∷ ns) n
again_after before ns m n (inl k) = by (Contains-append_cases before (m ∷ []) n k.0)
  where
    by : Contains before n ⊎ Contains (m ∷ []) n → Again before (m ∷ ns) n
    by (inl c) = inl (c, contains_later m n ns k.1)
    by (inr c) = inr (twice_here m n ns (one_is m n c) k.1)
again_after before ns m n (inr t) = inr (twice_later m n ns t)

pub of_repeated : (ns before : List Text) (n : Text) → Contains (repeated_after before ns) n → Again before ns n
of_repeated [] before n c = absurd (contains_none n c)
of_repeated (m ∷ ns) before n c = by (list_any (bytes_eq m) before) refl c (λ b d. of_repeated ns b n d)
  where
    first : list_any (bytes_eq m) before ≡ true → (m ≡ n) ⊎ Contains (repeated_after before ns) n → (Contains (repeated_after before ns) n → Again before ns n) → Again before (m ∷ ns) n
    first h (inl e) r = inl (subst (Contains before) e (among_is before m h), subst (Contains (m ∷ ns)) e (contains_here m ns))
    first h (inr k) r = again_next before ns m n (r k)

    by : (t : Bool) → list_any (bytes_eq m) before ≡ t → Contains (if t then m ∷ repeated_after before ns else repeated_after (before ++ m ∷ []) ns) n
        → ((b : List Text) → Contains (repeated_after b ns) n → Again b ns n) → Again before (m ∷ ns) n
    by false h d r = again_after before ns m n (r (before ++ m ∷ []) d)
    by true h d r = first h (contains_cases m n (repeated_after before ns) d) (r before)

-- the first name, or what comes again after it
again_cases : (before ns : List Text) (m n : Text) → Again before (m ∷ ns) n → ((m ≡ n) × Contains before n) ⊎ (((m ≡ n) × Contains ns n) ⊎ Again before ns n)
again_cases before ns m n (inl k) = at (contains_cases m n ns k.1)
  where
    at : (m ≡ n) ⊎ Contains ns n → ((m ≡ n) × Contains before n) ⊎ (((m ≡ n) × Contains ns n) ⊎ Again before ns n)
    at (inl e) = inl (e, k.0)
    at (inr d) = inr (inr (inl (k.0, d)))
again_cases before ns m n (inr t) = at (twice_cases m n ns t)
  where
    at : ((m ≡ n) × Contains ns n) ⊎ StandsTwice ns n → ((m ≡ n) × Contains before n) ⊎ (((m ≡ n) × Contains ns n) ⊎ Again before ns n)
    at (inl s) = inr (inl s)
    at (inr s) = inr (inr (inr s))

widened : (before ns : List Text) (m n : Text) → Again before ns n → Again (before ++ m ∷ []) ns n
widened before ns m n (inl k) = inl (Contains-append_left before (m ∷ []) n k.0, k.1)
widened before ns m n (inr t) = inr t

not_both : (t : Bool) → t ≡ true → t ≡ false → ⊥
not_both t e f = cc

pub to_repeated : (ns before : List Text) (n : Text) → Again before ns n → Contains (repeated_after before ns) n
to_repeated [] before n (inl k) = absurd (contains_none n k.1)
to_repeated [] before n (inr t) = absurd (let l : t.second < 0 = t.inside in omega (arith, l))
to_repeated (m ∷ ns) before n a = by (list_any (bytes_eq m) before) refl (again_cases before ns m n a) (λ b d. to_repeated ns b n d)
  where
    by : (t : Bool) → list_any (bytes_eq m) before ≡ t → ((m ≡ n) × Contains before n) ⊎ (((m ≡ n) × Contains ns n) ⊎ Again before ns n)
        → ((b : List Text) → Again b ns n → Contains (repeated_after b ns) n) → Contains (if t then m ∷ repeated_after before ns else repeated_after (before ++ m ∷ []) ns) n
    by true h (inl s) r = subst (Contains (m ∷ repeated_after before ns)) s.0 (contains_here m (repeated_after before ns))
    by true h (inr (inl s)) r = subst (Contains (m ∷ repeated_after before ns)) s.0 (contains_here m (repeated_after before ns))
    by true h (inr (inr s)) r = contains_later m n (repeated_after before ns) (r before s)
    by false h (inl s) r = absurd (not_both (list_any (bytes_eq m) before) (is_there before m (subst (Contains before) (sym s.0) s.1)) h)
    by false h (inr (inl s)) r = r (before ++ m ∷ []) (inl (subst (Contains (before ++ m ∷ [])) s.0 (Contains-push before m), s.1))
    by false h (inr (inr s)) r = r (before ++ m ∷ []) (widened before ns m n s)

-- ---- gathered one after the other
abbrev pub here_again : List Text → Text → List Finding
here_again seen n = if list_any (bytes_eq n) seen then duplicate n ∷ [] else []

next_again : (seen : List Text) (n : Text) (ns : List Text) → map duplicate (repeated_after seen (n ∷ ns)) ≡ here_again seen n ++ map duplicate (repeated_after (with_text seen n) ns)
next_again seen n ns = by (list_any (bytes_eq n) seen)
  where
    by : (t : Bool) → map duplicate (if t then n ∷ repeated_after seen ns else repeated_after (seen ++ n ∷ []) ns) ≡ (if t then duplicate n ∷ [] else []) ++ map duplicate (repeated_after (if t then seen else seen ++ n ∷ []) ns)
    by true = refl
    by false = refl

module _ (name : ℕ → Text) (numbers : List ℕ) where
  pub next_repeated : (i x : ℕ) (seen now : List Text) (old new z : List Finding) → i < length numbers → x ≡ get_or numbers i 0 → now ≡ with_text seen (name x) → new ≡ old ++ here_again seen (name x)
      → old ++ map duplicate (repeated_after seen (map name (drop i numbers))) ≡ z → new ++ map duplicate (repeated_after now (map name (drop (i + 1) numbers))) ≡ z
  next_repeated i x seen now old new z l is e added so =
      let rest = map name (drop (i + 1) numbers) in
      ap (λ fs. fs ++ map duplicate (repeated_after now rest)) added
      ∙ (append_assoc old (here_again seen (name x)) (map duplicate (repeated_after now rest))
      ∙ (ap (λ ns. old ++ (here_again seen (name x) ++ map duplicate (repeated_after ns rest))) e
      ∙ (ap (λ fs. old ++ fs) (sym (next_again seen (name x) rest))
      ∙ (ap (λ ms. old ++ map duplicate (repeated_after seen (map name ms))) here ∙ so))))
    where
      here : x ∷ drop (i + 1) numbers ≡ drop i numbers
      here = rw add-one (ap (λ y. y ∷ drop (suc i) numbers) is ∙ sym (drop-cons numbers i 0 l))

  pub all_repeated : (i : ℕ) (seen : List Text) (old z : List Finding) → length numbers ≤ i → old ++ map duplicate (repeated_after seen (map name (drop i numbers))) ≡ z → old ≡ z
  all_repeated i seen old z l so = sym (append-nil old) ∙ (ap (λ ms. old ++ map duplicate (repeated_after seen (map name ms))) (sym (drop_all i numbers l)) ∙ so)

-- ---- names that were seen
pub any_texts : (n : Text) (ks : List (Bor Text)) → list_any (λ k. bytes_eq n k.now) ks ≡ list_any (bytes_eq n) (texts ks)
any_texts n [] = refl
any_texts n (k ∷ ks) = ap (λ t. bytes_eq n k.now || t) (any_texts n ks)

pub seen_again : (t s : Bool) → t ≡ not s → t ≡ false → s ≡ true
seen_again t true e f = refl
seen_again t false e f = cc

pub seen_first : (t s : Bool) → t ≡ not s → t ≡ true → s ≡ false
seen_first t true e f = cc
seen_first t false e f = refl
