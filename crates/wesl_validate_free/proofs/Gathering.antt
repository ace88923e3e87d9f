-- The names of those that pass, each once.
use Rattle.std.proofs.Common.{◌≡◌, ℕ, ◌<◌, ◌≤◌, ◌+◌, ◌++◌, ◌||◌, Bool, true, false, cond, List, [], ◌∷◌, length, get_or, map, drop, suc, drop-cons, add-one, refl, sym, ap, ◌∙◌, subst}
use Rattle.std.specs.Prelude.{◌↔◌, bytes_eq, if◌then◌else◌}
use Rattle.std.specs.List.{Contains, filter, list_any}
use denote.Ref.{Bor}
use Rattle.std.proofs.lemmas.List.{drop_all}
use Rattle.wesl_tree_base.specs.Borrowed.{texts}
use Rattle.wesl_tree_names.specs.Path.{Text}
use Rattle.wesl_tree_interner.specs.Interned.{with_text}
use Rattle.wesl_validate_rules.proofs.Finding.{from_mapped, to_mapped}
use Rattle.wesl_validate_free.specs.Free.{each_once}
use Rattle.wesl_validate_free.proofs.Once.{more, none_before, none_after, next_text, none_once, none_passes, passes_none, of_passing, to_passing, of_once, to_once}
use Rattle.wesl_scope_strip.proofs.Keeping.{contains_here, contains_later}

-- ---- texts that are borrowed
-- one of them goes last, unless its text is there
texts_with : (seen : List (Bor Text)) (key : Bor Text) → texts (if list_any (λ k. bytes_eq key.now k.now) seen then seen else seen ++ key ∷ []) ≡ with_text (texts seen) key.now
texts_with seen key = by (list_any (λ k. bytes_eq key.now k.now) seen) (list_any (bytes_eq key.now) (texts seen)) (same seen)
  where
    same : (ks : List (Bor Text)) → list_any (λ k. bytes_eq key.now k.now) ks ≡ list_any (bytes_eq key.now) (texts ks)
    same [] = refl
    same (k ∷ ks) = ap (λ t. bytes_eq key.now k.now || t) (same ks)

    pushed : (ks : List (Bor Text)) → texts (ks ++ key ∷ []) ≡ texts ks ++ key.now ∷ []
    pushed [] = refl
    pushed (k ∷ ks) = ap (λ ns. k.now ∷ ns) (pushed ks)

    by : (s t : Bool) → s ≡ t → texts (if s then seen else seen ++ key ∷ []) ≡ (if t then texts seen else texts seen ++ key.now ∷ [])
    by true t e = ap (λ b. if b then texts seen else texts seen ++ key.now ∷ []) e
    by false t e = pushed seen ∙ ap (λ b. if b then texts seen else texts seen ++ key.now ∷ []) e

pub one_added : (t : Bool) (seen now : List (Bor Text)) (key : Bor Text) (n : Text) → t ≡ true → key.now ≡ n → now ≡ (if list_any (λ k. bytes_eq key.now k.now) seen then seen else seen ++ key ∷ []) → texts now ≡ (if t then with_text (texts seen) n else texts seen)
one_added t seen now key n h k e = ap texts e ∙ (texts_with seen key ∙ (ap (with_text (texts seen)) k ∙ ap (λ b. if b then with_text (texts seen) n else texts seen) (sym h)))

pub none_added : (t : Bool) (seen : List (Bor Text)) (n : Text) → t ≡ false → texts seen ≡ (if t then with_text (texts seen) n else texts seen)
none_added t seen n h = ap (λ b. if b then with_text (texts seen) n else texts seen) (sym h)

-- ---- one after the other
module _ {A O : Type 0} (view : A → O) (p : O → Bool) (name : O → Text) (xs : List A) where
  abbrev left : ℕ → List Text
  left i = map name (filter p (map view (drop i xs)))

  next_is : (names : List Text) (o : O) (os : List O) → more names (map name (filter p (o ∷ os))) ≡ more (if p o then with_text names (name o) else names) (map name (filter p os))
  next_is names o os = by (p o)
    where
      by : (t : Bool) → more names (map name (cond t (o ∷ filter p os) (filter p os))) ≡ more (if t then with_text names (name o) else names) (map name (filter p os))
      by true = next_text names (name o) (map name (filter p os))
      by false = refl

  pub next_gathered : (i : ℕ) (x : A) (names new z : List Text) → i < length xs → x ≡ get_or xs i x → new ≡ (if p (view x) then with_text names (name (view x)) else names) → more names (left i) ≡ z → more new (left (i + 1)) ≡ z
  next_gathered i x names new z l is e so =
      ap (λ ns. more ns (left (i + 1))) e
      ∙ (sym (next_is names (view x) (map view (drop (i + 1) xs))) ∙ (ap (λ ys. more names (map name (filter p (map view ys)))) here ∙ so))
    where
      here : x ∷ drop (i + 1) xs ≡ drop i xs
      here = rw add-one (ap (λ y. y ∷ drop (suc i) xs) is ∙ sym (drop-cons xs i x l))

  pub all_gathered : (i : ℕ) (names z : List Text) → length xs ≤ i → more names (left i) ≡ z → names ≡ z
  all_gathered i names z l so = sym (none_after names) ∙ (ap (λ ys. more names (map name (filter p (map view ys)))) (sym (drop_all i xs l)) ∙ so)

  pub none_gathered : more [] (left 0) ≡ each_once (map name (filter p (map view xs)))
  none_gathered = none_before (map name (filter p (map view xs)))

-- ---- by another test that agrees
module _ {A B : Type 0} (f : A → B) (p : B → Bool) (q : A → Bool) (name : B → Text) (called : A → Text) (same_name : (x : A) → name (f x) ≡ called x) where
  pub same_names : (xs : List A) → ((x : A) → Contains xs x → p (f x) ≡ q x) → map name (filter p (map f xs)) ≡ map called (filter q xs)
  same_names [] h = refl
  same_names (x ∷ xs) h = by (p (f x)) (q x) (h x (contains_here x xs)) (same_names xs (λ y c. h y (contains_later x y xs c)))
    where
      by : (s t : Bool) → s ≡ t → map name (filter p (map f xs)) ≡ map called (filter q xs) → map name (cond s (f x ∷ filter p (map f xs)) (filter p (map f xs))) ≡ map called (cond t (x ∷ filter q xs) (filter q xs))
      by true t e rest = ap (λ n. n ∷ map name (filter p (map f xs))) (same_name x) ∙ (ap (λ ns. called x ∷ ns) rest ∙ ap (λ b. map called (cond b (x ∷ filter q xs) (filter q xs))) e)
      by false t e rest = rest ∙ ap (λ b. map called (cond b (x ∷ filter q xs) (filter q xs))) e

-- ---- what is among them
module _ {O : Type 0} (p : O → Bool) (name : O → Text) (os : List O) where
  none_mapped : (xs : List O) → map name xs ≡ [] → xs ≡ []
  none_mapped [] e = refl
  none_mapped (x ∷ xs) e = cc

  pub none_named : (each_once (map name (filter p os)) ≡ []) ↔ ((o : O) → Contains os o → p o ≡ false)
  none_named = (λ e. none_passes p os (none_mapped (filter p os) (none_once (map name (filter p os)) e)), λ d. ap (λ ps. each_once (map name ps)) (passes_none p os d))

  pub of_named : (n : Text) → Contains (each_once (map name (filter p os))) n → (o : O) × (Contains os o × ((p o ≡ true) × (name o ≡ n)))
  of_named n c =
      let s = from_mapped name (filter p os) n (of_once (map name (filter p os)) n c) in
      let t = of_passing p os s.0 s.1.0 in
      (s.0, (t.0, (t.1, s.1.1)))

  pub to_named : (n : Text) (o : O) → Contains os o → p o ≡ true → name o ≡ n → Contains (each_once (map name (filter p os))) n
  to_named n o c e f = to_once (map name (filter p os)) n (subst (Contains (map name (filter p os))) f (to_mapped name (filter p os) o (to_passing p os o c e)))
