-- Steps of the loops: a binder more, a meaning more, an identifier more.
use Rattle.std.proofs.Common.{◌≡◌, ◌⊎◌, inl, inr, ℕ, zero, suc, ◌+◌, ◌<◌, ◌≤◌, Bool, true, false, cond, set, List, [], ◌∷◌, ◌++◌, length, get_or, map, replicate, drop, drop-cons, add-one, refl, sym, ap, ap₂, ◌∙◌, subst, arith, append_assoc, Vec, Global}
use Rattle.std.specs.Prelude.{not, ◌&&◌, ◌==◌, nat_le, Option, Some, None, if◌then◌else◌}
use Rattle.std.specs.List.{All, find, cons_option}
use Rattle.std.specs.Option.{is_some, option_map, option_or, option_to_list}
use Rattle.std.proofs.Math.Dec.{leb}
use Rattle.std.proofs.lemmas.Bool.Decides.{Decides-eqb, leb_tells}
use Rattle.std.proofs.lemmas.List.{append-nil, drop_all, get_or-set_same, get_or-set_other}
use Rattle.std.proofs.lemmas.List.Folds.{find-append}
use Rattle.wesl_tree_names.specs.Path.{Text}
use Rattle.wesl_scope_occurrences.specs.Walk.{Found}
use Rattle.wesl_scope_strip.specs.Marks.{mark_at}
use Rattle.wesl_scope_clashes.specs.declared.clash.Binder.{Binder}
use Rattle.wesl_scope_clashes.specs.declared.sightings.Sighting.{Sighting}
use Rattle.wesl_scope_clashes.specs.Clashes.{ClashOf, binder_at}
use Rattle.wesl_scope_clashes.specs.Sightings.{differs, is_met, first_of, Groups, groups_view, first_in, if_met, is_seen, in_module, is_declared, one_met, first_met}
use Rattle.wesl_scope_clashes.specs.ByMeaning.{Look, reading_by, clash_by, clashes_by}
use Rattle.std.proofs.lemmas.Bool.{and_from, and_parts}

-- ---- the first of several binders
or_none : {X : Type 0} (o : Option X) → option_or o None ≡ o
or_none None = refl
or_none (Some x) = refl

or_assoc : {X : Type 0} (a b c : Option X) → option_or (option_or a b) c ≡ option_or a (option_or b c)
or_assoc None b c = refl
or_assoc (Some x) b c = refl

map_or : {X Y : Type 0} (f : X → Y) (a b : Option X) → option_map f (option_or a b) ≡ option_or (option_map f a) (option_map f b)
map_or f None b = refl
map_or f (Some x) b = refl

met_one : (p : ℕ) (x : Option ℕ) (s : Sighting) → first_of p x (s ∷ []) ≡ (if is_met p x s then Some s.binder else None)
met_one p x s = by (is_met p x s)
  where
    by : (t : Bool) → option_map (λ r. r.binder) (cond t (Some s) None) ≡ (if t then Some s.binder else None)
    by true = refl
    by false = refl

pub first_after : (p : ℕ) (x : Option ℕ) (ss : List Sighting) (s : Sighting) → first_of p x (ss ++ s ∷ []) ≡ option_or (first_of p x ss) (if is_met p x s then Some s.binder else None)
first_after p x ss s =
    ap (option_map (λ r. r.binder)) (find-append (is_met p x) ss (s ∷ []))
    ∙ (map_or (λ r. r.binder) (find (is_met p x) ss) (find (is_met p x) (s ∷ []))
    ∙ ap (option_or (first_of p x ss)) (met_one p x s))

-- the next one
pub first_here : (p : ℕ) (x : Option ℕ) (ss : List Sighting) (i : ℕ) (d : Sighting) → i < length ss → is_met p x (get_or ss i d) ≡ true → first_of p x (drop i ss) ≡ Some (get_or ss i d).binder
first_here p x [] i d h e = absurd (omega (arith, h))
first_here p x (s ∷ ss) zero d h e = ap (λ t. option_map (λ r. r.binder) (cond t (Some s) (find (is_met p x) ss))) e
first_here p x (s ∷ ss) (suc i) d h e = first_here p x ss i d (omega (arith, h)) e

pub first_later : (p : ℕ) (x : Option ℕ) (ss : List Sighting) (i : ℕ) (d : Sighting) → i < length ss → is_met p x (get_or ss i d) ≡ false → first_of p x (drop i ss) ≡ first_of p x (drop (suc i) ss)
first_later p x [] i d h e = absurd (omega (arith, h))
first_later p x (s ∷ ss) zero d h e = ap (λ t. option_map (λ r. r.binder) (cond t (Some s) (find (is_met p x) ss))) e
first_later p x (s ∷ ss) (suc i) d h e = first_later p x ss i d (omega (arith, h)) e

-- ---- binders that are never the first
-- what is found passes
found_met : {X : Type 0} (p : X → Bool) (xs : List X) (x : X) → find p xs ≡ Some x → p x ≡ true
found_met p [] x e = cc
found_met p (y ∷ xs) x e = by (p y) refl e (found_met p xs x)
  where
    by : (t : Bool) → p y ≡ t → cond t (Some y) (find p xs) ≡ Some x → (find p xs ≡ Some x → p x ≡ true) → p x ≡ true
    by true h f r = let z : y ≡ x = cc in subst (λ q. p q ≡ true) z h
    by false h f r = r f

-- where what one test finds passes another, that finds something
data Found_some {X : Type 0} (o : Option X) : Type 0 where
  something : (x : X) → o ≡ Some x → Found_some o

passes_too : {X : Type 0} (p q : X → Bool) (xs : List X) (x : X) → find p xs ≡ Some x → q x ≡ true → Found_some (find q xs)
passes_too p q [] x e h = absurd (let z : ⊥ = cc in z)
passes_too p q (y ∷ xs) x e h = by (p y) (q y) refl refl e (λ f. passes_too p q xs x f h)
  where
    by : (s t : Bool) → p y ≡ s → q y ≡ t → cond s (Some y) (find p xs) ≡ Some x → (find p xs ≡ Some x → Found_some (find q xs)) → Found_some (cond t (Some y) (find q xs))
    by s true f g k r = something y refl
    by true false f g k r = absurd (let z : y ≡ x = cc in let w : false ≡ true = sym g ∙ (ap q z ∙ h) in let v : ⊥ = cc in v)
    by false false f g k r = r k

le_through : (a b c : ℕ) → nat_le a b ≡ true → nat_le b c ≡ true → nat_le a c ≡ true
le_through a b c e f = by (leb_tells a b) (leb_tells b c) (leb_tells a c)
  where
    by : ((leb a b ≡ true) × (a ≤ b)) ⊎ ((leb a b ≡ false) × (b < a)) → ((leb b c ≡ true) × (b ≤ c)) ⊎ ((leb b c ≡ false) × (c < b)) → ((leb a c ≡ true) × (a ≤ c)) ⊎ ((leb a c ≡ false) × (c < a)) → nat_le a c ≡ true
    by x y (inl z) = z.0
    by (inl x) (inl y) (inr z) = let p : a ≤ b = x.1 in let q : b ≤ c = y.1 in let r : c < a = z.1 in absurd (omega arith)
    by (inr x) y (inr z) = let p : leb a b ≡ false = x.0 in let q : leb a b ≡ true = e in absurd (let w : ⊥ = cc in w)
    by (inl x) (inr y) (inr z) = let p : leb b c ≡ false = y.0 in let q : leb b c ≡ true = f in absurd (let w : ⊥ = cc in w)

unmapped : {X Y : Type 0} (f : X → Y) (o : Option X) (y : Y) → option_map f o ≡ Some y → (x : X) × ((o ≡ Some x) × (f x ≡ y))
unmapped f None y e = absurd (let z : ⊥ = cc in z)
unmapped f (Some x) y e = (x, (refl, let z : f x ≡ y = cc in z))

other_again : (a b m : ℕ) → a ≡ b → not (b == m) ≡ true → not (a == m) ≡ true
other_again a b m e f = ap (λ n. not (n == m)) e ∙ f

module _ (before : List Sighting) (next : Sighting) where
  -- a binder before it that is there as soon as it is, and is not excepted
  stands_for : (p q : ℕ) (x y : Option ℕ) (s : Sighting) → find (is_met q y) before ≡ Some s → nat_le s.from p ≡ true → differs x s.binder.ident.0 ≡ true → Found_some (find (is_met p x) before)
  stands_for p q x y s e f g = passes_too (is_met q y) (is_met p x) before s e (and_from (nat_le s.from p) (differs x s.binder.ident.0) f g)

  module _ (s : Sighting) (first_is : find (is_met next.from None) before ≡ Some s) (p : ℕ) (later : nat_le next.from p ≡ true) where
    there : nat_le s.from p ≡ true
    there = le_through s.from next.from p (and_parts (nat_le s.from next.from) true (found_met (is_met next.from None) before s first_is)).0 later

    covered : (x : Option ℕ) → differs x next.binder.ident.0 ≡ true
        → (s.binder.ident.0 ≡ next.binder.ident.0) ⊎ ((t : Sighting) × (find (is_met next.from (Some s.binder.ident.0)) before ≡ Some t))
        → Found_some (find (is_met p x) before)
    covered None d c = stands_for p next.from None None s first_is there refl
    covered (Some m) d (inl e) = stands_for p next.from (Some m) None s first_is there (other_again s.binder.ident.0 next.binder.ident.0 m e d)
    covered (Some m) d (inr (t, e)) = by (s.binder.ident.0 == m) refl (Decides-eqb s.binder.ident.0 m)
      where
        by : (b : Bool) → (s.binder.ident.0 == m) ≡ b → ((s.binder.ident.0 == m) ≡ true → s.binder.ident.0 ≡ m) × (s.binder.ident.0 ≡ m → (s.binder.ident.0 == m) ≡ true) → Found_some (find (is_met p (Some m)) before)
        by false f k = stands_for p next.from (Some m) None s first_is there (ap not f)
        by true f k =
            let met = and_parts (nat_le t.from next.from) (not (t.binder.ident.0 == s.binder.ident.0)) (found_met (is_met next.from (Some s.binder.ident.0)) before t e) in
            stands_for p next.from (Some m) (Some s.binder.ident.0) t e (le_through t.from next.from p met.0 later) (subst (λ n. not (t.binder.ident.0 == n) ≡ true) (k.0 f) met.1)

  pub never_first : (b : Binder) → first_of next.from None before ≡ Some b
      → (b.ident.0 ≡ next.binder.ident.0) ⊎ ((c : Binder) × (first_of next.from (Some b.ident.0) before ≡ Some c))
      → (p : ℕ) (x : Option ℕ) → first_of p x (before ++ next ∷ []) ≡ first_of p x before
  never_first b e c p x = first_after p x before next ∙ by (nat_le next.from p) (differs x next.binder.ident.0) refl refl
    where
      s : (r : Sighting) × ((find (is_met next.from None) before ≡ Some r) × (r.binder ≡ b))
      s = unmapped (λ r. r.binder) (find (is_met next.from None) before) b e

      so : (b.ident.0 ≡ next.binder.ident.0) ⊎ ((d : Binder) × (first_of next.from (Some b.ident.0) before ≡ Some d)) → (s.0.binder.ident.0 ≡ next.binder.ident.0) ⊎ ((t : Sighting) × (find (is_met next.from (Some s.0.binder.ident.0)) before ≡ Some t))
      so (inl f) = inl (ap (λ d. d.ident.0) s.1.1 ∙ f)
      so (inr (d, f)) =
          let t = unmapped (λ r. r.binder) (find (is_met next.from (Some b.ident.0)) before) d f in
          inr (t.0, subst (λ a. find (is_met next.from (Some a.ident.0)) before ≡ Some t.0) (sym s.1.1) t.1.0)

      kept : (o : Option Sighting) (r : Option Binder) → Found_some o → option_or (option_map (λ q. q.binder) o) r ≡ option_map (λ q. q.binder) o
      kept o r (something q f) = ap (λ u. option_or (option_map (λ z. z.binder) u) r) f ∙ ap (option_map (λ z. z.binder)) (sym f)

      by : (l d : Bool) → nat_le next.from p ≡ l → differs x next.binder.ident.0 ≡ d → option_or (first_of p x before) (if l && d then Some next.binder else None) ≡ first_of p x before
      by false d f g = or_none (first_of p x before)
      by true false f g = or_none (first_of p x before)
      by true true f g = kept (find (is_met p x) before) (Some next.binder) (covered s.0 s.1.0 p f x g (so c))

pub found_some : (o q : Option Binder) → is_some o ≡ true → o ≡ q → (b : Binder) × (q ≡ Some b)
found_some None q e f = absurd (let z : ⊥ = cc in z)
found_some (Some b) q e f = (b, sym f)

-- ---- binders by meanings
view_set : (of : List (Vec Sighting Global)) (n : ℕ) (v : Vec Sighting Global) → groups_view (set of n v) ≡ set (groups_view of) n v.items
view_set [] n v = refl
view_set (w ∷ of) zero v = refl
view_set (w ∷ of) (suc n) v = ap (λ g. w.items ∷ g) (view_set of n v)

items_at : (of : List (Vec Sighting Global)) (n : ℕ) (v : Vec Sighting Global) → n < length of → v ≡ get_or of n v → v.items ≡ get_or (groups_view of) n []
items_at [] n v h e = absurd (omega (arith, h))
items_at (w ∷ of) zero v h e = ap (λ x. x.items) e
items_at (w ∷ of) (suc n) v h e = items_at of n v (omega (arith, h)) e

length_view : (of : List (Vec Sighting Global)) → length (groups_view of) ≡ length of
length_view [] = refl
length_view (v ∷ of) = ap suc (length_view of)

pushed : (g : Groups) (n k p : ℕ) (x : Option ℕ) (ss : List Sighting) (s : Sighting) → n < length g → first_of p x ss ≡ first_of p x (get_or g n [] ++ s ∷ []) → first_in (set g n ss) k p x ≡ option_or (first_in g k p x) (if_met k p x n s)
pushed g n k p x ss s h e = at (n == k) (Decides-eqb n k)
  where
    at : (t : Bool) → ((t ≡ true → n ≡ k) × (n ≡ k → t ≡ true)) → first_in (set g n ss) k p x ≡ option_or (first_in g k p x) (if t && is_met p x s then Some s.binder else None)
    at true d =
        subst (λ i. first_in (set g n ss) i p x ≡ option_or (first_in g i p x) (if is_met p x s then Some s.binder else None)) (d.0 refl)
        (ap (first_of p x) (get_or-set_same g n ss [] h) ∙ (e ∙ first_after p x (get_or g n []) s))
    at false d = ap (first_of p x) (get_or-set_other g n k ss [] (λ q. no (d.1 (sym q)))) ∙ sym (or_none (first_in g k p x))
      where
        no : false ≡ true → ⊥
        no f = cc

pub added_in : (of : List (Vec Sighting Global)) (n : ℕ) (v w : Vec Sighting Global) (s : Sighting) → n < length of → v ≡ get_or of n v → ((p : ℕ) (x : Option ℕ) → first_of p x w.items ≡ first_of p x (v.items ++ s ∷ []))
    → (k p : ℕ) (x : Option ℕ) → first_in (groups_view (set of n w)) k p x ≡ option_or (first_in (groups_view of) k p x) (if_met k p x n s)
added_in of n v w s h e f k p x =
    ap (λ g. first_in g k p x) (view_set of n w)
    ∙ pushed (groups_view of) n k p x w.items s (subst (λ m. n < m) (sym (length_view of)) h) (f p x ∙ ap (λ ss. first_of p x (ss ++ s ∷ [])) (items_at of n v h e))

-- an identifier as a binder
abbrev sighted : ℕ → ℕ → Option ℕ → ℕ → Binder → ℕ → Option Binder
sighted k p x n b f = if n == k && (nat_le f p && differs x b.ident.0) then Some b else None

never : (t d : Bool) (b : Binder) → (if t && (false && d) then Some b else None) ≡ None
never true d b = refl
never false d b = refl

pub seen_met : (o : Found) (s : Sighting) (from k p : ℕ) (x : Option ℕ) (n : ℕ) → s.binder ≡ binder_at o → s.from ≡ from → nat_le from p ≡ is_seen p o → if_met k p x n s ≡ one_met is_seen k p x n o
seen_met o s from k p x n e f g = ap₂ (λ b q. sighted k p x n b q) e f ∙ ap (λ t. if n == k && (t && differs x o.name) then Some (binder_at o) else None) g

pub unseen_met : (o : Found) (old : Option Binder) (k p : ℕ) (x : Option ℕ) (n : ℕ) → false ≡ is_seen p o → old ≡ option_or old (one_met is_seen k p x n o)
unseen_met o old k p x n e = sym (ap (option_or old) (ap (λ t. if n == k && (t && differs x o.name) then Some (binder_at o) else None) (sym e) ∙ never (n == k) (differs x o.name) (binder_at o)) ∙ or_none old)

pub declared_met : (o : Found) (s : Sighting) (k p : ℕ) (x : Option ℕ) (n : ℕ) → s.binder ≡ binder_at o → s.from ≡ o.place → in_module o ≡ true → if_met k p x n s ≡ one_met is_declared k p x n o
declared_met o s k p x n e f g = ap₂ (λ b q. sighted k p x n b q) e f ∙ ap (λ t. if n == k && ((t && nat_le o.place p) && differs x o.name) then Some (binder_at o) else None) (sym g)

pub undeclared_met : (o : Found) (old : Option Binder) (k p : ℕ) (x : Option ℕ) (n : ℕ) → in_module o ≡ false → old ≡ option_or old (one_met is_declared k p x n o)
undeclared_met o old k p x n e = sym (ap (option_or old) (ap (λ t. if n == k && ((t && nat_le o.place p) && differs x o.name) then Some (binder_at o) else None) e ∙ never (n == k) (differs x o.name) (binder_at o)) ∙ or_none old)

pub unset_at : (n m : ℕ) → mark_at (replicate n false) m ≡ false
unset_at zero m = refl
unset_at (suc n) zero = refl
unset_at (suc n) (suc m) = unset_at n m

-- ---- one identifier after the other, with its meaning
module _ {A : Type 0} (view : A → Found) (ns : List ℕ) (xs : List A) where
  next_met : (test : ℕ → Found → Bool) (k p : ℕ) (e : Option ℕ) (i n : ℕ) (x : A) → i < length ns → i < length xs → n ≡ get_or ns i 0 → x ≡ get_or xs i x
      → first_met test (drop i ns) (map view (drop i xs)) k p e ≡ option_or (one_met test k p e n (view x)) (first_met test (drop (i + 1) ns) (map view (drop (i + 1) xs)) k p e)
  next_met test k p e i n x hn hx n_is x_is = rw (drop-cons ns i 0 hn, drop-cons xs i x hx, ← n_is, ← x_is, add-one) refl

  pub more_met : (test : ℕ → Found → Bool) (k p : ℕ) (e : Option ℕ) (i n : ℕ) (x : A) (old new z : Option Binder) → i < length ns → i < length xs → n ≡ get_or ns i 0 → x ≡ get_or xs i x
      → new ≡ option_or old (one_met test k p e n (view x)) → option_or old (first_met test (drop i ns) (map view (drop i xs)) k p e) ≡ z
      → option_or new (first_met test (drop (i + 1) ns) (map view (drop (i + 1) xs)) k p e) ≡ z
  more_met test k p e i n x old new z hn hx n_is x_is s so =
      let rest = first_met test (drop (i + 1) ns) (map view (drop (i + 1) xs)) k p e in
      ap (λ o. option_or o rest) s ∙ (or_assoc old (one_met test k p e n (view x)) rest ∙ (ap (option_or old) (sym (next_met test k p e i n x hn hx n_is x_is)) ∙ so))

  pub all_met : (test : ℕ → Found → Bool) (k p : ℕ) (e : Option ℕ) (i : ℕ) (now z : Option Binder) → length ns ≤ i → length xs ≤ i → option_or now (first_met test (drop i ns) (map view (drop i xs)) k p e) ≡ z → now ≡ z
  all_met test k p e i now z hn hx so =
      sym (or_none now) ∙ (ap₂ (λ ms bs. option_or now (first_met test ms (map view bs) k p e)) (sym (drop_all i ns hn)) (sym (drop_all i xs hx)) ∙ so)

  module _ (visible earlier : Look) (is_bound : ℕ → Bool) (names : List Text) where
    abbrev from : ℕ → List ClashOf
    from i = clashes_by visible earlier is_bound names (drop i ns) (map view (drop i xs))

    next_clash : (i n : ℕ) (x : A) → i < length ns → i < length xs → n ≡ get_or ns i 0 → x ≡ get_or xs i x → from i ≡ cons_option (clash_by visible earlier is_bound names n (view x)) (from (i + 1))
    next_clash i n x hn hx n_is x_is = rw (drop-cons ns i 0 hn, drop-cons xs i x hx, ← n_is, ← x_is, add-one) refl

    cons_is : (o : Option ClashOf) (l : List ClashOf) → cons_option o l ≡ option_to_list o ++ l
    cons_is None l = refl
    cons_is (Some c) l = refl

    pub next_told : (i n : ℕ) (x : A) (told now z : List ClashOf) → i < length ns → i < length xs → n ≡ get_or ns i 0 → x ≡ get_or xs i x
        → now ≡ told ++ option_to_list (clash_by visible earlier is_bound names n (view x)) → told ++ from i ≡ z → now ++ from (i + 1) ≡ z
    next_told i n x told now z hn hx n_is x_is now_is so =
        let o = clash_by visible earlier is_bound names n (view x) in
        ap (λ l. l ++ from (i + 1)) now_is
        ∙ (append_assoc told (option_to_list o) (from (i + 1)) ∙ (ap (λ l. told ++ l) (sym (next_clash i n x hn hx n_is x_is ∙ cons_is o (from (i + 1)))) ∙ so))

    pub all_clashes : (i : ℕ) (told z : List ClashOf) → length ns ≤ i → length xs ≤ i → told ++ from i ≡ z → told ≡ z
    all_clashes i told z hn hx so =
        sym (append-nil told) ∙ (ap₂ (λ ms bs. told ++ clashes_by visible earlier is_bound names ms (map view bs)) (sym (drop_all i ns hn)) (sym (drop_all i xs hx)) ∙ so)

-- ---- the same by looks that agree
module _ (v w e f : Look) (b c : ℕ → Bool) (names : List Text) (same_visible : (k p : ℕ) (x : Option ℕ) → v k p x ≡ w k p x) (same_earlier : (k p : ℕ) (x : Option ℕ) → e k p x ≡ f k p x) (same_bound : (m : ℕ) → m < length names → b m ≡ c m) where
  same_reading : (k : ℕ) (o : Found) → o.name < length names → reading_by v e b k o ≡ reading_by w f c k o
  same_reading k o h = rw (same_visible k o.place None, same_visible k o.place (Some o.name), same_earlier k o.place (Some o.name), same_bound o.name h) refl

  pub same_clashes : (ns : List ℕ) (os : List Found) → All (λ o. o.name < length names) os → clashes_by v e b names ns os ≡ clashes_by w f c names ns os
  same_clashes [] os h = refl
  same_clashes (n ∷ ns) [] h = refl
  same_clashes (n ∷ ns) (o ∷ os) h =
      ap₂ cons_option (ap (option_map (λ r. record { place = o.place; name = get_or names o.name []; number = o.name; reading = r })) (same_reading n o (h 0 o (omega arith))))
      (same_clashes ns os (λ i d l. h (suc i) d (omega (arith, l))))
