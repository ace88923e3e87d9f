-- What the marks of a module's declarations reach is what is kept.
use Rattle.std.proofs.Common.{◌≡◌, ℕ, zero, suc, ◌<◌, Bool, true, false, not, ◌&&◌, ◌||◌, ◌==◌, cond, List, [], ◌∷◌, length, get_or, map, take, ◌++◌, refl, sym, ◌∙◌, ap, subst, arith, ◌⊎◌, inl, inr, ◌↔◌}
use Rattle.std.specs.Prelude.{Option, Some, None, bytes_eq}
use Rattle.std.specs.List.{list_any, filter, Contains, All}
use Rattle.std.proofs.lemmas.List.{get_or-take}
use Rattle.std.proofs.lemmas.List.Folds.{list_any_at}
use Rattle.std.proofs.lemmas.Bool.Decides.{Decides-eqb}
use Rattle.std.proofs.lemmas.Slice.Eq.{bytes_eq-Decides}
use Rattle.wesl_tree_names.specs.Path.{Text}
use Rattle.wesl_tree_syntax.specs.Tree.{Tree, forest_of, trees}
use Rattle.wesl_tree_syntax.specs.Unit.{UnitView, trees_of, name_in}
use Rattle.wesl_scope_occurrences.specs.Occurrences.{Block, Occurrence, occurrences, is_module_name, is_reference}
use Rattle.wesl_scope_occurrences.specs.Walk.{Found}
use Rattle.wesl_scope_occurrences.specs.Ways.{told}
use Rattle.wesl_scope_strip.specs.Declarations.{lies_in, count, declared_in, referred_in, IsKept, named, nameless, reached}
use Rattle.wesl_scope_strip.specs.Marks.{mark_at, has_name, names_here}
use Rattle.wesl_scope_strip.proofs.Reaching.{found, reached_node, Reached, kept_first, wanted_first, referred, declared}
use Rattle.wesl_scope_graph.specs.Graphs as graphs
use Rattle.wesl_scope_graph.specs.Graphs.{Graph, Leads}
use Rattle.wesl_scope_strip.specs.Steps.{IsStepOf}
use Rattle.wesl_scope_strip.proofs.Reaching as reaching
use Rattle.std.proofs.lemmas.Bool.{and_from, and_parts, or_right}

pub contains_here : {A : Type 0} (x : A) (xs : List A) → Contains (x ∷ xs) x
contains_here x xs = (0, omega arith, refl)

pub contains_later : {A : Type 0} (x m : A) (xs : List A) → Contains xs m → Contains (x ∷ xs) m
contains_later x m xs c = (suc c.0, omega (arith, c.1), c.2)

pub contains_none : {A : Type 0} (m : A) → Contains [] m → ⊥
contains_none m c = let l : c.0 < 0 = c.1 in omega arith

pub contains_cases : {A : Type 0} (x m : A) (xs : List A) → Contains (x ∷ xs) m → (x ≡ m) ⊎ Contains xs m
contains_cases x m xs (zero, l, e) = inl e
contains_cases x m xs (suc k, l, e) = inr (k, omega arith, e)

module _ {A : Type 0} (g : A → ℕ) (p : A → Bool) where
  abbrev test : ℕ → A → Bool
  test m x = p x && (g x == m)

  pub contains_any : (m : ℕ) (xs : List A) → Contains (map g (filter p xs)) m → list_any (test m) xs ≡ true
  contains_any m [] c = absurd (contains_none m c)
  contains_any m (x ∷ xs) c = by (p x) c (contains_any m xs)
    where
      here : (g x ≡ m) ⊎ Contains (map g (filter p xs)) m → (Contains (map g (filter p xs)) m → list_any (test m) xs ≡ true) → ((g x == m) || list_any (test m) xs) ≡ true
      here (inl e) r = let t : (g x == m) ≡ true = (Decides-eqb (g x) m).1 e in rw t refl
      here (inr d) r = or_right (g x == m) (list_any (test m) xs) (r d)

      by : (t : Bool) → Contains (map g (cond t (x ∷ filter p xs) (filter p xs))) m → (Contains (map g (filter p xs)) m → list_any (test m) xs ≡ true) → ((t && (g x == m)) || list_any (test m) xs) ≡ true
      by true c r = here (contains_cases (g x) m (map g (filter p xs)) c) r
      by false c r = r c

  pub any_contains : (m : ℕ) (xs : List A) → list_any (test m) xs ≡ true → Contains (map g (filter p xs)) m
  any_contains m [] h = cc
  any_contains m (x ∷ xs) h = by (p x) h (any_contains m xs)
    where
      here : (t : Bool) → ((t ≡ true → g x ≡ m) × (g x ≡ m → t ≡ true)) → (t || list_any (test m) xs) ≡ true → (list_any (test m) xs ≡ true → Contains (map g (filter p xs)) m) → Contains (g x ∷ map g (filter p xs)) m
      here true d h r = subst (Contains (g x ∷ map g (filter p xs))) (d.0 refl) (contains_here (g x) (map g (filter p xs)))
      here false d h r = contains_later (g x) m (map g (filter p xs)) (r h)

      by : (t : Bool) → ((t && (g x == m)) || list_any (test m) xs) ≡ true → (list_any (test m) xs ≡ true → Contains (map g (filter p xs)) m) → Contains (map g (cond t (x ∷ filter p xs) (filter p xs))) m
      by true h r = here (g x == m) (Decides-eqb (g x) m) h r
      by false h r = r h

  -- nothing passes
  pub none_passes : (xs : List A) → map g (filter p xs) ≡ [] → list_any p xs ≡ false
  none_passes [] h = refl
  none_passes (x ∷ xs) h = by (p x) h (none_passes xs)
    where
      by : (t : Bool) → map g (cond t (x ∷ filter p xs) (filter p xs)) ≡ [] → (map g (filter p xs) ≡ [] → list_any p xs ≡ false) → (t || list_any p xs) ≡ false
      by true h r = cc
      by false h r = r h

  pub passes_none : (xs : List A) → list_any p xs ≡ false → map g (filter p xs) ≡ []
  passes_none [] h = refl
  passes_none (x ∷ xs) h = by (p x) h (passes_none xs)
    where
      by : (t : Bool) → (t || list_any p xs) ≡ false → (list_any p xs ≡ false → map g (filter p xs) ≡ []) → map g (cond t (x ∷ filter p xs) (filter p xs)) ≡ []
      by true h r = cc
      by false h r = r h

any_mapped : {A B : Type 0} (f : A → B) (p : B → Bool) (q : A → Bool) → ((x : A) → p (f x) ≡ q x) → (xs : List A) → list_any p (map f xs) ≡ list_any q xs
any_mapped f p q e [] = refl
any_mapped f p q e (x ∷ xs) = ap (λ t. t || list_any p (map f xs)) (e x) ∙ ap (λ t. q x || t) (any_mapped f p q e xs)

-- the texts among which a name stands
pub among : (keep : List Text) (n : Text) → list_any (λ k. bytes_eq k n) keep ≡ true → Contains keep n
among [] n h = cc
among (k ∷ ks) n h = by (bytes_eq k n) (bytes_eq-Decides k n) h (among ks n)
  where
    by : (t : Bool) → ((t ≡ true → k ≡ n) × (k ≡ n → t ≡ true)) → (t || list_any (λ k. bytes_eq k n) ks) ≡ true → (list_any (λ k. bytes_eq k n) ks ≡ true → Contains ks n) → Contains (k ∷ ks) n
    by true d h r = subst (Contains (k ∷ ks)) (d.0 refl) (contains_here k ks)
    by false d h r = contains_later k n ks (r h)

pub is_among : (keep : List Text) (n : Text) → Contains keep n → list_any (λ k. bytes_eq k n) keep ≡ true
is_among [] n c = absurd (contains_none n c)
is_among (k ∷ ks) n c = by (contains_cases k n ks c) (is_among ks n)
  where
    by : (k ≡ n) ⊎ Contains ks n → (Contains ks n → list_any (λ k. bytes_eq k n) ks ≡ true) → (bytes_eq k n || list_any (λ k. bytes_eq k n) ks) ≡ true
    by (inl e) r = let t : bytes_eq k n ≡ true = (bytes_eq-Decides k n).1 e in rw t refl
    by (inr d) r = or_right (bytes_eq k n) (list_any (λ k. bytes_eq k n) ks) (r d)

pub not_true : (b : Bool) → not b ≡ true → b ≡ false
not_true true h = cc
not_true false h = refl

module _ (u : UnitView) (keep : List Text) (w : ℕ → Block) (os : List Found) (all_is : map (told w) os ≡ occurrences (trees_of u)) (kept0 wanted0 : List Bool)
    (kept_length : length kept0 ≡ count u) (kept_is : (j : ℕ) → j < count u → mark_at kept0 j ≡ not (has_name os j))
    (wanted_length : length wanted0 ≡ length u.names) (wanted_is : (m : ℕ) → m < length u.names → mark_at wanted0 m ≡ list_any (λ k. bytes_eq k (name_in u.names m)) keep)
    (within : All (λ o. o.name < length wanted0) os) where
  declares_any : (j m : ℕ) → Contains (declared_in u j) m → list_any (λ (o : Found). (is_module_name o.role && lies_in j o.declaration) && (o.name == m)) os ≡ true
  declares_any j m c =
      sym (any_mapped (told w) (λ (o : Occurrence ℕ). (is_module_name o.role && lies_in j o.declaration) && (o.name == m)) (λ (o : Found). (is_module_name o.role && lies_in j o.declaration) && (o.name == m)) (λ o. refl) os)
      ∙ (ap (list_any (λ (o : Occurrence ℕ). (is_module_name o.role && lies_in j o.declaration) && (o.name == m))) all_is
      ∙ contains_any (λ (o : Occurrence ℕ). o.name) (λ (o : Occurrence ℕ). is_module_name o.role && lies_in j o.declaration) m (occurrences (trees_of u)) c)

  any_declares : (j m : ℕ) → list_any (λ (o : Found). (is_module_name o.role && lies_in j o.declaration) && (o.name == m)) os ≡ true → Contains (declared_in u j) m
  any_declares j m h =
      any_contains (λ (o : Occurrence ℕ). o.name) (λ (o : Occurrence ℕ). is_module_name o.role && lies_in j o.declaration) m (occurrences (trees_of u))
      (sym (ap (list_any (λ (o : Occurrence ℕ). (is_module_name o.role && lies_in j o.declaration) && (o.name == m))) all_is)
      ∙ (any_mapped (told w) (λ (o : Occurrence ℕ). (is_module_name o.role && lies_in j o.declaration) && (o.name == m)) (λ (o : Found). (is_module_name o.role && lies_in j o.declaration) && (o.name == m)) (λ o. refl) os ∙ h))

  refers_any : (i m : ℕ) → Contains (referred_in u i) m → list_any (λ (o : Found). (is_reference o.role && lies_in i o.declaration) && (o.name == m)) os ≡ true
  refers_any i m c =
      sym (any_mapped (told w) (λ (o : Occurrence ℕ). (is_reference o.role && lies_in i o.declaration) && (o.name == m)) (λ (o : Found). (is_reference o.role && lies_in i o.declaration) && (o.name == m)) (λ o. refl) os)
      ∙ (ap (list_any (λ (o : Occurrence ℕ). (is_reference o.role && lies_in i o.declaration) && (o.name == m))) all_is
      ∙ contains_any (λ (o : Occurrence ℕ). o.name) (λ (o : Occurrence ℕ). is_reference o.role && lies_in i o.declaration) m (occurrences (trees_of u)) c)

  any_refers : (i m : ℕ) → list_any (λ (o : Found). (is_reference o.role && lies_in i o.declaration) && (o.name == m)) os ≡ true → Contains (referred_in u i) m
  any_refers i m h =
      any_contains (λ (o : Occurrence ℕ). o.name) (λ (o : Occurrence ℕ). is_reference o.role && lies_in i o.declaration) m (occurrences (trees_of u))
      (sym (ap (list_any (λ (o : Occurrence ℕ). (is_reference o.role && lies_in i o.declaration) && (o.name == m))) all_is)
      ∙ (any_mapped (told w) (λ (o : Occurrence ℕ). (is_reference o.role && lies_in i o.declaration) && (o.name == m)) (λ (o : Found). (is_reference o.role && lies_in i o.declaration) && (o.name == m)) (λ o. refl) os ∙ h))

  has_name_is : (j : ℕ) → list_any (λ (o : Occurrence ℕ). is_module_name o.role && lies_in j o.declaration) (occurrences (trees_of u)) ≡ has_name os j
  has_name_is j =
      sym (ap (list_any (λ (o : Occurrence ℕ). is_module_name o.role && lies_in j o.declaration)) all_is)
      ∙ any_mapped (told w) (λ (o : Occurrence ℕ). is_module_name o.role && lies_in j o.declaration) (names_here j) (λ o. refl) os

  -- where an identifier lies
  lies_some : (j : ℕ) (d : Option ℕ) → lies_in j d ≡ true → d ≡ Some j
  lies_some j None h = cc
  lies_some j (Some i) h = ap Some ((Decides-eqb i j).0 h)

  some_lies : (j : ℕ) (d : Option ℕ) → d ≡ Some j → lies_in j d ≡ true
  some_lies j d e = rw e ((Decides-eqb j j).1 refl)

  in_range : (ms : List Bool) (j : ℕ) → mark_at ms j ≡ true → j < length ms
  in_range [] j h = cc
  in_range (m ∷ ms) zero h = omega arith
  in_range (m ∷ ms) (suc j) h = omega (arith, in_range ms j h)

  abbrev Wanted : ℕ → Type 0
  Wanted m = Contains keep (name_in u.names m) ⊎ ((i : ℕ) × (IsKept u keep i × Contains (referred_in u i) m))

  abbrev Meant : Bool → ℕ → Type 0
  Meant true j = IsKept u keep j
  Meant false m = Wanted m

  pub reached_kept : (b : Bool) (x : ℕ) → Reached os kept0 wanted0 b x → Meant b x
  reached_kept _ _ (kept_first j h) =
      let l : j < count u = subst (λ n. j < n) kept_length (in_range kept0 j h) in
      nameless j l (passes_none (λ (o : Occurrence ℕ). o.name) (λ (o : Occurrence ℕ). is_module_name o.role && lies_in j o.declaration) (occurrences (trees_of u)) (has_name_is j ∙ not_true (has_name os j) (sym (kept_is j l) ∙ h)))
  reached_kept _ _ (wanted_first m h) =
      let l : m < length u.names = subst (λ n. m < n) wanted_length (in_range wanted0 m h) in
      inl (among keep (name_in u.names m) (sym (wanted_is m l) ∙ h))
  reached_kept _ _ (referred i m k d l r e n h) =
      let o = get_or os k d in
      inr (
        i,
        (
          reached_kept true i h,
          any_refers i m (list_any_at (λ (o : Found). (is_reference o.role && lies_in i o.declaration) && (o.name == m)) os k d l
              (and_from (is_reference o.role && lies_in i o.declaration) (o.name == m) (and_from (is_reference o.role) (lies_in i o.declaration) r (some_lies i o.declaration e)) ((Decides-eqb o.name m).1 n))),
        ),
      )
  reached_kept _ _ (declared j m k d l r e n there h) =
      let o = get_or os k d in
      let c : Contains (declared_in u j) m = any_declares j m (list_any_at (λ (o : Found). (is_module_name o.role && lies_in j o.declaration) && (o.name == m)) os k d l
      (and_from (is_module_name o.role && lies_in j o.declaration) (o.name == m) (and_from (is_module_name o.role) (lies_in j o.declaration) r (some_lies j o.declaration e)) ((Decides-eqb o.name m).1 n))) in
      from (subst (λ n. j < n) kept_length there) c (reached_kept false m h)
    where
      from : j < count u → Contains (declared_in u j) m → Wanted m → IsKept u keep j
      from l c (inl k) = named j m l c k
      from l c (inr k) = reached k.0 j m l k.1.0 k.1.1 c

  pub kept_reached : (j : ℕ) → IsKept u keep j → Reached os kept0 wanted0 true j
  kept_reached _ (named j m l c k) = at (found (λ (o : Found). (is_module_name o.role && lies_in j o.declaration) && (o.name == m)) os (declares_any j m c))
    where
      at : reaching.Found (λ (o : Found). (is_module_name o.role && lies_in j o.declaration) && (o.name == m)) os → Reached os kept0 wanted0 true j
      at f =
          let o = f.item in
          let same : get_or os f.place o ≡ o = f.is o in
          let parts = and_parts (is_module_name o.role && lies_in j o.declaration) (o.name == m) f.passes in
          let inner = and_parts (is_module_name o.role) (lies_in j o.declaration) parts.0 in
          let n : o.name ≡ m = (Decides-eqb o.name m).0 parts.1 in
          let low : m < length u.names = subst (λ x. m < x) wanted_length (subst (λ x. x < length wanted0) (ap (λ x. x.name) same ∙ n) (within f.place o f.there)) in
          declared j m f.place o f.there (ap (λ x. is_module_name x.role) same ∙ inner.0) (ap (λ x. x.declaration) same ∙ lies_some j o.declaration inner.1) (ap (λ x. x.name) same ∙ n) (subst (λ x. j < x) (sym kept_length) l)
          (wanted_first m (wanted_is m low ∙ is_among keep (name_in u.names m) k))
  kept_reached _ (nameless j l e) =
      kept_first j (kept_is j l ∙ ap not (sym (has_name_is j) ∙ none_passes (λ (o : Occurrence ℕ). o.name) (λ (o : Occurrence ℕ). is_module_name o.role && lies_in j o.declaration) (occurrences (trees_of u)) e))
  kept_reached _ (reached i j m l k r c) =
      at (found (λ (o : Found). (is_module_name o.role && lies_in j o.declaration) && (o.name == m)) os (declares_any j m c)) (found (λ (o : Found). (is_reference o.role && lies_in i o.declaration) && (o.name == m)) os (refers_any i m r)) (kept_reached i k)
    where
      at : reaching.Found (λ (o : Found). (is_module_name o.role && lies_in j o.declaration) && (o.name == m)) os → reaching.Found (λ (o : Found). (is_reference o.role && lies_in i o.declaration) && (o.name == m)) os → Reached os kept0 wanted0 true i → Reached os kept0 wanted0 true j
      at f g up =
          let o = f.item in
          let same : get_or os f.place o ≡ o = f.is o in
          let parts = and_parts (is_module_name o.role && lies_in j o.declaration) (o.name == m) f.passes in
          let inner = and_parts (is_module_name o.role) (lies_in j o.declaration) parts.0 in
          let r = g.item in
          let same_r : get_or os g.place r ≡ r = g.is r in
          let parts_r = and_parts (is_reference r.role && lies_in i r.declaration) (r.name == m) g.passes in
          let inner_r = and_parts (is_reference r.role) (lies_in i r.declaration) parts_r.0 in
          declared j m f.place o f.there (ap (λ x. is_module_name x.role) same ∙ inner.0) (ap (λ x. x.declaration) same ∙ lies_some j o.declaration inner.1) (ap (λ x. x.name) same ∙ (Decides-eqb o.name m).0 parts.1) (subst (λ x. j < x) (sym kept_length) l)
          (referred i m g.place r g.there (ap (λ x. is_reference x.role) same_r ∙ inner_r.0) (ap (λ x. x.declaration) same_r ∙ lies_some i r.declaration inner_r.1) (ap (λ x. x.name) same_r ∙ (Decides-eqb r.name m).0 parts_r.1) up)

pub trees_count : {A : Type 0} (view : A → Tree) (xs : List A) → length (trees (forest_of (map view xs))) ≡ length xs
trees_count view [] = refl
trees_count view (x ∷ xs) = ap suc (trees_count view xs)

pub names_within : {A : Type 0} (view : A → Found) (n : ℕ) (xs : List A) → All (λ x. (view x).name < n) xs → All (λ o. o.name < n) (map view xs)
names_within view n [] h k d l = absurd (omega arith)
names_within view n (x ∷ xs) h zero d l = h 0 x (omega arith)
names_within view n (x ∷ xs) h (suc k) d l = names_within view n xs (λ i e m. h (suc i) e (omega arith)) k d (omega arith)

-- marks of what is reached are marks of what is kept
least_kept : {A : Type 0} (text : A → Text) (u : UnitView) (ks : List A) (w : ℕ → Block) (os : List Found) (kept0 wanted0 kept : List Bool) → map (told w) os ≡ occurrences (trees_of u)
    → length kept0 ≡ count u → ((j : ℕ) → j < count u → mark_at kept0 j ≡ not (has_name os j))
    → length wanted0 ≡ length u.names → ((m : ℕ) → m < length u.names → mark_at wanted0 m ≡ list_any (λ k. bytes_eq (text k) (name_in u.names m)) ks)
    → All (λ o. o.name < length wanted0) os → ((j : ℕ) → j < length kept0 → (mark_at kept j ≡ true) ↔ Reached os kept0 wanted0 true j)
    → (j : ℕ) → j < length kept0 → (mark_at kept j ≡ true) ↔ IsKept u (map text ks) j
least_kept text u ks w os kept0 wanted0 kept all_is lk mk lw mw within marked j l =
    let wanted_is : (m : ℕ) → m < length u.names → mark_at wanted0 m ≡ list_any (λ k. bytes_eq k (name_in u.names m)) (map text ks) =
    λ m h. mw m h ∙ sym (any_mapped text (λ k. bytes_eq k (name_in u.names m)) (λ k. bytes_eq (text k) (name_in u.names m)) (λ k. refl) ks) in (
      λ h. reached_kept u (map text ks) w os all_is kept0 wanted0 lk mk lw wanted_is within true j ((marked j l).0 h),
      λ h. (marked j l).1 (kept_reached u (map text ks) w os all_is kept0 wanted0 lk mk lw wanted_is within j h),
    )

-- the first marks, where the marks reach what they reach in the graph
pub least_taken : {A : Type 0} (text : A → Text) (u : UnitView) (ks : List A) (w : ℕ → Block) (os : List Found) (g : Graph) (n : ℕ) (kept wanted marks : List Bool) → map (told w) os ≡ occurrences (trees_of u)
    → n ≡ count u → length kept ≡ n → ((j : ℕ) → j < n → mark_at kept j ≡ not (has_name os j))
    → length wanted ≡ length u.names → ((m : ℕ) → m < length u.names → mark_at wanted m ≡ list_any (λ k. bytes_eq (text k) (name_in u.names m)) ks)
    → All (λ o. o.name < length wanted) os → ((a b : ℕ) → Leads g a b ↔ IsStepOf n a b os) → ((a : ℕ) → (mark_at marks a ≡ true) ↔ graphs.Reached g (kept ++ wanted) a)
    → (j : ℕ) → j < n → (mark_at (take n marks) j ≡ true) ↔ IsKept u (map text ks) j
least_taken text u ks w os g n kept wanted marks all_is total lk mk lw mw within steps all j l =
    least_kept text u ks w os kept wanted (take n marks) all_is (lk ∙ total) (λ i h. mk i (omega (arith, h, total))) lw mw within
    (λ i h. both_ways i (omega (arith, h, lk))) j (omega (arith, l, lk))
  where
    both_ways : (i : ℕ) → i < n → (mark_at (take n marks) i ≡ true) ↔ Reached os kept wanted true i
    both_ways i h =
        let same : mark_at (take n marks) i ≡ mark_at marks i = get_or-take n marks i false h in
        let r = reached_node n g os kept wanted lk within steps i h in
        (λ e. r.0 ((all i).0 (sym same ∙ e)), λ e. same ∙ (all i).1 (r.1 e))
