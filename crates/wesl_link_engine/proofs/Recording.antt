-- What is written into a mangler's record as the names of a module are given.
use Rattle.std.proofs.Common.{◌≡◌, ◌⊎◌, inl, inr, ℕ, zero, suc, ◌<◌, ◌+◌, Bool, true, false, true≢false, not, cond, Option, Some, None, is_some, List, [], ◌∷◌, ◌++◌, map, take, length, Contains, slice_index_or, refl, sym, ap, subst, ◌∙◌}
use Rattle.std.specs.Prelude.{filter, filter_map, bytes_eq}
use Rattle.std.proofs.lemmas.Bool.Decides.{eqb_tells}
use Rattle.std.proofs.lemmas.Slice.Eq.{bytes_eq-Decides}
use Rattle.std.proofs.lemmas.Option.{get_or_from_slice_get}
use Rattle.std.proofs.lemmas.List.{map-append, take_more}
use Rattle.std.proofs.lemmas.List.Elements.{filter-append, filter_map-append}
use Rattle.wesl_tree_names.specs.Path.{Text, Path}
use Rattle.wesl_mangle_forms.specs.Mangler.{written_if}
use Rattle.wesl_link_symbols.specs.declared.ids.PathId.{PathId}
use Rattle.wesl_tree_base.specs.declared.ids.NameId.{NameId}
use Rattle.wesl_link_symbols.specs.Tables.{Declaration, Table}
use Rattle.wesl_link_symbols.proofs.Lists.{contains_nil, contains_first, contains_later, contains_cases}
use Rattle.wesl_link_reach.proofs.Lists.{contains_map, map_contains}
use Rattle.wesl_link_tables.specs.Numbering.{Numbering, NameAt, AreDifferent}
use Rattle.wesl_link_engine.specs.Given.{Given, AreNamed}
use Rattle.wesl_link_engine.specs.Recorded.{Record, Write, all_written, firsts, writes_of, text_of, declared_texts, HasNone, written_unless}
use Rattle.wesl_link_engine.proofs.Giving.{Names}

-- ---- each once

is_among : (x : Text) (xs : List Text) → Contains xs x ⊎ (Contains xs x → ⊥)
is_among x [] = inr (λ h. contains_nil x h)
is_among x (y ∷ ys) = by (bytes_eq y x) refl (is_among x ys)
  where
    by : (b : Bool) → bytes_eq y x ≡ b → Contains ys x ⊎ (Contains ys x → ⊥) → Contains (y ∷ ys) x ⊎ (Contains (y ∷ ys) x → ⊥)
    by true e rest = inl (subst (λ (z : Text). Contains (y ∷ ys) z) ((bytes_eq-Decides y x).0 e) (contains_first y ys))
    by false e (inl h) = inl (contains_later y x ys h)
    by false e (inr h) = inr (λ c. elim (contains_cases y x ys c) [ inl s ↦ true≢false (sym ((bytes_eq-Decides y x).1 s) ∙ e) | inr t ↦ h t ])

abbrev others_than : Text → List Text → List Text
others_than y = filter (λ m. not (bytes_eq m y))

stays_out : (y x : Text) → bytes_eq x y ≡ true → others_than y (x ∷ []) ≡ []
stays_out y x e = ap (λ b. cond (not b) (x ∷ []) []) e

stays_in : (y x : Text) → bytes_eq x y ≡ false → others_than y (x ∷ []) ≡ x ∷ []
stays_in y x e = ap (λ b. cond (not b) (x ∷ []) []) e

plus_nil : (xs : List Text) → xs ++ [] ≡ xs
plus_nil [] = refl
plus_nil (x ∷ xs) = ap (λ ys. x ∷ ys) (plus_nil xs)

-- one that does not stand before comes last
pub firsts_new : (xs : List Text) (x : Text) → (Contains xs x → ⊥) → firsts (xs ++ x ∷ []) ≡ firsts xs ++ x ∷ []
firsts_new [] x h = refl
firsts_new (y ∷ ys) x h =
    ap (λ (zs : List Text). y ∷ others_than y zs) (firsts_new ys x (λ c. h (contains_later y x ys c)))
    ∙ ap (λ (zs : List Text). y ∷ zs) (filter-append (λ m. not (bytes_eq m y)) (firsts ys) (x ∷ []) ∙ ap (λ (zs : List Text). others_than y (firsts ys) ++ zs) (stays_in y x (apart (bytes_eq x y) refl)))
  where
    apart : (b : Bool) → bytes_eq x y ≡ b → bytes_eq x y ≡ false
    apart true e = absurd (h (subst (λ (z : Text). Contains (y ∷ ys) z) (sym ((bytes_eq-Decides x y).0 e)) (contains_first y ys)))
    apart false e = e

rest_again : (y : Text) (ys : List Text) (x : Text) → Contains (y ∷ ys) x → (Contains ys x → firsts (ys ++ x ∷ []) ≡ firsts ys) → Contains ys x ⊎ (Contains ys x → ⊥) → others_than y (firsts (ys ++ x ∷ [])) ≡ others_than y (firsts ys)
rest_again y ys x h again (inl c) = ap (others_than y) (again c)
rest_again y ys x h again (inr c) =
    let e : y ≡ x = elim (contains_cases y x ys h) [ inl s ↦ s | inr t ↦ absurd (c t) ] in
    ap (others_than y) (firsts_new ys x c) ∙ (filter-append (λ m. not (bytes_eq m y)) (firsts ys) (x ∷ [])
    ∙ (ap (λ (zs : List Text). others_than y (firsts ys) ++ zs) (stays_out y x ((bytes_eq-Decides x y).1 (sym e))) ∙ plus_nil (others_than y (firsts ys))))

-- one that does is there already
pub firsts_again : (xs : List Text) (x : Text) → Contains xs x → firsts (xs ++ x ∷ []) ≡ firsts xs
firsts_again [] x h = absurd (contains_nil x h)
firsts_again (y ∷ ys) x h = ap (λ (zs : List Text). y ∷ zs) (rest_again y ys x h (λ c. firsts_again ys x c) (is_among x ys))

-- ---- writes

pub written_more : (w : Bool) (xs ys : List Write) (items : Record) → all_written w (xs ++ ys) items ≡ all_written w ys (all_written w xs items)
written_more w [] ys items = refl
written_more w (x ∷ xs) ys items = written_more w xs ys (written_if w x.mangled (x.path, x.item) items)

-- ---- the names of declarations

named_in : (ds : List (Declaration PathId NameId)) (n : NameId) → Contains (filter_map (λ d. d.name) ds) n → (d : Declaration PathId NameId) × Contains ds d × (d.name ≡ Some n)
named_in [] n h = absurd (contains_nil n h)
named_in (d ∷ ds) n h = by d.name refl (λ c. named_in ds n c)
  where
    here : (o : Option NameId) → d.name ≡ o → filter_map (λ (e : Declaration PathId NameId). e.name) (d ∷ ds) ≡ filter_map (λ (e : Declaration PathId NameId). e.name) (record { name = o; place = d.place; references = d.references; unclear = d.unclear } ∷ ds)
    here o e = ap (λ (p : Option NameId). filter_map (λ (e : Declaration PathId NameId). e.name) (record { name = p; place = d.place; references = d.references; unclear = d.unclear } ∷ ds)) e

    later : (Contains (filter_map (λ (e : Declaration PathId NameId). e.name) ds) n → (k : Declaration PathId NameId) × Contains ds k × (k.name ≡ Some n)) → Contains (filter_map (λ (e : Declaration PathId NameId). e.name) ds) n → (k : Declaration PathId NameId) × Contains (d ∷ ds) k × (k.name ≡ Some n)
    later again c = let (k, held, is) = again c in (k, contains_later d k ds held, is)

    by : (o : Option NameId) → d.name ≡ o → (Contains (filter_map (λ (e : Declaration PathId NameId). e.name) ds) n → (k : Declaration PathId NameId) × Contains ds k × (k.name ≡ Some n)) → (k : Declaration PathId NameId) × Contains (d ∷ ds) k × (k.name ≡ Some n)
    by None e again = later again (subst (λ (ns : List NameId). Contains ns n) (here None e) h)
    by (Some m) e again = elim (contains_cases m n (filter_map (λ (k : Declaration PathId NameId). k.name) ds) (subst (λ (ns : List NameId). Contains ns n) (here (Some m) e) h)) [
      | inl s ↦ (d, contains_first d ds, e ∙ ap (λ (k : NameId). Some k) s)
      | inr c ↦ later again c
    ]

name_among : (ds : List (Declaration PathId NameId)) (d : Declaration PathId NameId) (n : NameId) → Contains ds d → d.name ≡ Some n → Contains (filter_map (λ d. d.name) ds) n
name_among [] d n h e = absurd (contains_nil d h)
name_among (k ∷ ds) d n h e = by k.name refl (λ c. name_among ds d n c e) (contains_cases k d ds h)
  where
    here : (o : Option NameId) → k.name ≡ o → filter_map (λ (e : Declaration PathId NameId). e.name) (record { name = o; place = k.place; references = k.references; unclear = k.unclear } ∷ ds) ≡ filter_map (λ (e : Declaration PathId NameId). e.name) (k ∷ ds)
    here o e = sym (ap (λ (p : Option NameId). filter_map (λ (e : Declaration PathId NameId). e.name) (record { name = p; place = k.place; references = k.references; unclear = k.unclear } ∷ ds)) e)

    by : (o : Option NameId) → k.name ≡ o → (Contains ds d → Contains (filter_map (λ (e : Declaration PathId NameId). e.name) ds) n) → (k ≡ d) ⊎ Contains ds d → Contains (filter_map (λ (e : Declaration PathId NameId). e.name) (k ∷ ds)) n
    by None f again (inl s) = let g : None ≡ Some n = sym f ∙ (ap (λ (z : Declaration PathId NameId). z.name) s ∙ e) in cc
    by None f again (inr c) = subst (λ (ns : List NameId). Contains ns n) (here None f) (again c)
    by (Some m) f again (inl s) =
        let g : Some m ≡ Some n = sym f ∙ (ap (λ (z : Declaration PathId NameId). z.name) s ∙ e) in
        let i : m ≡ n = cc in
        subst (λ (ns : List NameId). Contains ns n) (here (Some m) f) (subst (λ (z : NameId). Contains (m ∷ filter_map (λ (e : Declaration PathId NameId). e.name) ds) z) i (contains_first m (filter_map (λ (e : Declaration PathId NameId). e.name) ds)))
    by (Some m) f again (inr c) = subst (λ (ns : List NameId). Contains ns n) (here (Some m) f) (contains_later m n (filter_map (λ (e : Declaration PathId NameId). e.name) ds) (again c))

-- whether a declaration has the name
is_declared : (ds : List (Declaration PathId NameId)) (n : NameId) → ((d : Declaration PathId NameId) × Contains ds d × (d.name ≡ Some n)) ⊎ ((d : Declaration PathId NameId) → Contains ds d → d.name ≡ Some n → ⊥)
is_declared [] n = inr (λ d h e. contains_nil d h)
is_declared (k ∷ ds) n = by k.name refl (is_declared ds n)
  where
    Is : Type 0
    Is = (d : Declaration PathId NameId) × Contains (k ∷ ds) d × (d.name ≡ Some n)

    not_here : (k.name ≡ Some n → ⊥) → ((d : Declaration PathId NameId) → Contains ds d → d.name ≡ Some n → ⊥) → (d : Declaration PathId NameId) → Contains (k ∷ ds) d → d.name ≡ Some n → ⊥
    not_here f h d c e = elim (contains_cases k d ds c) [ inl s ↦ f (ap (λ (z : Declaration PathId NameId). z.name) s ∙ e) | inr t ↦ h d t e ]

    by : (o : Option NameId) → k.name ≡ o → ((d : Declaration PathId NameId) × Contains ds d × (d.name ≡ Some n)) ⊎ ((d : Declaration PathId NameId) → Contains ds d → d.name ≡ Some n → ⊥)
        → ((d : Declaration PathId NameId) × Contains (k ∷ ds) d × (d.name ≡ Some n)) ⊎ ((d : Declaration PathId NameId) → Contains (k ∷ ds) d → d.name ≡ Some n → ⊥)
    by o f (inl (d, c, e)) = inl (d, contains_later k d ds c, e)
    by None f (inr h) = inr (not_here (λ g. let i : None ≡ Some n = sym f ∙ g in cc) h)
    by (Some m) f (inr h) = elim (eqb_tells m.0 n.0) [
      | inl e ↦ inl (k, contains_first k ds, f ∙ ap (λ (i : ℕ). Some (record { 0 = i })) e.1)
      | inr e ↦ inr (not_here (λ g. e.1 (let i : Some m ≡ Some n = sym f ∙ g in cc)) h)
    ]

-- ---- one declaration more

module _ (nb : Numbering) (different : AreDifferent nb.names) (name_of : Path → Text → Text) (own : Path) (path : PathId) (w : Bool) (first : Record) (old : Given) (none : HasNone path old) where
  text_is : (n : NameId) (x : Text) → NameAt nb n x → text_of nb n ≡ x
  text_is n x at = get_or_from_slice_get nb.names n.0 x [] at

  abbrev write : Text → Write
  write n = record { mangled = name_of own n; path = own; item = n }

  abbrev pub Recorded : List (Declaration PathId NameId) → Record → Type 0
  Recorded ds items = (x : Text) → items x ≡ all_written w (writes_of name_of own (firsts (declared_texts nb ds))) first x

  texts_more : (ds : List (Declaration PathId NameId)) (d : Declaration PathId NameId) → declared_texts nb (ds ++ d ∷ []) ≡ declared_texts nb ds ++ declared_texts nb (d ∷ [])
  texts_more ds d = ap (map (text_of nb)) (filter_map-append (λ (e : Declaration PathId NameId). e.name) ds (d ∷ [])) ∙ map-append (text_of nb) (filter_map (λ (e : Declaration PathId NameId). e.name) ds) (filter_map (λ (e : Declaration PathId NameId). e.name) (d ∷ []))

  texts_one : (d : Declaration PathId NameId) (o : Option NameId) → d.name ≡ o → declared_texts nb (d ∷ []) ≡ declared_texts nb (record { name = o; place = d.place; references = d.references; unclear = d.unclear } ∷ [])
  texts_one d o e = ap (λ (p : Option NameId). declared_texts nb (record { name = p; place = d.place; references = d.references; unclear = d.unclear } ∷ [])) e

  pub recorded_unnamed : (ds : List (Declaration PathId NameId)) (d : Declaration PathId NameId) (items : Record) → d.name ≡ None → Recorded ds items → Recorded (ds ++ d ∷ []) items
  recorded_unnamed ds d items e h x =
      h x ∙ ap (λ (ts : List Text). all_written w (writes_of name_of own (firsts ts)) first x) (sym (texts_more ds d ∙ (ap (λ (ts : List Text). declared_texts nb ds ++ ts) (texts_one d None e) ∙ plus_nil (declared_texts nb ds))))

  module _ (ds : List (Declaration PathId NameId)) (d : Declaration PathId NameId) (n : NameId) (x : Text) (named : d.name ≡ Some n) (at : NameAt nb n x)
      (texts : (k : Declaration PathId NameId) (m : NameId) → Contains ds k → k.name ≡ Some m → (y : Text) × NameAt nb m y) (now : Given) (f : Text → Text) (h : Names nb f path ds old now) (before after : Record) (r : Recorded ds before) where
    one_more : declared_texts nb (ds ++ d ∷ []) ≡ declared_texts nb ds ++ x ∷ []
    one_more = texts_more ds d ∙ ap (λ (ts : List Text). declared_texts nb ds ++ ts) (texts_one d (Some n) named ∙ ap (λ (y : Text). y ∷ []) (text_is n x at))

    -- its symbol had a name, so it stands before
    had : (y : Text) → now (record { path = path; name = n }) ≡ Some y → Contains (declared_texts nb ds) x
    had y is = elim (is_declared ds n) [
      | inl (k, c, e) ↦ subst (λ (z : Text). Contains (declared_texts nb ds) z) (text_is n x at) (map_contains (text_of nb) (filter_map (λ (d : Declaration PathId NameId). d.name) ds) n (name_among ds k n c e))
      | inr absent ↦ let g : None ≡ Some y = sym (none n) ∙ (sym (h.undeclared n absent) ∙ is) in cc
    ]

    -- its symbol had none, so it does not
    had_none : now (record { path = path; name = n }) ≡ None → Contains (declared_texts nb ds) x → ⊥
    had_none is c =
        let (m, in_names, e) = contains_map (text_of nb) (filter_map (λ (d : Declaration PathId NameId). d.name) ds) x c in
        let (k, held, called) = named_in ds m in_names in
        let (y, there) = texts k m held called in
        let same_text : y ≡ x = sym (text_is m y there) ∙ e in
        let same_number : m.0 ≡ n.0 = different m.0 n.0 x (subst (λ (z : Text). NameAt nb m z) same_text there) at in
        let same : m ≡ n = ap (λ (i : ℕ). record { 0 = i }) same_number in
        let (z, has) = h.has k m held called in
        let g : None ≡ Some z = sym is ∙ (ap (λ (j : NameId). now (record { path = path; name = j })) (sym same) ∙ has) in
        cc

    pub recorded_named : ((y : Text) → after y ≡ written_unless (now (record { path = path; name = n })) w (name_of own x) (own, x) before y) → Recorded (ds ++ d ∷ []) after
    recorded_named wrote = by (now (record { path = path; name = n })) refl
      where
        by : (o : Option Text) → now (record { path = path; name = n }) ≡ o → Recorded (ds ++ d ∷ []) after
        by (Some z) is y =
            wrote y ∙ (ap (λ (o : Option Text). written_unless o w (name_of own x) (own, x) before y) is
            ∙ (r y ∙ ap (λ (ts : List Text). all_written w (writes_of name_of own ts) first y) (sym (ap firsts one_more ∙ firsts_again (declared_texts nb ds) x (had z is)))))
        by None is y =
            let items : before ≡ all_written w (writes_of name_of own (firsts (declared_texts nb ds))) first = λ i v. r v i in
            let more : all_written w (writes_of name_of own (firsts (declared_texts nb (ds ++ d ∷ [])))) first y ≡ written_if w (name_of own x) (own, x) (all_written w (writes_of name_of own (firsts (declared_texts nb ds))) first) y =
            ap (λ (ts : List Text). all_written w (writes_of name_of own ts) first y) (ap firsts one_more ∙ firsts_new (declared_texts nb ds) x (had_none is))
            ∙ (ap (λ (ws : List Write). all_written w ws first y) (map-append write (firsts (declared_texts nb ds)) (x ∷ []))
            ∙ ap (λ (q : Record). q y) (written_more w (writes_of name_of own (firsts (declared_texts nb ds))) (writes_of name_of own (x ∷ [])) first)) in
            wrote y ∙ (ap (λ (o : Option Text). written_unless o w (name_of own x) (own, x) before y) is ∙ (ap (λ (q : Record). written_if w (name_of own x) (own, x) q y) items ∙ sym more))

-- ---- the next declaration of a list

pub take_held : {X : Type 0} (xs : List X) (i : ℕ) (x : X) → Contains (take i xs) x → Contains xs x
take_held [] zero x h = h
take_held [] (suc i) x h = h
take_held (y ∷ xs) zero x h = absurd (contains_nil x h)
take_held (y ∷ xs) (suc i) x h = elim (contains_cases y x (take i xs) h) [ inl e ↦ subst (λ z. Contains (y ∷ xs) z) e (contains_first y xs) | inr c ↦ contains_later y x xs (take_held xs i x c) ]

-- each declaration of a table that has a name has one with a text
pub texts_of : (nb : Numbering) (t : Table PathId NameId) → AreNamed nb t → (ds : List (Declaration PathId NameId)) (i : ℕ) → ds ≡ t.declarations
    → (k : Declaration PathId NameId) (m : NameId) → Contains (take i ds) k → k.name ≡ Some m → (y : Text) × NameAt nb m y
texts_of nb t named ds i e k m h is = named m (k, subst (λ (es : List (Declaration PathId NameId)). Contains es k) e (take_held ds i k h), is)

module _ (nb : Numbering) (different : AreDifferent nb.names) (name_of : Path → Text → Text) (own : Path) (path : PathId) (w : Bool) (first : Record) (old : Given) (none : HasNone path old)
    (ds : List (Declaration PathId NameId)) (i : ℕ) (d : Declaration PathId NameId) (below : i < length ds) (is : d ≡ slice_index_or ds i d) where
  next : take (i + 1) ds ≡ take i ds ++ d ∷ []
  next = take_more ds i d below ∙ ap (λ (z : Declaration PathId NameId). take i ds ++ z ∷ []) (sym is)

  pub more_unnamed : (items : Record) → None ≡ d.name → Recorded nb different name_of own path w first old none (take i ds) items → Recorded nb different name_of own path w first old none (take (i + 1) ds) items
  more_unnamed items e h =
      subst (λ (es : List (Declaration PathId NameId)). Recorded nb different name_of own path w first old none es items) (sym next)
      (recorded_unnamed nb different name_of own path w first old none (take i ds) d items (sym e) h)

  pub more_named : (n : NameId) (x : Text) (p : PathId) → p ≡ path → Some n ≡ d.name → NameAt nb n x → ((k : Declaration PathId NameId) (m : NameId) → Contains (take i ds) k → k.name ≡ Some m → (y : Text) × NameAt nb m y)
      → (now : Given) (f : Text → Text) → Names nb f path (take i ds) old now → (before after : Record) (name : Text) → name ≡ name_of own x
      → (v : Bool) → v ≡ w → ((y : Text) → after y ≡ written_unless (now (record { path = p; name = n })) v name (own, x) before y)
      → Recorded nb different name_of own path w first old none (take i ds) before → Recorded nb different name_of own path w first old none (take (i + 1) ds) after
  more_named n x p there named at texts now f h before after name called v agrees wrote r =
      let written : (y : Text) → after y ≡ written_unless (now (record { path = p; name = n })) w name (own, x) before y =
      subst (λ (b : Bool). (y : Text) → after y ≡ written_unless (now (record { path = p; name = n })) b name (own, x) before y) agrees wrote in
      subst (λ (es : List (Declaration PathId NameId)). Recorded nb different name_of own path w first old none es after) (sym next)
      (recorded_named nb different name_of own path w first old none (take i ds) d n x (sym named) at texts now f h before after r
      (λ y. written y ∙ (ap (λ (q : PathId). written_unless (now (record { path = q; name = n })) w name (own, x) before y) there ∙ ap (λ (z : Text). written_unless (now (record { path = path; name = n })) w z (own, x) before y) called)))

-- ---- one name

pub unless_some : (o : Option Text) (w : Bool) (name : Text) (item : Path × Text) (items : Record) → true ≡ is_some o → (y : Text) → items y ≡ written_unless o w name item items y
unless_some None w name item items e y = absurd (true≢false e)
unless_some (Some x) w name item items e y = refl
