-- The symbols that a module declares.
use Rattle.std.proofs.Common.{◌≡◌, inl, inr, ℕ, zero, suc, ◌<◌, ◌≤◌, ◌+◌, true, List, [], ◌∷◌, ◌++◌, length, map, take, slice_get, slice_index_or, Option, Some, None, Contains, subst, sym, refl, ap, ◌∙◌}
use Rattle.std.proofs.lemmas.List.Elements.{Contains-push_cases, Contains-append_left, Contains-push}
use Rattle.std.proofs.lemmas.List.{take_more, take_all}
use Rattle.wesl_link_symbols.specs.declared.symbols.Import.{Import}
use Rattle.wesl_link_symbols.specs.declared.symbols.LookUp.{LookUp}
use Rattle.wesl_link_symbols.specs.declared.symbols.Symbol.{Symbol}
use Rattle.wesl_link_symbols.specs.Tables.{Declaration, Table}
use Rattle.wesl_link_symbols.specs.Names.{Declares}
use Rattle.wesl_link_reach.specs.World.{IsAt, Task, Entered, Reached}
use Rattle.wesl_link_reach.specs.World.Entered.{imported}
use Rattle.wesl_link_reach.specs.World.Reached.{declared}
use Rattle.wesl_link_reach.specs.Asked.{Gains}
use Rattle.wesl_link_reach.specs.Eager.{IsDeclaredAmong, with_named}
use Rattle.wesl_link_reach.specs.Loading.{GoesOn, IsSoundIn, CanEnter}
use Rattle.wesl_link_symbols.proofs.Lists.{contains_nil}
use Rattle.wesl_link_reach.proofs.Lists.{contains_map, map_contains}

pub place_on : {X : Type 0} (xs ys : List X) (k : ℕ) (x : X) → GoesOn xs ys → slice_get xs k ≡ Some x → slice_get ys k ≡ Some x
place_on {X} xs ys k x (more, e) at = subst (λ (zs : List X). slice_get zs k ≡ Some x) (sym e) (before xs more k at)
  where
    before : (xs2 bs : List X) (i : ℕ) → slice_get xs2 i ≡ Some x → slice_get (xs2 ++ bs) i ≡ Some x
    before [] bs i f = cc
    before (y ∷ xs2) bs zero f = f
    before (y ∷ xs2) bs (suc i) f = before xs2 bs i f

module _ {P N : Type 0} (t : Table P N) where
  pub declaring_start : (ds : List (Declaration P N)) (to : List (Symbol P N)) → to ≡ [] → Gains [] to (IsDeclaredAmong t (take 0 ds))
  declaring_start ds to e = record {
    kept = λ s h. absurd (contains_nil s h);
    only = λ s h. absurd (contains_nil s (subst (λ (xs : List (Symbol P N)). Contains xs s) e h));
    all = λ s (d, held, named, path). absurd (contains_nil d held);
  }

  pub declaring_some : (ds : List (Declaration P N)) (i : ℕ) (d : Declaration P N) (n : N) (s : Symbol P N) (mid to : List (Symbol P N)) → i < length ds → d ≡ slice_index_or ds i d → d.name ≡ Some n
      → s.path ≡ t.path → s.name ≡ n → Gains [] mid (IsDeclaredAmong t (take i ds)) → to ≡ mid ++ s ∷ [] → Gains [] to (IsDeclaredAmong t (take (i + 1) ds))
  declaring_some ds i d n s mid to b is named path name g e =
      let more : take (i + 1) ds ≡ take i ds ++ d ∷ [] = take_more ds i d b ∙ ap (λ (x : Declaration P N). take i ds ++ x ∷ []) (sym is) in
      record {
        kept = λ x h. absurd (contains_nil x h);
        only = λ x h. elim (Contains-push_cases mid s x (subst (λ (xs : List (Symbol P N)). Contains xs x) e h)) [
          | inl old ↦ elim (g.only x old) [
            | inl before ↦ inl before
            | inr (y, held, f, p) ↦ inr (y, subst (λ (xs : List (Declaration P N)). Contains xs y) (sym more) (Contains-append_left (take i ds) (d ∷ []) y held), f, p)
          ]
          | inr same ↦ inr (
            d,
            subst (λ (xs : List (Declaration P N)). Contains xs d) (sym more) (Contains-push (take i ds) d),
            named ∙ ap Some (sym name ∙ ap (λ (z : Symbol P N). z.name) same),
            sym (ap (λ (z : Symbol P N). z.path) same) ∙ path,
          )
        ];
        all = λ x (y, held, f, p). elim (Contains-push_cases (take i ds) d y (subst (λ (xs : List (Declaration P N)). Contains xs y) more held)) [
          | inl old ↦ subst (λ (xs : List (Symbol P N)). Contains xs x) (sym e) (Contains-append_left mid (s ∷ []) x (g.all x (y, old, f, p)))
          | inr same ↦
              (let h : Some n ≡ Some x.name = sym named ∙ (ap (λ (z : Declaration P N). z.name) same ∙ f) in
              let j : n ≡ x.name = cc in
              subst (λ (xs : List (Symbol P N)). Contains xs x) (sym e)
              (subst (λ (z : Symbol P N). Contains (mid ++ s ∷ []) z) (same_symbol s x (path ∙ sym p) (name ∙ j)) (Contains-push mid s)))
        ];
      }
    where
      same_symbol : (a b : Symbol P N) → a.path ≡ b.path → a.name ≡ b.name → a ≡ b
      same_symbol a b f g = ap (λ (p : P). record { path = p; name = a.name }) f ∙ ap (λ (m : N). record { path = b.path; name = m }) g

  pub declaring_none : (ds : List (Declaration P N)) (i : ℕ) (d : Declaration P N) (mid : List (Symbol P N)) → i < length ds → d ≡ slice_index_or ds i d → d.name ≡ None
      → Gains [] mid (IsDeclaredAmong t (take i ds)) → Gains [] mid (IsDeclaredAmong t (take (i + 1) ds))
  declaring_none ds i d mid b is unnamed g =
      let more : take (i + 1) ds ≡ take i ds ++ d ∷ [] = take_more ds i d b ∙ ap (λ (x : Declaration P N). take i ds ++ x ∷ []) (sym is) in
      record {
        kept = λ x h. absurd (contains_nil x h);
        only = λ x h. elim (g.only x h) [
          | inl before ↦ inl before
          | inr (y, held, f, p) ↦ inr (y, subst (λ (xs : List (Declaration P N)). Contains xs y) (sym more) (Contains-append_left (take i ds) (d ∷ []) y held), f, p)
        ];
        all = λ x (y, held, f, p). elim (Contains-push_cases (take i ds) d y (subst (λ (xs : List (Declaration P N)). Contains xs y) more held)) [
          | inl old ↦ g.all x (y, old, f, p)
          | inr same ↦ absurd (let h : None ≡ Some x.name = sym unnamed ∙ (ap (λ (z : Declaration P N). z.name) same ∙ f) in cc)
        ];
      }

  pub declaring_more : (ds : List (Declaration P N)) (i : ℕ) (d : Declaration P N) (name : Option N) (mid to : List (Symbol P N)) → i < length ds → d ≡ slice_index_or ds i d → d.name ≡ name
      → to ≡ with_named t.path name mid → Gains [] mid (IsDeclaredAmong t (take i ds)) → Gains [] to (IsDeclaredAmong t (take (i + 1) ds))
  declaring_more ds i d None mid to b is named e g = subst (λ (xs : List (Symbol P N)). Gains [] xs (IsDeclaredAmong t (take (i + 1) ds))) (sym e) (declaring_none ds i d mid b is named g)
  declaring_more ds i d (Some n) mid to b is named e g = declaring_some ds i d n (record { path = t.path; name = n }) mid to b is named refl refl g e

  pub declaring_all : (ds es : List (Declaration P N)) (i : ℕ) (to : List (Symbol P N)) → ds ≡ es → length ds ≤ i → Gains [] to (IsDeclaredAmong t (take i ds)) → Gains [] to (IsDeclaredAmong t es)
  declaring_all ds es i to e b g = subst (λ (xs : List (Declaration P N)). Gains [] to (IsDeclaredAmong t xs)) (take_all i ds b ∙ e) g

module _ {P N : Type 0} {hands : P → Table P N → Type 0} {ready : P → Type 0} {root : Table P N} {task : Task P N} {limit : ℕ} {others : List (Table P N)} {ss : List (Symbol P N)} {places : List (P × ℕ)}
    {answers steps : List (LookUp P N × Symbol P N)} (t : Table P N) where
  pub import_entered : IsSoundIn hands ready root task limit others ss places answers steps → task.is_eager ≡ true → Contains (root ∷ others) t → (paths : List P) → paths ≡ map (λ i. i.path) t.imports
      → (p : P) → Contains paths p → Entered (root ∷ others) task p
  import_entered s eager held paths e p h =
      let (i, in_t, is) = contains_map (λ (x : Import P N). x.path) t.imports p (subst (λ (xs : List P). Contains xs p) e h) in
      imported t.path p t i eager (s.entered t held) (held, refl) in_t is

  pub import_can : IsSoundIn hands ready root task limit others ss places answers steps → Contains (root ∷ others) t → (paths : List P) → paths ≡ map (λ i. i.path) t.imports
      → (p : P) → Contains paths p → CanEnter ready (root ∷ others) p
  import_can s held paths e p h =
      let (i, in_t, is) = contains_map (λ (x : Import P N). x.path) t.imports p (subst (λ (xs : List P). Contains xs p) e h) in
      inl (subst (λ (q : P). ready q) is ((s.asks_ready t held).imports i in_t))

  pub symbol_reached : IsSoundIn hands ready root task limit others ss places answers steps → task.is_eager ≡ true → Contains (root ∷ others) t → (xs : List (Symbol P N)) → Gains [] xs (IsDeclaredAmong t t.declarations)
      → (x : Symbol P N) → Contains xs x → Reached (root ∷ others) task x
  symbol_reached s eager held xs g x h = elim (g.only x h) [
    | inl before ↦ absurd (contains_nil x before)
    | inr (d, in_t, named, path) ↦ declared x t eager (subst (λ (p : P). Entered (root ∷ others) task p) (sym path) (s.entered t held)) (held, sym path) (d, in_t, named)
  ]

module _ {P N : Type 0} (t : Table P N) where
  pub import_path : (paths : List P) → paths ≡ map (λ i. i.path) t.imports → (i : Import P N) → Contains t.imports i → Contains paths i.path
  import_path paths e i h = subst (λ (xs : List P). Contains xs i.path) (sym e) (map_contains (λ (x : Import P N). x.path) t.imports i h)

  pub symbol_placed : (root : Table P N) (others : List (Table P N)) → Contains (root ∷ others) t → (xs : List (Symbol P N)) → Gains [] xs (IsDeclaredAmong t t.declarations) → (x : Symbol P N) → Contains xs x → (u : Table P N) × IsAt (root ∷ others) x.path u
  symbol_placed root others held xs g x h = elim (g.only x h) [
    | inl before ↦ absurd (contains_nil x before)
    | inr (d, in_t, named, path) ↦ (t, (held, sym path))
  ]

  pub symbol_gained : (xs : List (Symbol P N)) → Gains [] xs (IsDeclaredAmong t t.declarations) → (n : N) → Declares t n → Contains xs (record { path = t.path; name = n })
  symbol_gained xs g n (d, in_t, named) = g.all (record { path = t.path; name = n }) (d, in_t, named, refl)
