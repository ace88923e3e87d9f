-- What is passed among imports in a row, and what is found there.
use Rattle.std.proofs.Common.{◌≡◌, ◌⊎◌, inl, inr, ℕ, ◌+◌, ◌<◌, ◌≤◌, Bool, true, false, List, [], ◌∷◌, ◌↔◌, map, flat_map, option_to_list, length, slice_get, Option, Some, None, IfSome, IfNone, IsTrue, is_some, Contains, arith, refl, sym, subst, ap, ◌∙◌}
use Rattle.std.proofs.lemmas.Bool.{cases_lt, false≢true}
use Rattle.std.proofs.lemmas.List.Elements.{Contains-append_cases, Contains-append_left, Contains-append_right}
use Rattle.std.proofs.lemmas.List.Sorted.{Contains-permutation, IsPermutation-sym}
use Rattle.wesl_cond_choices.specs.Places.{is_always}
use Rattle.wesl_tree_base.specs.declared.ids.NameId.{NameId}
use Rattle.wesl_link_symbols.specs.declared.ids.PathId.{PathId}
use Rattle.wesl_link_symbols.specs.declared.answer.Sought.{Sought}
use Rattle.wesl_link_symbols.specs.declared.answer.Sought.TheVariants.{Hidden, Foreign, Rival, Open, Other, Lower}
use Rattle.wesl_link_symbols.specs.declared.row.Extent.{Extent}
use Rattle.wesl_link_symbols.specs.declared.symbols.Answer.TheVariants.{Ambiguous}
use Rattle.wesl_link_symbols.specs.declared.row.Likeness.TheVariants.{Above, Alike}
use Rattle.wesl_link_symbols.specs.declared.row.Row.{Row}
use Rattle.wesl_link_symbols.specs.Names.{Imports, SameTarget, Shows, Sees, DeclaresTo, IsOpenTo, Answers}
use Rattle.wesl_link_symbols.specs.Row.{AreAlike, HasExtent, IsRun, Passes}
use Rattle.wesl_link_symbols.specs.RowView.{own_import, own_imports, IsDeclaredRow, IsRowOf, IsUnseen}
use Rattle.wesl_link_symbols.specs.Searching.{IsShownAndSeen, IsSought, IsPassed, IsPassedOf, IsTornTo, NeedsSight, PassesAbove}
use Rattle.wesl_link_symbols.specs.Tables.{Place, Import, LookUp, Declaration, Table}
use Rattle.wesl_link_symbols.proofs.Lists.{at_contains, contains_at, contains_cases, contains_first, contains_later, contains_nil, one_at}

-- ---- elements from one index to another

pub passes_one : {X : Type 0} (R : X → Type 0) (xs : List X) (i : ℕ) (x : X) → slice_get xs i ≡ Some x → R x → Passes R xs i (i + 1)
passes_one R xs i x at r k y low high here =
    let e : i ≡ k = omega (arith, low, high) in subst R (one_at xs i x y at (ap (λ (j : ℕ). slice_get xs j) e ∙ here)) r

passes_then : {X : Type 0} (R : X → Type 0) (xs : List X) (i j m : ℕ) → Passes R xs i j → Passes R xs j m → Passes R xs i m
passes_then R xs i j m first then k x low high at = elim (cases_lt k j) [ inl before ↦ first k x low before at | inr after ↦ then k x after high at ]

-- ---- options and whether there is something

found_by : {X : Type 0} (P : X → Type 0) (o : Option X) (b : Bool) → b ≡ is_some o → IfSome o P → IsTrue b → (x : X) × P x
found_by P None b e found holds = absurd (false≢true (sym e ∙ holds))
found_by P (Some x) b e found holds = (x, found)

-- ---- declarations as imports

own_there : (path : PathId) (d : Declaration PathId NameId) (name : Option NameId) (n : NameId) → name ≡ Some n → Contains (map (λ m. own_import path m d.place) (option_to_list name)) (own_import path n d.place)
own_there path d None n e = absurd (let z : ⊥ = cc in z)
own_there path d (Some m) n e = let same : m ≡ n = cc in subst (λ (k : NameId). Contains (own_import path m d.place ∷ []) (own_import path k d.place)) same (contains_first (own_import path m d.place) [])

own_only : (path : PathId) (d : Declaration PathId NameId) (name : Option NameId) (x : Import PathId NameId) → Contains (map (λ m. own_import path m d.place) (option_to_list name)) x → (name ≡ Some x.bound) × (d.place ≡ x.place)
own_only path d None x h = absurd (contains_nil x h)
own_only path d (Some m) x h = elim (contains_cases (own_import path m d.place) x [] h) [
  | inl e ↦ (ap (λ (y : Import PathId NameId). Some y.bound) e, ap (λ (y : Import PathId NameId). y.place) e)
  | inr none ↦ absurd (contains_nil x none)
]

flat_there : (path : PathId) (ds : List (Declaration PathId NameId)) (d : Declaration PathId NameId) (x : Import PathId NameId) → Contains ds d → Contains (own_imports path d) x → Contains (flat_map (own_imports path) ds) x
flat_there path [] d x h own = absurd (contains_nil d h)
flat_there path (e ∷ ds) d x h own = elim (contains_cases e d ds h) [
  | inl same ↦ Contains-append_left (own_imports path e) (flat_map (own_imports path) ds) x (subst (λ (f : Declaration PathId NameId). Contains (own_imports path f) x) (sym same) own)
  | inr later ↦ Contains-append_right (own_imports path e) (flat_map (own_imports path) ds) x (flat_there path ds d x later own)
]

flat_only : (path : PathId) (ds : List (Declaration PathId NameId)) (x : Import PathId NameId) → Contains (flat_map (own_imports path) ds) x
    → (d : Declaration PathId NameId) × Contains ds d × (d.name ≡ Some x.bound) × (d.place ≡ x.place)
flat_only path [] x h = absurd (contains_nil x h)
flat_only path (e ∷ ds) x h = elim (Contains-append_cases (own_imports path e) (flat_map (own_imports path) ds) x h) [
  | inl here ↦ let own = own_only path e e.name x here in (e, contains_first e ds, own.0, own.1)
  | inr later ↦ let (d, held, named, placed) = flat_only path ds x later in (d, contains_later e d ds held, named, placed)
]

module _ (t : Table PathId NameId) (l : LookUp PathId NameId) where
  -- ---- what is passed

  shown_alike : (i j : Import PathId NameId) → AreAlike i j → Shows l.asker t.path j → Shows l.asker t.path i
  shown_alike i j a (inl e) = inl (a.published ∙ e)
  shown_alike i j a (inr e) = inr e

  shown_back : (i j : Import PathId NameId) → AreAlike i j → Shows l.asker t.path i → Shows l.asker t.path j
  shown_back i j a (inl e) = inl (sym a.published ∙ e)
  shown_back i j a (inr e) = inr e

  -- what is alike to one that is seen and passed
  alike_passed : (sought : Sought) (i j : Import PathId NameId) → Sees t l.from i.place → AreAlike i j → IsPassed t l sought i → IsPassed t l sought j
  alike_passed Hidden i j sees a p = shown_back i j a p
  alike_passed Foreign i j sees a p = λ s.
      let own = p (shown_alike i j a s.0, sees) in (sym a.target.path ∙ own.0, sym a.target.item ∙ (own.1 ∙ a.target.bound))
  alike_passed (Rival x) i j sees a p = λ s.
      let alone = p (shown_alike i j a s.0, sees) in
      ((alone.0.0 ∙ a.target.path, alone.0.1 ∙ a.target.item), λ low. alone.1 (omega (arith, low, a.order)) ∙ a.from)
  alike_passed Open i j sees a p = λ s. p (shown_alike i j a s.0, sees)
  alike_passed (Other x) i j sees a p = λ s. let same = p (shown_alike i j a s.0, sees) in (same.0 ∙ a.target.path, same.1 ∙ a.target.item)
  alike_passed (Lower x) i j sees a p = λ s. let low : x.order ≤ i.order = p (shown_alike i j a s.0, sees) in omega (arith, low, a.order)

  not_seen : (i : Import PathId NameId) → IsUnseen t.alive l.from i → Sees t l.from i.place → ⊥
  not_seen i unseen (inl always) = false≢true (sym unseen.0 ∙ ap is_always always)
  not_seen i unseen (inr together) = false≢true (sym unseen.1 ∙ together)

  unseen_passed : (sought : Sought) (i : Import PathId NameId) → NeedsSight sought → IsUnseen t.alive l.from i → IsPassed t l sought i
  unseen_passed Hidden i needs unseen = absurd needs
  unseen_passed Foreign i needs unseen = λ s. absurd (not_seen i unseen s.1)
  unseen_passed (Rival x) i needs unseen = λ s. absurd (not_seen i unseen s.1)
  unseen_passed Open i needs unseen = λ s. not_seen i unseen s.1
  unseen_passed (Other x) i needs unseen = λ s. absurd (not_seen i unseen s.1)
  unseen_passed (Lower x) i needs unseen = λ s. absurd (not_seen i unseen s.1)

  module _ (sought : Sought) (row : List (Import PathId NameId)) where
    pub unseen_run : (i j : ℕ) → NeedsSight sought → Passes (IsUnseen t.alive l.from) row i j → Passes (IsPassedOf t l sought) row i j
    unseen_run i j needs unseen k x low high at named = unseen_passed sought x needs (unseen k x low high at)

    pub above_run : (i end : ℕ) (x : Import PathId NameId) → slice_get row i ≡ Some x → PassesAbove t sought x → IsRun Above row i end → Passes (IsPassedOf t l sought) row i end
    above_run i end x there above run k y low high at named = above l y (run.1 x there k y low high at)

    pub alike_run : (i end : ℕ) (x : Import PathId NameId) → slice_get row i ≡ Some x → Sees t l.from x.place → Passes (IsPassedOf t l sought) row i (i + 1) → IsRun Alike row i end
        → Passes (IsPassedOf t l sought) row i end
    alike_run i end x there sees passed run k y low high at named =
        let a = run.1 x there k y low high at in
        alike_passed sought x y sees a (passed i x (omega arith) (omega arith) there (a.target.bound ∙ named))

    -- one import more, and those behind it
    pub step_on : (start i m next : ℕ) → NeedsSight sought → Passes (IsPassedOf t l sought) row start i → Passes (IsPassedOf t l sought) row i m → Passes (IsUnseen t.alive l.from) row m next
        → Passes (IsPassedOf t l sought) row start next
    step_on start i m next needs before here unseen =
        let R : Import PathId NameId → Type 0 = IsPassedOf t l sought in
        passes_then R row start m next (passes_then R row start i m before here) (unseen_run m next needs unseen)

  -- ---- what is found

  pub found_there : (row : Row) (o : Option (Import PathId NameId)) (sought : Sought) → IsRowOf t.alive t.imports row
      → IfSome o (λ i. Contains row.imports.items i × (i.bound ≡ l.name) × IsSought t l sought i) → IfSome o (λ i. Imports t l.name i × IsSought t l sought i)
  found_there row None sought of found = tt
  found_there row (Some i) sought of found =
      ((Contains-permutation row.imports.items t.imports i (IsPermutation-sym t.imports row.imports.items of.all) found.0, found.1), found.2)

  pub none_there : (row : Row) (o : Option (Import PathId NameId)) (sought : Sought) → IsRowOf t.alive t.imports row
      → IfNone o ((i : Import PathId NameId) → Contains row.imports.items i → IsPassedOf t l sought i) → IfNone o ((i : Import PathId NameId) → Imports t l.name i → IsPassed t l sought i)
  none_there row None sought of none = λ i held. none i (Contains-permutation t.imports row.imports.items i of.all held.0) held.1
  none_there row (Some i) sought of none = tt

  pub all_passed : (sought : Sought) (row : List (Import PathId NameId)) (e : Extent) (i : ℕ) → HasExtent row l.name e → e.end ≤ i → Passes (IsPassedOf t l sought) row e.start i
      → (x : Import PathId NameId) → Contains row x → IsPassedOf t l sought x
  all_passed sought row e i extent past passed x held named =
      let (k, b, at) = contains_at row x held in
      let within = extent k x at named in
      passed k x within.0 (omega (arith, within.1, past)) at named

  followed_by : (i : Import PathId NameId) → Imports t l.name i → IsShownAndSeen t l i → IsOpenTo t l i
  followed_by i held s = (held, s.0, s.1)

  pub torn_by : (first : Import PathId NameId) (o : Option (Import PathId NameId)) (b : Bool) → b ≡ is_some o → Imports t l.name first × IsShownAndSeen t l first
      → IfSome o (λ i. Imports t l.name i × IsSought t l (Other first) i) → IsTrue b → IsTornTo t l
  torn_by first o b e may found holds =
      let (j, found2) = found_by (λ i. Imports t l.name i × IsSought t l (Other first) i) o b e found holds in
      (first, j, followed_by first may.0 may.1, followed_by j found2.0 found2.1.0, found2.1.1)

  pub torn_answer : (DeclaresTo t l → ⊥) → IsTornTo t l → Answers t l Ambiguous
  torn_answer none (i, j, one, other, differ) = inr (inl (none, i, j, one, other, differ))

  pub declared_by : (row : Row) (o : Option (Import PathId NameId)) (b : Bool) → b ≡ is_some o → IsDeclaredRow t.alive t.path t.declarations row
      → IfSome o (λ i. Contains row.imports.items i × (i.bound ≡ l.name) × IsSought t l Open i) → IfNone o ((i : Import PathId NameId) → Contains row.imports.items i → IsPassedOf t l Open i)
      → IsTrue b ↔ DeclaresTo t l
  declared_by row (Some x) b e of found none =
      let own : List (Import PathId NameId) = flat_map (own_imports t.path) t.declarations in
      let (d, held, named, placed) = flat_only t.path t.declarations x (Contains-permutation row.imports.items own x (IsPermutation-sym own row.imports.items of.all) found.0) in
      (λ yes. (d, held, named ∙ ap Some found.1, subst (λ (p : Place). Sees t l.from p) (sym placed) found.2.1), λ declares. e)
  declared_by row None b e of found none = (
    λ yes. absurd (false≢true (sym e ∙ yes)),
    λ (d, held, named, sees).
        let own : List (Import PathId NameId) = flat_map (own_imports t.path) t.declarations in
        let x : Import PathId NameId = own_import t.path l.name d.place in
        let there : Contains own x = flat_there t.path t.declarations d x held (own_there t.path d d.name l.name named) in
        absurd (none x (Contains-permutation own row.imports.items x of.all there) refl (inl refl, sees)),
  )
