-- Runs of imports in a row, and where those of a name stand.
use Rattle.std.proofs.Common.{◌≡◌, ◌⊎◌, inl, inr, ℕ, suc, ◌+◌, ◌-◌, ◌<◌, ◌≤◌, List, [], map, length, set, slice_get, slice_index_or, option_map, Option, Some, None, IfSome, IfNone, Contains, arith, refl, sym, subst, ap, ◌∙◌}
use Rattle.std.proofs.lemmas.List.{get_or-set_same, get_or-set_other, length-set}
use Rattle.std.proofs.lemmas.Option.{slice_get_within, slice_get-get_or, slice_get-map, get_or_from_slice_get}
use Rattle.std.proofs.Math.Nat.{eq-or-lt_of_le}
use Rattle.wesl_cond_choices.specs.declared.place.Place.{Place}
use Rattle.wesl_cond_covers.specs.Unseen.{AreUnseen}
use Rattle.wesl_tree_base.specs.declared.ids.NameId.{NameId}
use Rattle.wesl_link_symbols.specs.declared.ids.PathId.{PathId}
use Rattle.wesl_link_symbols.specs.declared.row.Extent.{Extent}
use Rattle.wesl_link_symbols.specs.declared.row.Likeness.{Likeness}
use Rattle.wesl_link_symbols.specs.declared.row.Likeness.TheVariants.{Above, Alike}
use Rattle.wesl_link_symbols.specs.declared.symbols.Import.{Import}
use Rattle.wesl_link_symbols.specs.Keyed.{Puts}
use Rattle.wesl_link_symbols.specs.Row.{AreAlike, AreExtents, AreRunsFrom, HasExtent, HaveOneTarget, IsAbove, IsLike, IsRun, IsWidened, Passes}
use Rattle.wesl_link_symbols.specs.RowView.{IsUnseen}
use Rattle.wesl_link_symbols.proofs.Lists.{contains_nil, one_at}

-- ---- what is put at an index, and what stays at others
put_here : (ends : List ℕ) (i e end : ℕ) → i < length ends → slice_get (set ends i e) i ≡ Some end → e ≡ end
put_here ends i e end inside at = sym (get_or-set_same ends i e 0 inside) ∙ get_or_from_slice_get (set ends i e) i end 0 at

put_there : (ends : List ℕ) (i k e end : ℕ) → i < k → slice_get (set ends i e) k ≡ Some end → slice_get ends k ≡ Some end
put_there ends i k e end beyond at =
    let b : k < length (set ends i e) = slice_get_within (set ends i e) k end at in
    let long : length (set ends i e) ≡ length ends = length-set ends i e in
    let apart : k ≡ i → ⊥ = λ same. omega (arith, beyond, same) in
    slice_get-get_or ends k 0 (omega (arith, b, long)) ∙ ap Some (sym (get_or-set_other ends i k e 0 apart) ∙ get_or_from_slice_get (set ends i e) k end 0 at)

module _ {P N : Type 0} where
  -- ---- runs

  target_itself : (i : Import P N) → HaveOneTarget i i
  target_itself i = record { bound = refl; path = refl; item = refl }

  target_then : (i j k : Import P N) → HaveOneTarget i j → HaveOneTarget j k → HaveOneTarget i k
  target_then i j k a b = record { bound = a.bound ∙ b.bound; path = a.path ∙ b.path; item = a.item ∙ b.item }

  pub like_itself : (l : Likeness) (i : Import P N) → IsLike l i i
  like_itself Alike i = record { target = target_itself i; published = refl; from = refl; order = refl }
  like_itself Above i = record { target = target_itself i; order = omega arith }

  like_then : (l : Likeness) (i j k : Import P N) → IsLike l i j → IsLike l j k → IsLike l i k
  like_then Alike i j k a b = record { target = target_then i j k a.target b.target; published = a.published ∙ b.published; from = a.from ∙ b.from; order = a.order ∙ b.order }
  like_then Above i j k a b = record { target = target_then i j k a.target b.target; order = omega (arith, a.order, b.order) }

  -- what follows on an import which is followed by one that is like it
  joined : (l : Likeness) (row : List (Import P N)) (i end : ℕ) (x y : Import P N) → slice_get row i ≡ Some x → slice_get row (i + 1) ≡ Some y → IsLike l x y → IsRun l row (i + 1) end
      → (k : ℕ) (w : Import P N) → (i ≡ k) ⊎ (i < k) → k < end → slice_get row k ≡ Some w → IsLike l x w
  joined l row i end x y at next like run k w (inl same) high here = subst (λ (v : Import P N). IsLike l x v) (one_at row i x w at (ap (λ (j : ℕ). slice_get row j) same ∙ here)) (like_itself l x)
  joined l row i end x y at next like run k w (inr beyond) high here = like_then l x y w like (run.1 y next k w (omega (arith, beyond)) high here)

  pub run_joined : (l : Likeness) (row : List (Import P N)) (ends : List ℕ) (i : ℕ) (c d : Import P N) (e : ℕ) → i + 1 < length row → AreRunsFrom l row (i + 1) ends
      → IsLike l (slice_index_or row i c) (slice_index_or row (i + 1) d) → IsRun l row i (slice_index_or ends (i + 1) e)
  run_joined l row ends i c d e inside runs like =
      let x = slice_index_or row i c in
      let y = slice_index_or row (i + 1) d in
      let at : slice_get row i ≡ Some x = slice_get-get_or row i c (omega (arith, inside)) in
      let next : slice_get row (i + 1) ≡ Some y = slice_get-get_or row (i + 1) d inside in
      let run : IsRun l row (i + 1) (slice_index_or ends (i + 1) e) =
      runs.each (i + 1) (slice_index_or ends (i + 1) e) (omega arith) (slice_get-get_or ends (i + 1) e (omega (arith, inside, runs.long))) in (
        omega (arith, run.0),
        λ z there k w low high here.
            subst (λ (v : Import P N). IsLike l v w) (one_at row i x z at there) (joined l row i (slice_index_or ends (i + 1) e) x y at next like run k w (eq-or-lt_of_le low) high here),
      )

  pub run_at : (l : Likeness) (row : List (Import P N)) (ends : List ℕ) (i d : ℕ) → i < length row → AreRunsFrom l row 0 ends → IsRun l row i (slice_index_or ends i d)
  run_at l row ends i d inside runs = runs.each i (slice_index_or ends i d) (omega arith) (slice_get-get_or ends i d (omega (arith, inside, runs.long)))

  pub ends_start : (l : Likeness) (row : List (Import P N)) (ends : List ℕ) → length ends ≡ length row → AreRunsFrom l row (length row) ends
  ends_start l row ends long = record { long = long; each = λ i end above at. absurd (let b = slice_get_within ends i end at in omega arith) }

  pub ends_next : (l : Likeness) (row : List (Import P N)) (ends : List ℕ) (i : ℕ) → 0 < i → AreRunsFrom l row i ends → AreRunsFrom l row (i - 1 + 1) ends
  ends_next l row ends i some runs = let e : i ≡ i - 1 + 1 = omega (arith, some) in subst (λ (n : ℕ). AreRunsFrom l row n ends) e runs

  pub ends_more : (l : Likeness) (row : List (Import P N)) (ends : List ℕ) (i e : ℕ) → i < length row → AreRunsFrom l row (i + 1) ends → IsRun l row i e → AreRunsFrom l row i (set ends i e)
  ends_more l row ends i e inside runs run = record {
    long = length-set ends i e ∙ runs.long;
    each = λ k end above at. elim (eq-or-lt_of_le above) [
      | inl same ↦
          let here : slice_get (set ends i e) i ≡ Some end = ap (λ (j : ℕ). slice_get (set ends i e) j) same ∙ at in
          subst (λ (j : ℕ). IsRun l row j end) same (subst (λ (m : ℕ). IsRun l row i m) (put_here ends i e end (omega (arith, inside, runs.long)) here) run)
      | inr beyond ↦ runs.each k end (omega (arith, beyond)) (put_there ends i k e end beyond at)
    ];
  }

  -- ---- where the imports of a name stand

  pub extents_start : (row : List (Import P N)) (extents : List (N × Extent)) → extents ≡ [] → AreExtents row 0 extents
  extents_start row extents none = record {
    within = λ name e h. absurd (contains_nil (name, e) (subst (λ (es : List (N × Extent)). Contains es (name, e)) none h));
    held = λ name e h k x b at named. absurd (omega (arith, b));
    all = λ k x b at no. omega (arith, b);
  }

  -- the extent that reaches over one import more
  reaches : (row : List (Import P N)) (n : ℕ) (name : N) (o : Option Extent) (e : Extent) (old : List (N × Extent)) → AreExtents row n old → IfSome o (λ v. Contains old (name, v))
      → IfNone o ((v : Extent) → Contains old (name, v) → ⊥) → IsWidened o n e → (e.start ≤ n) × (e.end ≡ suc n) × ((k : ℕ) (x : Import P N) → k < n → slice_get row k ≡ Some x → x.bound ≡ name → e.start ≤ k)
  reaches row n name None e old h found none (start, end) = (
    omega (arith, start),
    end,
    λ k x b at named. absurd (h.all k x b at (λ v held. none v (subst (λ (m : N). Contains old (m, v)) named held))),
  )
  reaches row n name (Some v) e old h found none (start, end) =
      let w = h.within name v found in
      (omega (arith, start, w.0, w.1), end, λ k x b at named. let g = h.held name v found k x b at named in omega (arith, start, g.0))

  pub extents_more : (row : List (Import P N)) (n : ℕ) (d : Import P N) (o : Option Extent) (e : Extent) (old fresh : List (N × Extent)) → n < length row → AreExtents row n old
      → IfSome o (λ v. Contains old ((slice_index_or row n d).bound, v)) → IfNone o ((v : Extent) → Contains old ((slice_index_or row n d).bound, v) → ⊥) → IsWidened o n e
      → Puts old (slice_index_or row n d).bound e fresh → AreExtents row (n + 1) fresh
  extents_more row n d o e old fresh inside h found none wide put =
      let y = slice_index_or row n d in
      let here : slice_get row n ≡ Some y = slice_get-get_or row n d inside in
      let (start, end, over) = reaches row n y.bound o e old h found none wide in
      record {
        within = λ name f held. elim (put.only name f held) [
          | inl (same, is) ↦ subst (λ (g : Extent). (g.start ≤ g.end) × (g.end ≤ n + 1)) (sym is) (omega (arith, start, end), omega (arith, end))
          | inr (differ, before) ↦ let w = h.within name f before in (w.0, omega (arith, w.1))
        ];
        held = λ name f held k x b at named. elim (put.only name f held) [
          | inl (same, is) ↦ subst (λ (g : Extent). (g.start ≤ k) × (k < g.end)) (sym is)
              (elim (eq-or-lt_of_le (let c : k ≤ n = omega (arith, b) in c)) [
                | inl last ↦ (omega (arith, start, last), omega (arith, end, last))
                | inr earlier ↦ (over k x earlier at (named ∙ same), omega (arith, end, earlier))
              ])
          | inr (differ, before) ↦ elim (eq-or-lt_of_le (let c : k ≤ n = omega (arith, b) in c)) [
            | inl last ↦ absurd (differ (sym named ∙ ap (λ (z : Import P N). z.bound) (one_at row n x y (ap (λ (j : ℕ). slice_get row j) (sym last) ∙ at) here)))
            | inr earlier ↦ h.held name f before k x earlier at named
          ]
        ];
        all = λ k x b at no. elim (eq-or-lt_of_le (let c : k ≤ n = omega (arith, b) in c)) [
          | inl last ↦
              let same : x ≡ y = one_at row n x y (ap (λ (j : ℕ). slice_get row j) (sym last) ∙ at) here in
              no e (subst (λ (m : N). Contains fresh (m, e)) (sym (ap (λ (z : Import P N). z.bound) same)) put.has)
          | inr earlier ↦ h.all k x earlier at (λ v before. elim (put.keeps x.bound v before) [
            | inl same ↦ no e (subst (λ (m : N). Contains fresh (m, e)) (sym same) put.has)
            | inr kept ↦ no v kept
          ])
        ];
      }

  pub extent_there : (row : List (Import P N)) (name : N) (extents : List (N × Extent)) (e : Extent) → AreExtents row (length row) extents → Contains extents (name, e) → HasExtent row name e
  extent_there row name extents e h held k x at named = h.held name e held k x (slice_get_within row k x at) at named

  pub extent_none : (row : List (Import P N)) (name : N) (extents : List (N × Extent)) (e : Extent) → AreExtents row (length row) extents → ((v : Extent) → Contains extents (name, v) → ⊥) → HasExtent row name e
  extent_none row name extents e h none k x at named =
      absurd (h.all k x (slice_get_within row k x at) at (λ v held. none v (subst (λ (m : N). Contains extents (m, v)) named held)))

-- ---- what is not seen

pub unseen_of : (alive : List (List Place)) (row : List (Import PathId NameId)) (from : Place) (i j : ℕ) → AreUnseen alive (map (λ x. x.place) row) from i j → Passes (IsUnseen alive from) row i j
unseen_of alive row from i j unseen k x low high at =
    unseen k x.place low high (slice_get-map (λ (y : Import PathId NameId). y.place) row k ∙ ap (option_map (λ (y : Import PathId NameId). y.place)) at)
