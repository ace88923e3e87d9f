-- What a module answers, by what its imports were searched for.
use Rattle.std.proofs.Common.{◌≡◌, ◌⊎◌, inl, inr, ℕ, ◌≤◌, length, slice_index_or, List, Option, Some, None, IfSome, IfNone, arith, subst, sym, refl, ap, ◌∙◌}
use Rattle.wesl_link_symbols.specs.declared.symbols.Answer.TheVariants.{Declared, Next, Missing, Ambiguous}
use Rattle.wesl_link_symbols.specs.Tables.{Place, Import, LookUp, Table}
use Rattle.wesl_link_symbols.specs.Names.{Imports, SameTarget, IsOwn, Shows, DeclaresTo, IsOpenTo, IsAskedTo, asked_by, Answers}
use Rattle.wesl_link_symbols.specs.Index.{Binds, IsLast}
use Rattle.wesl_link_symbols.specs.Searching.{IsShownAndSeen, IsRival, IsNoRival, IsNoHigher}
use Rattle.wesl_link_symbols.proofs.Indexing.{IsGoneOver, over_start, over_index, over_found, over_next, over_all, over_with}

module _ {P N : Type 0} (t : Table P N) (l : LookUp P N) where
  -- ---- the lowest of the imports that were gone over

  -- it may be followed, and its order is at most that of each that was gone over and may be
  pub record IsLowest (at : Option ℕ) (o : Option (Import P N)) : Type 0 where
    pub one : IfSome o (λ i. IsOpenTo t l i)
    pub over : IsGoneOver (Binds l.name) (λ i. IsShownAndSeen t l i → IsNoHigher o i) t.imports at

  pub lowest_asked : (at : Option ℕ) (o : Option (Import P N)) → at ≡ None → IsLowest at o → IfSome o (λ i. IsAskedTo t l i)
  lowest_asked at None is low = tt
  lowest_asked at (Some i) is low =
      (low.one, λ j seen. over_all (Binds l.name) (λ x. IsShownAndSeen t l x → i.order ≤ x.order) t.imports at is low.over j seen.0.0 seen.0.1 (seen.1, seen.2))

  pub lowest_none : (at : Option ℕ) (o : Option (Import P N)) → at ≡ None → IsLowest at o → IfNone o ((i : Import P N) → IsOpenTo t l i → ⊥)
  lowest_none at None is low = λ j seen. over_all (Binds l.name) (λ x. IsShownAndSeen t l x → ⊥) t.imports at is low.over j seen.0.0 seen.0.1 (seen.1, seen.2)
  lowest_none at (Some i) is low = tt

  pub lowest_start : (at : Option ℕ) (o : Option (Import P N)) → o ≡ None → IsLast (Binds l.name) t.imports (length t.imports) at → IsLowest at o
  lowest_start at o e last = record {
    one = subst (λ (q : Option (Import P N)). IfSome q (λ i. IsOpenTo t l i)) (sym e) tt;
    over = over_start (Binds l.name) (λ i. IsShownAndSeen t l i → IsNoHigher o i) t.imports at last;
  }

  lower_one : (before o : Option (Import P N)) (x : Import P N) → IfSome before (λ i. IsOpenTo t l i) → Imports t l.name x → IfSome o (λ i. (before ≡ Some i) ⊎ ((i ≡ x) × IsShownAndSeen t l i)) → IfSome o (λ i. IsOpenTo t l i)
  lower_one before None x one held from = tt
  lower_one before (Some i) x one held (inl e) = subst (λ (q : Option (Import P N)). IfSome q (λ j. IsOpenTo t l j)) e one
  lower_one before (Some i) x one held (inr (e, seen)) = (subst (λ (y : Import P N). Imports t l.name y) (sym e) held, seen.0, seen.1)

  no_higher : (before o : Option (Import P N)) → ((i : Import P N) → before ≡ Some i → IsNoHigher o i) → (i : Import P N) → IsNoHigher before i → IsNoHigher o i
  no_higher None o below i h = absurd h
  no_higher (Some x) None below i h = absurd (below x refl)
  no_higher (Some x) (Some y) below i h = let g : y.order ≤ x.order = below x refl in omega arith

  pub lowest_next : (at : Option ℕ) (k : ℕ) (x : Import P N) (next : Option ℕ) (before o : Option (Import P N)) (ys : List (Import P N)) → at ≡ Some k → IsLowest at before → ys ≡ t.imports
      → IfSome o (λ i. (before ≡ Some i) ⊎ ((i ≡ slice_index_or ys k x) × IsShownAndSeen t l i)) → ((i : Import P N) → before ≡ Some i → IsNoHigher o i)
      → (IsShownAndSeen t l (slice_index_or ys k x) → IsNoHigher o (slice_index_or ys k x)) → IsLast (Binds l.name) t.imports k next → IsLowest next o
  lowest_next at k x next before o ys is low e from below here last =
      let named : Import P N → Type 0 = Binds l.name in
      let old : Import P N → Type 0 = λ i. IsShownAndSeen t l i → IsNoHigher before i in
      let new : Import P N → Type 0 = λ i. IsShownAndSeen t l i → IsNoHigher o i in
      let there = over_index named old t.imports at k ys x is low.over e in
      record {
        one = lower_one before o (slice_index_or ys k x) low.one (over_found named old t.imports at k (slice_index_or ys k x) is low.over there) from;
        over = over_next named new t.imports at k (slice_index_or ys k x) next is (over_with named old new t.imports at (λ i h seen. no_higher before o below i (h seen)) low.over) there here last;
      }

  -- ---- answers

  pub declared_alone : DeclaresTo t l → ((i : Import P N) → Imports t l.name i → IsShownAndSeen t l i → IsOwn t.path i) → Answers t l Declared
  declared_alone d own = (d, λ i seen. own i seen.0 (seen.1, seen.2))

  asks_alike : (i j : Import P N) → SameTarget i j → i.from ≡ j.from → asked_by t i ≡ asked_by t j
  asks_alike i j (p, n) f =
      ap (λ (x : P). record { asker = Some t.path; path = x; name = i.item; from = i.from }) p
      ∙ (ap (λ (x : N). record { asker = Some t.path; path = j.path; name = x; from = i.from }) n
      ∙ ap (λ (x : Place). record { asker = Some t.path; path = j.path; name = j.item; from = x }) f)

  pub asked_alone : (DeclaresTo t l → ⊥) → (i : Import P N) → IsAskedTo t l i → ((j : Import P N) → Imports t l.name j → IsShownAndSeen t l j → IsNoRival i j) → (n : LookUp P N) → n ≡ asked_by t i
      → Answers t l (Next n)
  asked_alone none i asked alone n is = (
    none,
    λ j k p q. (sym (like j p).0.0 ∙ (like k q).0.0, sym (like j p).0.1 ∙ (like k q).0.1),
    (i, asked, is),
    λ j other. is ∙ asks_alike i j (like j other.0).0 ((like j other.0).1 (other.1 i asked.0)),
  )
    where
      like : (j : Import P N) → IsOpenTo t l j → IsNoRival i j
      like j p = alone j p.0 (p.1, p.2)

  pub asked_torn : (DeclaresTo t l → ⊥) → (i : Import P N) → IsAskedTo t l i → ((j : Import P N) × Imports t l.name j × (IsShownAndSeen t l j × IsRival i j)) → Answers t l Ambiguous
  asked_torn none i asked (j, held, (seen, inl differ)) = inr (inl (none, i, j, asked.0, (held, seen.0, seen.1), differ))
  asked_torn none i asked (j, held, (seen, inr (low, differ))) =
      inr (inr (none, i, j, asked, ((held, seen.0, seen.1), λ k p. (let least : i.order ≤ k.order = asked.1 k p in omega arith)), λ e. differ (ap (λ (x : LookUp P N). x.from) e)))

  pub closed_missing : (DeclaresTo t l → ⊥) → ((i : Import P N) → IsOpenTo t l i → ⊥) → ((i : Import P N) → Imports t l.name i → Shows l.asker t.path i) → Answers t l Missing
  closed_missing none closed shown = (none, closed, λ i hidden. hidden.1 (shown i hidden.0))
