-- Lists without keys, and what a module tells of clashes.
use Rattle.std.proofs.Common.{◌≡◌, ◌⊎◌, inl, inr, ℕ, ◌<◌, ◌+◌, List, [], length, take, slice_index_or, Some, Contains, subst, sym, ap, ◌∙◌}
use Rattle.wesl_link_symbols.specs.declared.symbols.Import.{Import}
use Rattle.wesl_link_symbols.specs.Keyed.{HaveTheSame}
use Rattle.wesl_link_symbols.specs.Tables.{Table}
use Rattle.wesl_link_symbols.proofs.Lists.{contains_nil}
use Rattle.wesl_link_reach.specs.Asked.{Gains}
use Rattle.wesl_link_reach.specs.Faults.{AreDistinct, Clashes}
use Rattle.wesl_link_reach.specs.Faults.AreDistinct.{none as none_distinct}
use Rattle.wesl_link_reach.proofs.Growing.{first_more}
use Rattle.wesl_link_flaws.proofs.Clashing.{imports_clear}
use Rattle.wesl_link_flaws.specs.declared.told.Told.{Told}
use Rattle.wesl_link_flaws.specs.Flaws.{IsClashOf, IsSeen, clash_told}

pub same_none : {K : Type 0} (xs ys : List K) → xs ≡ [] → ys ≡ [] → HaveTheSame xs ys
same_none {K} xs ys e f k =
    (λ h. absurd (contains_nil k (subst (λ (zs : List K). Contains zs k) e h)), λ h. absurd (contains_nil k (subst (λ (zs : List K). Contains zs k) f h)))

pub distinct_none : {K : Type 0} (xs : List K) → xs ≡ [] → AreDistinct xs
distinct_none {K} xs e = subst (λ (zs : List K). AreDistinct zs) (sym e) none_distinct

module _ {P N : Type 0} (t : Table P N) where
  -- of the imports that were gone over each is seen
  pub record IsTelling (from to : List (Told P N)) (gone : List (Import P N)) : Type 0 where
    pub kept : (f : Told P N) → Contains from f → Contains to f
    pub only : (f : Told P N) → Contains to f → Contains from f ⊎ IsClashOf t f
    pub seen : (i : Import P N) → Contains gone i → IsSeen t to i

  pub telling_start : (from : List (Told P N)) → IsTelling from from []
  telling_start from = record { kept = λ f h. h; only = λ f h. inl h; seen = λ i h. absurd (contains_nil i h) }

  pub telling_next : (from mid to : List (Told P N)) (is : List (Import P N)) (k : ℕ) (d : Import P N) → k < length is → IsTelling from mid (take k is)
      → ((f : Told P N) → Contains mid f → Contains to f) → ((f : Told P N) → Contains to f → Contains mid f ⊎ IsClashOf t f) → IsSeen t to (slice_index_or is k d)
      → IsTelling from to (take (k + 1) is)
  telling_next from mid to is k d b telling kept only here = record {
    kept = λ f h. kept f (telling.kept f h);
    only = λ f h. elim (only f h) [ inl old ↦ telling.only f old | inr new ↦ inr new ];
    seen = first_more (IsSeen t to) is k d b (λ i h. elim (telling.seen i h) [ inl told ↦ inl (kept _ told) | inr alone ↦ inr alone ]) here;
  }

  pub telling_all : (from to : List (Told P N)) (is : List (Import P N)) → IsTelling from to is → ((i : Import P N) → Contains t.imports i → Contains is i) → Gains from to (IsClashOf t)
  telling_all from to is telling whole = record {
    kept = telling.kept;
    only = telling.only;
    all = λ f (n, clash, e). subst (λ (x : Told P N). Contains to x) (sym e) (told n clash);
  }
    where
      named : (n : N) (i : Import P N) → i.bound ≡ n → Contains to (clash_told t i.bound) → Contains to (clash_told t n)
      named n i e h = subst (λ (x : N). Contains to (clash_told t x)) e h

      told : (n : N) → Clashes t n → Contains to (clash_told t n)
      told n (inl (i, j, first, second, meet, differ)) = elim (telling.seen i (whole i first.0)) [
        | inl h ↦ named n i first.1 h
        | inr alone ↦ elim (telling.seen j (whole j second.0)) [
          | inl h ↦ named n j second.1 h
          | inr alone2 ↦ absurd (differ (imports_clear t n i j first second meet alone.1 alone2.1))
        ]
      ]
      told n (inr (d, i, held, is_named, (held2, e), meet, other)) = elim (telling.seen i (whole i held2)) [
        | inl h ↦ named n i e h
        | inr alone ↦ elim alone.0 [ inl own ↦ absurd (other own) | inr free ↦ absurd (free d held (is_named ∙ ap Some (sym e)) meet) ]
      ]
