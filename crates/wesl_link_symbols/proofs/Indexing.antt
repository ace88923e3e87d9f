-- How the indexes of a module are kept as its lists are gone over.
use Rattle.std.proofs.Common.{◌≡◌, ◌↔◌, ◌⊎◌, inl, inr, ℕ, ◌<◌, ◌≤◌, ◌+◌, Bool, true, false, List, [], ◌∷◌, ◌++◌, length, length-append, below_more, slice_get, slice_index_or, Option, Some, None, IfSome, IfNone, IsTrue, is_some, Contains, arith, subst, sym, refl, ap, ◌∙◌}
use Rattle.std.proofs.lemmas.Bool.{cases_lt}
use Rattle.std.proofs.lemmas.Option.{slice_get_within, slice_get-get_or}
use Rattle.std.proofs.Math.Nat.{eq-or-lt_of_le}
use Rattle.wesl_link_symbols.specs.Keyed.{Puts}
use Rattle.wesl_link_symbols.specs.Tables.{Table}
use Rattle.wesl_link_symbols.specs.Names.{Declares}
use Rattle.wesl_link_symbols.specs.Index.{IsNamed, IsKeyed, HasAt, IsLast, Chains}
use Rattle.wesl_link_symbols.proofs.Lists.{one_at, at_push, at_contains, contains_at, read_at}

module _ {X K : Type 0} (key : X → K) where
  -- the last below n is the last below n + 1 where the element at n has another key
  last_more : (ds : List X) (n : ℕ) (d : X) (name : K) (i : ℕ) → slice_get ds n ≡ Some d → (name ≡ key d → ⊥) → IsLast (IsKeyed key name) ds n (Some i)
      → IsLast (IsKeyed key name) ds (n + 1) (Some i)
  last_more ds n d name i at differ (b, has, none) = (
    omega arith,
    has,
    λ j above below h.
        below_more (λ (k : ℕ). i < k → HasAt (IsKeyed key name) ds k → ⊥) n (λ k c a g. none k a c g)
        (λ a g. (let (x, e, named) = g in differ (sym named ∙ ap key (one_at ds n x d e at)))) j below above h,
  )

  last_here : (ds : List X) (n : ℕ) (d : X) → slice_get ds n ≡ Some d → IsLast (IsKeyed key (key d)) ds (n + 1) (Some n)
  last_here ds n d at = (omega arith, (d, at, refl), λ j above below h. absurd (omega arith))

  pub chains_more : (ds : List X) (n : ℕ) (d : X) (o : Option ℕ) (latest fresh : List (K × ℕ)) (earlier longer : List (Option ℕ))
      → slice_get ds n ≡ Some d → Chains key ds n latest earlier → IsLast (IsKeyed key (key d)) ds n o → Puts latest (key d) n fresh → longer ≡ earlier ++ o ∷ []
      → Chains key ds (n + 1) fresh longer
  chains_more ds n d o latest fresh earlier longer at chains last put e = record {
    latest_only = λ name i h. elim (put.only name i h) [
      | inl (same, is) ↦ subst (λ (q : K). IsLast (IsKeyed key q) ds (n + 1) (Some i)) (sym same)
          (subst (λ (k : ℕ). IsLast (IsKeyed key (key d)) ds (n + 1) (Some k)) (sym is) (last_here ds n d at))
      | inr (differ, old) ↦ last_more ds n d name i at differ (chains.latest_only name i old)
    ];
    latest_all = λ name i b has. below_more (λ (k : ℕ). HasAt (IsKeyed key name) ds k → (j : ℕ) × Contains fresh (name, j)) n
        (λ k c g. (let (j, held) = chains.latest_all name k c g in
        elim (put.keeps name j held) [
          | inl same ↦ (n, subst (λ (q : K). Contains fresh (q, n)) (sym same) put.has)
          | inr kept ↦ (j, kept)
        ]))
        (λ g. (let (x, f, named) = g in
        (n, subst (λ (q : K). Contains fresh (q, n)) (sym (ap key (one_at ds n x d f at)) ∙ named) put.has)))
        i b has;
    earlier_is = λ name i r g has. elim (at_push earlier o i r (ap (λ (os : List (Option ℕ)). slice_get os i) (sym e) ∙ g)) [
      | inl old ↦ chains.earlier_is name i r old has
      | inr (same, is) ↦
          (let here : i ≡ n = same ∙ chains.earlier_len in
          let (x, f, named) = has in
          let name_is : key d ≡ name = sym (ap key (one_at ds n x d (ap (λ (k : ℕ). slice_get ds k) (sym here) ∙ f) at)) ∙ named in
          subst (λ (k : ℕ). IsLast (IsKeyed key name) ds k r) (sym here)
          (subst (λ (q : Option ℕ). IsLast (IsKeyed key name) ds n q) (sym is) (subst (λ (q : K). IsLast (IsKeyed key q) ds n o) name_is last)))
    ];
    earlier_len =
        let both : length longer ≡ length (earlier ++ o ∷ []) = ap length e in
        let sum : length (earlier ++ o ∷ []) ≡ length earlier + 1 = length-append earlier (o ∷ []) in
        let l : length earlier ≡ n = chains.earlier_len in omega arith;
  }

  pub chains_next : (ds : List X) (n : ℕ) (d : X) (o : Option ℕ) (latest fresh : List (K × ℕ)) (earlier longer : List (Option ℕ))
      → n < length ds → Chains key ds n latest earlier → IsLast (IsKeyed key (key (slice_index_or ds n d))) ds n o → Puts latest (key (slice_index_or ds n d)) n fresh → longer ≡ earlier ++ o ∷ []
      → Chains key ds (n + 1) fresh longer
  chains_next ds n d o latest fresh earlier longer b = chains_more ds n (slice_index_or ds n d) o latest fresh earlier longer (slice_get-get_or ds n d b)

  -- what a look-up among the last elements tells
  pub last_of : (ds : List X) (n : ℕ) (latest : List (K × ℕ)) (earlier : List (Option ℕ)) (name : K) (o : Option ℕ) → Chains key ds n latest earlier
      → IfSome o (λ i. Contains latest (name, i)) → IfNone o ((i : ℕ) → Contains latest (name, i) → ⊥) → IsLast (IsKeyed key name) ds n o
  last_of ds n latest earlier name None chains some none = λ j b has. let (k, held) = chains.latest_all name j b has in none k held
  last_of ds n latest earlier name (Some i) chains some none = chains.latest_only name i some

  -- what is read at an element of a key
  pub earlier_at : (ds : List X) (latest : List (K × ℕ)) (earlier : List (Option ℕ)) (name : K) (i : ℕ) (o : Option ℕ) → Chains key ds (length ds) latest earlier → HasAt (IsKeyed key name) ds i
      → o ≡ slice_index_or earlier i o → IsLast (IsKeyed key name) ds i o
  earlier_at ds latest earlier name i o chains (x, at, named) is =
      let b : i < length ds = slice_get_within ds i x at in
      let l : length earlier ≡ length ds = chains.earlier_len in chains.earlier_is name i o (read_at earlier earlier i o refl (omega arith) is) (x, at, named)

module _ {P N : Type 0} where
  -- ---- the names of a module

  declares_by : (t : Table P N) (n : N) (i : ℕ) → IsLast (IsNamed (Some n)) t.declarations (length t.declarations) (Some i) → Declares t n
  declares_by t n i (b, (d, at, named), none) = (d, at_contains t.declarations i d at, named)

  undeclared_by : (t : Table P N) (n : N) → IsLast (IsNamed (Some n)) t.declarations (length t.declarations) None → Declares t n → ⊥
  undeclared_by t n none (d, held, named) = let (i, b, at) = contains_at t.declarations d held in none i b (d, at, named)

  pub declares_is : (t : Table P N) (n : N) (o : Option ℕ) (b : Bool) → IsLast (IsNamed (Some n)) t.declarations (length t.declarations) o → b ≡ is_some o → IsTrue b ↔ Declares t n
  declares_is t n None b last e = (λ yes. let f : true ≡ false = sym yes ∙ e in cc, λ d. absurd (undeclared_by t n last d))
  declares_is t n (Some i) b last e = (λ yes. declares_by t n i last, λ d. e)

-- ---- elements of a key, from the last to the first

-- of the elements that Q holds of, R holds of each from n on, and the one before n is at the index
abbrev pub IsGoneOver : {X : Type 0} → (Q R : X → Type 0) → List X → Option ℕ → Type 0
IsGoneOver {X} Q R xs at = (n : ℕ) × IsLast Q xs n at × (n ≤ length xs) × ((j : ℕ) (x : X) → n ≤ j → slice_get xs j ≡ Some x → Q x → R x)

-- how many elements at most are still to be gone over
abbrev pub steps : Option ℕ → ℕ
steps None = 0
steps (Some i) = i + 1

module _ {X : Type 0} (Q R : X → Type 0) (xs : List X) where
  pub over_start : (o : Option ℕ) → IsLast Q xs (length xs) o → IsGoneOver Q R xs o
  over_start o last = (length xs, last, omega arith, λ j x above at q. absurd (let b = slice_get_within xs j x at in omega arith))

  pub over_within : (at : Option ℕ) (i : ℕ) → at ≡ Some i → IsGoneOver Q R xs at → i < length xs
  over_within at i is (n, last, room, over) = let here : IsLast Q xs n (Some i) = subst (λ (q : Option ℕ). IsLast Q xs n q) is last in let b : i < n = here.0 in omega arith

  -- the element at the index, as it is read in a list that is equal
  pub over_read : (at : Option ℕ) (i : ℕ) (ys : List X) (x : X) → at ≡ Some i → IsGoneOver Q R xs at → ys ≡ xs → x ≡ slice_index_or ys i x → slice_get xs i ≡ Some x
  over_read at i ys x is over e read = read_at ys xs i x e (over_within at i is over) read

  pub over_index : (at : Option ℕ) (i : ℕ) (ys : List X) (d : X) → at ≡ Some i → IsGoneOver Q R xs at → ys ≡ xs → slice_get xs i ≡ Some (slice_index_or ys i d)
  over_index at i ys d is over e = slice_get-get_or xs i d (over_within at i is over) ∙ ap (λ (zs : List X). Some (slice_index_or zs i d)) (sym e)

  -- Q holds of it
  pub over_found : (at : Option ℕ) (i : ℕ) (x : X) → at ≡ Some i → IsGoneOver Q R xs at → slice_get xs i ≡ Some x → Contains xs x × Q x
  over_found at i x is (n, last, room, over) there =
      let here : IsLast Q xs n (Some i) = subst (λ (q : Option ℕ). IsLast Q xs n q) is last in
      let (y, there2, q) = here.1 in (at_contains xs i x there, subst Q (one_at xs i y x there2 there) q)

  -- one more
  pub over_next : (at : Option ℕ) (i : ℕ) (x : X) (o : Option ℕ) → at ≡ Some i → IsGoneOver Q R xs at → slice_get xs i ≡ Some x → R x → IsLast Q xs i o → IsGoneOver Q R xs o
  over_next at i x o is (n, last0, room, over) there here last = by (subst (λ (q : Option ℕ). IsLast Q xs n q) is last0)
    where
      from : IsLast Q xs n (Some i) → (j : ℕ) (y : X) → slice_get xs j ≡ Some y → Q y → (i ≡ j) ⊎ (i < j) → R y
      from last1 j y at2 q (inl same) = subst R (one_at xs i x y there (ap (λ (k : ℕ). slice_get xs k) same ∙ at2)) here
      from (below, has, none) j y at2 q (inr beyond) = elim (cases_lt j n) [
        | inl within ↦ absurd (none j beyond within (y, at2, q))
        | inr past ↦ over j y past at2 q
      ]

      by : IsLast Q xs n (Some i) → IsGoneOver Q R xs o
      by last1 = (i, last, (let b : i < n = last1.0 in omega arith), λ j y above at2 q. from last1 j y at2 q (eq-or-lt_of_le above))

  -- all are gone over
  pub over_all : (at : Option ℕ) → at ≡ None → IsGoneOver Q R xs at → (x : X) → Contains xs x → Q x → R x
  over_all at is (n, last, room, over) x held q = let (j, b, there) = contains_at xs x held in by j there (cases_lt j n)
    where
      by : (j : ℕ) → slice_get xs j ≡ Some x → (j < n) ⊎ (n ≤ j) → R x
      by j there (inl within) = let none : IsLast Q xs n None = subst (λ (o : Option ℕ). IsLast Q xs n o) is last in absurd (none j within (x, there, q))
      by j there (inr past) = over j x past there q

pub over_with : {X : Type 0} (Q R S : X → Type 0) (xs : List X) (o : Option ℕ) → ((x : X) → R x → S x) → IsGoneOver Q R xs o → IsGoneOver Q S xs o
over_with Q R S xs o more (n, last, room, over) = (n, last, room, λ j x above at q. more x (over j x above at q))
