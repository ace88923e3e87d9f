-- What the names used in a module ask for.
use Rattle.std.proofs.Common.{◌≡◌, ◌↔◌, inl, inr, ℕ, ◌<◌, ◌≤◌, ◌+◌, List, [], ◌∷◌, ◌++◌, length, take, slice_get, slice_index_or, Option, Some, None, Contains, arith, subst, sym, ap, ◌∙◌}
use Rattle.std.proofs.lemmas.List.Elements.{Contains-push_cases, Contains-append_left, Contains-push}
use Rattle.std.proofs.lemmas.List.{take_more}
use Rattle.std.proofs.lemmas.Option.{slice_get_within}
use Rattle.std.proofs.lemmas.Bool.{cases_lt}
use Rattle.std.proofs.Math.Nat.{eq-or-lt_of_le}
use Rattle.wesl_link_symbols.specs.declared.symbols.LookUp.{LookUp}
use Rattle.wesl_link_symbols.specs.declared.symbols.Reference.{Reference}
use Rattle.wesl_link_symbols.specs.Tables.{Declaration, Table}
use Rattle.wesl_link_symbols.specs.Names.{AsksFrom, asked_for}
use Rattle.wesl_link_symbols.specs.Index.{IsLast, IsNamed}
use Rattle.wesl_link_reach.specs.Asked.{Gains, AsksIn}
use Rattle.wesl_link_symbols.proofs.Lists.{contains_nil, one_at, at_contains, contains_at}

-- some reference in a declaration of that name at n or behind asks for it
abbrev pub AsksBehind : {P N : Type 0} → Table P N → Option N → ℕ → LookUp P N → Type 0
AsksBehind {P} {N} t name n l = (i : ℕ) × (n ≤ i) × (d : Declaration P N) × (slice_get t.declarations i ≡ Some d) × (d.name ≡ name) × AsksIn t d.references l

module _ {P N : Type 0} where
  -- ---- the look-ups of a list of references

  asked_by_one : (t : Table P N) (seen more : List (Reference P N)) (r : Reference P N) (from mid to : List (LookUp P N)) (l : LookUp P N) → more ≡ seen ++ r ∷ []
      → Gains from mid (AsksIn t seen) → l ≡ asked_for t r → to ≡ mid ++ l ∷ [] → Gains from to (AsksIn t more)
  asked_by_one t seen more r from mid to l e g is f = record {
    kept = λ m h. subst (λ (xs : List (LookUp P N)). Contains xs m) (sym f) (Contains-append_left mid (l ∷ []) m (g.kept m h));
    only = λ m h. elim (Contains-push_cases mid l m (subst (λ (xs : List (LookUp P N)). Contains xs m) f h)) [
      | inl old ↦ elim (g.only m old) [
        | inl before ↦ inl before
        | inr (q, held, is2) ↦ inr (q, subst (λ (xs : List (Reference P N)). Contains xs q) (sym e) (Contains-append_left seen (r ∷ []) q held), is2)
      ]
      | inr same ↦ inr (r, subst (λ (xs : List (Reference P N)). Contains xs r) (sym e) (Contains-push seen r), sym same ∙ is)
    ];
    all = λ m (q, held, is2). elim (Contains-push_cases seen r q (subst (λ (xs : List (Reference P N)). Contains xs q) e held)) [
      | inl old ↦ subst (λ (xs : List (LookUp P N)). Contains xs m) (sym f) (Contains-append_left mid (l ∷ []) m (g.all m (q, old, is2)))
      | inr same ↦
          (let one : l ≡ m = is ∙ (ap (λ (x : Reference P N). asked_for t x) same ∙ sym is2) in
          subst (λ (xs : List (LookUp P N)). Contains xs m) (sym f) (subst (λ (x : LookUp P N). Contains (mid ++ l ∷ []) x) one (Contains-push mid l)))
    ];
  }

  pub asked_more : (t : Table P N) (rs : List (Reference P N)) (i : ℕ) (d : Reference P N) (from mid to : List (LookUp P N)) (l : LookUp P N) → i < length rs
      → Gains from mid (AsksIn t (take i rs)) → l ≡ asked_for t (slice_index_or rs i d) → to ≡ mid ++ l ∷ [] → Gains from to (AsksIn t (take (i + 1) rs))
  asked_more t rs i d from mid to l b g is f = asked_by_one t (take i rs) (take (i + 1) rs) (slice_index_or rs i d) from mid to l (take_more rs i d b) g is f

  -- ---- the look-ups of the declarations of a name, from the last to the first

  pub behind_start : (t : Table P N) (name : Option N) (o : Option ℕ) (to : List (LookUp P N)) → to ≡ [] → IsLast (IsNamed name) t.declarations (length t.declarations) o
      → (n : ℕ) × IsLast (IsNamed name) t.declarations n o × (n ≤ length t.declarations) × Gains [] to (AsksBehind t name n)
  behind_start t name o to e last = (
    length t.declarations,
    last,
    omega arith,
    record {
      kept = λ l h. absurd (contains_nil l h);
      only = λ l h. absurd (contains_nil l (subst (λ (xs : List (LookUp P N)). Contains xs l) e h));
      all = λ l (i, above, d, at, name_is, rest). absurd (let b = slice_get_within t.declarations i d at in omega arith);
    },
  )

  pub behind_next : (t : Table P N) (name : Option N) (n i : ℕ) (d : Declaration P N) (o : Option ℕ) (mid to : List (LookUp P N)) → IsLast (IsNamed name) t.declarations n (Some i)
      → n ≤ length t.declarations → Gains [] mid (AsksBehind t name n) → slice_get t.declarations i ≡ Some d → Gains mid to (AsksIn t d.references)
      → IsLast (IsNamed name) t.declarations i o → (k : ℕ) × IsLast (IsNamed name) t.declarations k o × (k ≤ length t.declarations) × Gains [] to (AsksBehind t name k)
  behind_next t name n i d o mid to (below, (x, here, named), none) room g at more last = (
    i,
    last,
    omega arith,
    record {
      kept = λ l h. absurd (contains_nil l h);
      only = λ l h. elim (more.only l h) [
        | inl old ↦ elim (g.only l old) [
          | inl before ↦ inl before
          | inr (j, above, y, there, name_is, rest) ↦ inr (j, omega arith, y, there, name_is, rest)
        ]
        | inr asks ↦ inr (i, omega arith, d, at, ap (λ (z : Declaration P N). z.name) (one_at t.declarations i d x at here) ∙ named, asks)
      ];
      all = λ l (j, above, y, there, name_is, asks). by l j above y there name_is asks;
    },
  )
    where
      by : (l : LookUp P N) (j : ℕ) → i ≤ j → (y : Declaration P N) → slice_get t.declarations j ≡ Some y → y.name ≡ name → AsksIn t y.references l → Contains to l
      by l j above y there name_is asks = elim (eq-or-lt_of_le above) [
        | inl same ↦ more.all l (subst (λ (z : Declaration P N). AsksIn t z.references l) (one_at t.declarations i y d (ap (λ (k : ℕ). slice_get t.declarations k) same ∙ there) at) asks)
        | inr beyond ↦ elim (cases_lt j n) [
          | inl within ↦ absurd (none j beyond within (y, there, name_is))
          | inr past ↦ more.kept l (g.all l (j, past, y, there, name_is, asks))
        ]
      ]

  pub behind_all : (t : Table P N) (name : Option N) (n : ℕ) (o : Option ℕ) (to : List (LookUp P N)) → o ≡ None → IsLast (IsNamed name) t.declarations n o → Gains [] to (AsksBehind t name n)
      → (l : LookUp P N) → Contains to l ↔ AsksFrom t name l
  behind_all t name n o to e last g = λ l. (
    λ h. elim (g.only l h) [
      | inl before ↦ absurd (contains_nil l before)
      | inr (i, above, d, at, name_is, (r, held, asks)) ↦ (r, (d, at_contains t.declarations i d at, name_is, held), asks)
    ],
    λ (r, (d, in_table, name_is, held), asks).
        (let (i, b, at) = contains_at t.declarations d in_table in
        let none : (j : ℕ) → j < n → (x : Declaration P N) × (slice_get t.declarations j ≡ Some x) × (x.name ≡ name) → ⊥ = subst (λ (q : Option ℕ). IsLast (IsNamed name) t.declarations n q) e last in
        elim (cases_lt i n) [
          | inl within ↦ absurd (none i within (d, at, name_is))
          | inr past ↦ g.all l (i, past, d, at, name_is, (r, held, asks))
        ]),
  )
