-- A table answers a look-up one way at most, and names with one target as before.
use Rattle.std.proofs.Common.{◌≡◌, inl, inr, ℕ, ◌≤◌, Some, arith, sym, refl, ap, ◌∙◌}
use Rattle.wesl_link_symbols.specs.declared.symbols.Answer.TheVariants.{Declared, Next, Missing, Private, Ambiguous}
use Rattle.wesl_link_symbols.specs.Tables.{Place, Import, LookUp, Answer, Table}
use Rattle.wesl_link_symbols.specs.Names.{Declares, Imports, Shows, DeclaresTo, IsOpenTo, IsAskedTo, asked_by, Answers}
use Rattle.wesl_link_symbols.specs.Laws.{AnswersOnce, AnswersOfOne, HasOneTarget, AnswersPlainly}

module _ {P N : Type 0} where
  -- two answers of which one is that the name stands for two things
  declared_clear : (t : Table P N) (l : LookUp P N) → Answers t l Declared → Answers t l Ambiguous → ⊥
  declared_clear t l (d, own) (inl (d2, i, seen, other)) = other (own i seen)
  declared_clear t l (d, own) (inr (inl (none, i, j, seen, seen2, other))) = none d
  declared_clear t l (d, own) (inr (inr (none, i, j, asked, asked2, other))) = none d

  next_clear : (t : Table P N) (l n : LookUp P N) → Answers t l (Next n) → Answers t l Ambiguous → ⊥
  next_clear t l n (none, same, some, all) (inl (d, i, seen, other)) = none d
  next_clear t l n (none, same, some, all) (inr (inl (none2, i, j, seen, seen2, other))) = other (same i j seen seen2)
  next_clear t l n (none, same, some, all) (inr (inr (none2, i, j, asked, asked2, other))) = other (sym (all i asked) ∙ all j asked2)

  closed_clear : (t : Table P N) (l : LookUp P N) → (DeclaresTo t l → ⊥) → ((i : Import P N) → IsOpenTo t l i → ⊥) → Answers t l Ambiguous → ⊥
  closed_clear t l none closed (inl (d, i, seen, other)) = none d
  closed_clear t l none closed (inr (inl (none2, i, j, seen, seen2, other))) = closed i seen
  closed_clear t l none closed (inr (inr (none2, i, j, asked, asked2, other))) = closed i asked.0

  next_open : (t : Table P N) (l n : LookUp P N) → Answers t l (Next n) → ((i : Import P N) → IsOpenTo t l i → ⊥) → ⊥
  next_open t l n (none, same, (i, asked, is), all) closed = closed i asked.0

  next_once : (t : Table P N) (l n m : LookUp P N) → Answers t l (Next n) → Answers t l (Next m) → n ≡ m
  next_once t l n m (none, same, (i, asked, is), all) (none2, same2, some2, all2) = is ∙ sym (all2 i asked)

  pub once : AnswersOnce P N
  once t l Declared Declared x y = refl
  once t l Declared (Next m) x y = absurd (y.0 x.0)
  once t l Declared Missing x y = absurd (y.0 x.0)
  once t l Declared Private x y = absurd (y.0 x.0)
  once t l Declared Ambiguous x y = absurd (declared_clear t l x y)
  once t l (Next n) Declared x y = absurd (x.0 y.0)
  once t l (Next n) (Next m) x y = ap (λ (z : LookUp P N). Next z) (next_once t l n m x y)
  once t l (Next n) Missing x (none, closed, shown) = absurd (next_open t l n x closed)
  once t l (Next n) Private x (none, closed, hidden) = absurd (next_open t l n x closed)
  once t l (Next n) Ambiguous x y = absurd (next_clear t l n x y)
  once t l Missing Declared x y = absurd (x.0 y.0)
  once t l Missing (Next m) (none, closed, shown) y = absurd (next_open t l m y closed)
  once t l Missing Missing x y = refl
  once t l Missing Private (none, closed, shown) (none2, closed2, (i, hidden)) = absurd (shown i hidden)
  once t l Missing Ambiguous (none, closed, shown) y = absurd (closed_clear t l none closed y)
  once t l Private Declared x y = absurd (x.0 y.0)
  once t l Private (Next m) (none, closed, hidden) y = absurd (next_open t l m y closed)
  once t l Private Missing (none, closed, (i, hidden)) (none2, closed2, shown) = absurd (shown i hidden)
  once t l Private Private x y = refl
  once t l Private Ambiguous (none, closed, hidden) y = absurd (closed_clear t l none closed y)
  once t l Ambiguous Declared x y = absurd (declared_clear t l y x)
  once t l Ambiguous (Next m) x y = absurd (next_clear t l m y x)
  once t l Ambiguous Missing x (none, closed, shown) = absurd (closed_clear t l none closed x)
  once t l Ambiguous Private x (none, closed, hidden) = absurd (closed_clear t l none closed x)
  once t l Ambiguous Ambiguous x y = refl

  -- ---- names with one target

  module _ (t : Table P N) (l : LookUp P N) (one : HasOneTarget t l.name) where
    opens : (i : Import P N) → Imports t l.name i → Shows l.asker t.path i → IsOpenTo t l i
    opens i held shows = (held, shows, inl (one.imported i held))

    declares : Declares t l.name → DeclaresTo t l
    declares (d, held, is) = (d, held, is, inl (one.declared d held is))

    undeclares : DeclaresTo t l → Declares t l.name
    undeclares (d, held, is, seen) = (d, held, is)

    -- all ask for the same
    asks_alike : (i j : Import P N) → Imports t l.name i → Imports t l.name j → asked_by t i ≡ asked_by t j
    asks_alike i j h k =
        let (p, n) = one.imports i j h k in
        let e : LookUp P N = record { asker = Some t.path; path = j.path; name = i.item; from = i.from } in
        ap (λ (x : P). record { asker = Some t.path; path = x; name = i.item; from = i.from }) p
        ∙ (ap (λ (x : N). record { asker = Some t.path; path = j.path; name = x; from = i.from }) n
        ∙ ap (λ (x : Place). record { asker = Some t.path; path = j.path; name = j.item; from = x }) (one.from i j h k))

    is_asked : (i : Import P N) → IsOpenTo t l i → IsAskedTo t l i
    is_asked i seen = (seen, λ j seen2. le_of (one.order i j seen.0 seen2.0))
      where
        le_of : {x y : ℕ} → x ≡ y → x ≤ y
        le_of e = omega arith

    pub to_one : (a : Answer P N) → Answers t l a → AnswersOfOne t l a
    to_one Declared (d, own) = undeclares d
    to_one (Next n) (none, same, (i, asked, is), all) = (λ d. none (declares d), i, asked.0.0, asked.0.1, is)
    to_one Missing (none, closed, shown) = (λ d. none (declares d), λ i held. shown i (held, λ shows. closed i (opens i held shows)))
    to_one Private (none, closed, (i, hidden)) = (λ d. none (declares d), (i, hidden.0), λ j held shows. closed j (opens j held shows))
    to_one Ambiguous (inl (d, i, seen, other)) = other (one.own i (undeclares d) seen.0)
    to_one Ambiguous (inr (inl (none, i, j, seen, seen2, other))) = other (one.imports i j seen.0 seen2.0)
    to_one Ambiguous (inr (inr (none, i, j, asked, asked2, other))) = other (asks_alike i j asked.0.0 asked2.0.0)

    pub from_one : (a : Answer P N) → AnswersOfOne t l a → Answers t l a
    from_one Declared d = (declares d, λ i seen. one.own i d seen.0)
    from_one (Next n) (none, i, held, shows, is) = (
      λ d. none (undeclares d),
      λ j k h m. one.imports j k h.0 m.0,
      (i, is_asked i (opens i held shows), is),
      λ j asked. is ∙ asks_alike i j held asked.0.0,
    )
    from_one Missing (none, empty) = (λ d. none (undeclares d), λ i seen. empty i seen.0, λ i hidden. empty i hidden.0)
    from_one Private (none, (i, held), unshown) = (λ d. none (undeclares d), λ j seen. unshown j seen.0 seen.1, (i, (held, unshown i held)))
    from_one Ambiguous x = absurd x

  pub answered_plainly : AnswersPlainly P N
  answered_plainly t l a one = (to_one t l one a, from_one t l one a)
