-- The four worlds are as they are told.
use Rattle.std.proofs.Common.{◌≡◌, inl, inr, ℕ, ◌≤◌, Bool, zero, suc, true, false, None, List, [], ◌∷◌, Contains, arith, subst, sym, refl, ap, ◌∙◌}
use Rattle.wesl_cond_choices.specs.declared.place.Place.TheVariants.{Always}
use Rattle.wesl_link_symbols.specs.declared.symbols.Answer.TheVariants.{Next, Missing}
use Rattle.wesl_link_symbols.specs.declared.symbols.Import.{Import}
use Rattle.wesl_link_symbols.specs.declared.symbols.Reference.{Reference}
use Rattle.wesl_link_symbols.specs.declared.symbols.LookUp.{LookUp}
use Rattle.wesl_link_symbols.specs.Tables.{Table}
use Rattle.wesl_link_symbols.specs.Names.{IsOpenTo, asked_by, asked_for, Answers}
use Rattle.wesl_link_symbols.proofs.Lists.{contains_nil, contains_first, contains_later}
use Rattle.wesl_link_reach.specs.World.{HasMet, Walk, IsMissingAt, Reached}
use Rattle.wesl_link_reach.specs.World.Walk.{begin, step}
use Rattle.wesl_link_reach.specs.World.Reached.{led_to}
use Rattle.wesl_link_reach.specs.World.Followed.{kept as by_kept}
use Rattle.wesl_link_reach.proofs.Lists.{contains_one}
use Rattle.wesl_link_flaws.specs.declared.asker.Asker.TheVariants.{Named}
use Rattle.wesl_link_flaws.specs.Askers.{AsksBy}
use Rattle.wesl_link_flaws.proofs.Asking.{followed_of}
use Rattle.wesl_link_faults.specs.Worlds.{behind, item, passing, hollow, main, root_of, keeping, lacking, ring, alone, WorldsAreSo}

none_met : (a : LookUp ℕ ℕ) → HasMet [] a → ⊥
none_met a (b, held, same) = contains_nil b held

main_reached : (references : List (Reference ℕ ℕ)) (others : List (Table ℕ ℕ)) → Reached (root_of references ∷ others) keeping (record { path = 0; name = 10 })
main_reached references others =
    led_to (record { asker = None; path = 0; name = 10; from = Always }) (record { path = 0; name = 10 })
    (by_kept (record { asker = None; path = 0; name = 10; from = Always }) (10, contains_first 10 [], refl)) (
      record { asker = None; path = 0; name = 10; from = Always },
      ([], begin (record { asker = None; path = 0; name = 10; from = Always }) refl, none_met (record { asker = None; path = 0; name = 10; from = Always })),
      (
        root_of references,
        (contains_first (root_of references) others, refl),
        (
          (main references, contains_first (main references) [], refl, inl refl),
          (λ i open_to. absurd (contains_nil i open_to.0.0)),
        ),
        refl,
      ),
    )

hollow_lacks : (p : ℕ) (l : LookUp ℕ ℕ) → Answers (hollow p [] false) l Missing
hollow_lacks p l = (
  (λ d. absurd (contains_nil d.0 d.1)),
  (λ i open_to. absurd (contains_nil i open_to.0.0)),
  (λ i hidden. absurd (contains_nil i hidden.0.0)),
)

-- a module that only passes a name on asks for it where its import says
passes : (c : Bool) (p q n : ℕ) (l : LookUp ℕ ℕ) → l.name ≡ n → Answers (hollow p (passing q n ∷ []) c) l (Next (asked_by (hollow p (passing q n ∷ []) c) (passing q n)))
passes c p q n l e = (
  (λ d. absurd (contains_nil d.0 d.1)),
  (λ i j open_i open_j. let f : i ≡ j = sym (only i open_i.0.0) ∙ only j open_j.0.0 in (ap (λ (x : Import ℕ ℕ). x.path) f, ap (λ (x : Import ℕ ℕ). x.item) f)),
  (passing q n, (opened, (λ j open_j. subst (λ (x : Import ℕ ℕ). 0 ≤ x.order) (only j open_j.0.0) (omega arith))), refl),
  (λ i asked. ap (λ (x : Import ℕ ℕ). asked_by (hollow p (passing q n ∷ []) c) x) (only i asked.0.0.0)),
)
  where
    only : (i : Import ℕ ℕ) → Contains (passing q n ∷ []) i → passing q n ≡ i
    only i held = contains_one (passing q n) i held

    opened : IsOpenTo (hollow p (passing q n ∷ []) c) l (passing q n)
    opened = ((contains_first (passing q n) [], sym e), inl refl, inl refl)

-- what 10 asks by its reference with that number
asks_one : (r : Reference ℕ ℕ) (rest : List (Reference ℕ ℕ)) (others : List (Table ℕ ℕ)) → AsksBy keeping (root_of (r ∷ rest) ∷ others) (Named 0 0 0) (asked_for (root_of (r ∷ rest)) r)
asks_one r rest others =
    (root_of (r ∷ rest), main (r ∷ rest), ((contains_first (root_of (r ∷ rest)) others, refl), refl, main_reached (r ∷ rest) others), r, refl, refl)

asks_two : (q r : Reference ℕ ℕ) (rest : List (Reference ℕ ℕ)) (others : List (Table ℕ ℕ)) → AsksBy keeping (root_of (q ∷ r ∷ rest) ∷ others) (Named 0 0 1) (asked_for (root_of (q ∷ r ∷ rest)) r)
asks_two q r rest others =
    (root_of (q ∷ r ∷ rest), main (q ∷ r ∷ rest), ((contains_first (root_of (q ∷ r ∷ rest)) others, refl), refl, main_reached (q ∷ r ∷ rest) others), r, refl, refl)

start : (w : List (Table ℕ ℕ)) (l : LookUp ℕ ℕ) → Walk w l [] l
start w l = begin l refl

-- two modules that have a name of each other: who begins at the first comes back to it
comes_back : (p q : ℕ) (w : List (Table ℕ ℕ)) (l : LookUp ℕ ℕ) → (p ≡ q → ⊥) → l.path ≡ p → l.name ≡ 20
    → Contains w (hollow p (passing q 20 ∷ []) false) → Contains w (hollow q (passing p 20 ∷ []) false) → IsMissingAt w l p 20
comes_back p q w l differ at is in_p in_q =
    let here = hollow p (passing q 20 ∷ []) false in
    let there = hollow q (passing p 20 ∷ []) false in
    let b = asked_by here (passing q 20) in
    let c = asked_by there (passing p 20) in
    let one : Walk w l (l ∷ []) b = step [] l b (start w l) (none_met l) (here, (in_p, sym at), passes false p q 20 l is) in
    let new : HasMet (l ∷ []) b → ⊥ = λ met. differ (sym at ∙ ap (λ (x : LookUp ℕ ℕ). x.path) (contains_one l met.0 met.1) ∙ sym met.2.0) in
    let two : Walk w l (b ∷ l ∷ []) c = step (l ∷ []) b c one new (there, (in_q, refl), passes false q p 20 b refl) in
    (c, refl, refl, inr (b ∷ l ∷ [], two, (l, contains_later b l (l ∷ []) (contains_first l []), (sym at, sym is))))

abbrev alone_root : Table ℕ ℕ
alone_root = root_of (item 1 20 ∷ [])

abbrev ring_root : Table ℕ ℕ
ring_root = root_of (item 1 20 ∷ item 2 20 ∷ [])

abbrev ring_others : List (Table ℕ ℕ)
ring_others = hollow 1 (passing 2 20 ∷ []) false ∷ hollow 2 (passing 1 20 ∷ []) false ∷ []

one_not_two : suc zero ≡ suc (suc zero) → ⊥
one_not_two e = absurd (omega arith)

zero_not_one : zero ≡ suc zero → ⊥
zero_not_one e = absurd (omega arith)

-- a walk goes through a crowded module, and comes to nothing behind it
missing_behind : IsMissingAt behind (asked_for alone_root (item 1 20)) 2 20
missing_behind =
    let l = asked_for alone_root (item 1 20) in
    let here = hollow 1 (passing 2 20 ∷ []) true in
    let last = hollow 2 [] false in
    let b = asked_by here (passing 2 20) in
    let in_here : Contains behind here = contains_later alone_root here (here ∷ last ∷ []) (contains_first here (last ∷ [])) in
    let in_last : Contains behind last = contains_later alone_root last (here ∷ last ∷ []) (contains_later here last (last ∷ []) (contains_first last [])) in
    let one : Walk behind l (l ∷ []) b = step [] l b (start behind l) (none_met l) (here, (in_here, refl), passes true 1 2 20 l refl) in
    let new : HasMet (l ∷ []) b → ⊥ = λ met. one_not_two (ap (λ (x : LookUp ℕ ℕ). x.path) (contains_one l met.0 met.1) ∙ sym met.2.0) in
    (b, refl, refl, inl ((l ∷ [], one, new), (last, (in_last, refl), hollow_lacks 2 b)))

pub worlds : WorldsAreSo
worlds = record {
  lacks = (
    refl,
    asked_for (root_of (item 1 20 ∷ [])) (item 1 20),
    asks_one (item 1 20) [] (hollow 1 [] false ∷ []),
    let l = asked_for (root_of (item 1 20 ∷ [])) (item 1 20) in
        let last = contains_later (root_of (item 1 20 ∷ [])) (hollow 1 [] false) (hollow 1 [] false ∷ []) (contains_first (hollow 1 [] false) []) in
        (l, refl, refl, inl (([], start lacking l, none_met l), (hollow 1 [] false, (last, refl), hollow_lacks 1 l))),
  );
  ring_at_one = (refl, asked_for ring_root (item 1 20), asks_one (item 1 20) (item 2 20 ∷ []) ring_others, comes_back 1 2 ring (asked_for ring_root (item 1 20)) one_not_two refl refl at_one at_two);
  ring_at_two = (
    refl,
    asked_for ring_root (item 2 20),
    asks_two (item 1 20) (item 2 20) [] ring_others,
    comes_back 2 1 ring (asked_for ring_root (item 2 20)) (λ e. one_not_two (sym e)) refl refl at_two at_one,
  );
  behind_crowded = (asked_for alone_root (item 1 20), followed_of keeping behind (Named 0 0 0) (asked_for alone_root (item 1 20)) (asks_one (item 1 20) [] (hollow 1 (passing 2 20 ∷ []) true ∷ hollow 2 [] false ∷ [])), missing_behind);
  left_out = (
    (asked_for alone_root (item 1 20), asks_one (item 1 20) [] [], asked_for alone_root (item 1 20), ([], start alone (asked_for alone_root (item 1 20))), refl),
    (λ t at. zero_not_one (ap (λ (x : Table ℕ ℕ). x.path) (contains_one alone_root t at.0) ∙ at.1)),
    (hollow 1 [] true, refl, refl),
  );
}
  where
    at_one : Contains ring (hollow 1 (passing 2 20 ∷ []) false)
    at_one = contains_later ring_root (hollow 1 (passing 2 20 ∷ []) false) ring_others (contains_first (hollow 1 (passing 2 20 ∷ []) false) (hollow 2 (passing 1 20 ∷ []) false ∷ []))

    at_two : Contains ring (hollow 2 (passing 1 20 ∷ []) false)
    at_two = contains_later ring_root (hollow 2 (passing 1 20 ∷ []) false) ring_others (contains_later (hollow 1 (passing 2 20 ∷ []) false) (hollow 2 (passing 1 20 ∷ []) false) (hollow 2 (passing 1 20 ∷ []) false ∷ []) (contains_first (hollow 2 (passing 1 20 ∷ []) false) []))
