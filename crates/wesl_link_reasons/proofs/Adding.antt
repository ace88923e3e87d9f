-- What is found as nodes are added.
use Rattle.std.proofs.Common.{◌≡◌, ◌⊎◌, inl, inr, ℕ, ◌<◌, ◌≤◌, ◌+◌, List, [], ◌∷◌, ◌++◌, length, take, slice_get, slice_index_or, Option, Some, None, IfNone, Contains, arith, subst, sym, refl, ap, ◌∙◌}
use Rattle.std.proofs.lemmas.List.{take_more}
use Rattle.std.proofs.lemmas.List.Elements.{Contains-push_cases, Contains-append_left, Contains-push}
use Rattle.std.proofs.lemmas.Option.{slice_get_within}
use Rattle.std.proofs.lemmas.Bool.{cases_lt}
use Rattle.wesl_link_symbols.specs.declared.ids.PathId.{PathId}
use Rattle.wesl_tree_base.specs.declared.ids.NameId.{NameId}
use Rattle.wesl_link_symbols.specs.Keyed.{Puts}
use Rattle.wesl_link_symbols.proofs.Lists.{contains_nil, at_push}
use Rattle.wesl_link_reach.proofs.Lists.{contains_at_place, last_place, place_kept}
use Rattle.wesl_link_reasons.specs.declared.found.Found.{Found}
use Rattle.wesl_link_reasons.specs.declared.findings.Findings.{Findings}
use Rattle.wesl_link_reasons.specs.declared.map.Map.{Map}
use Rattle.wesl_link_reasons.specs.declared.node.Node.{Node}
use Rattle.wesl_link_reasons.specs.declared.node.Node.TheVariants.{Item as ItemOf}
use Rattle.wesl_link_reasons.specs.Reasons.{IsHeld}
use Rattle.wesl_link_reasons.specs.Found.{IsFoundAt, IsFound, StandOnce, AreIndexed, AddsFound, IsNamed, IsGiven, StaysFound}
use Rattle.wesl_link_reasons.specs.Searching.{world_in, task_in, IsSound}
use Rattle.wesl_link_reasons.proofs.Holding.{holds_on, first_held}

abbrev pub Item : Type 0
Item = Node PathId NameId

pub found_on : {a b : List Found} → StaysFound a b → (x : Item) → IsFound a x → IsFound b x
found_on stays x (k, (f, at, is)) = (k, (f, stays.at k f at, is))

pub stays_trans : {a b c : List Found} → StaysFound a b → StaysFound b c → StaysFound a c
stays_trans s t = record { at = λ k f e. t.at k f (s.at k f e) }

pub stays_length : {a b : List Found} → StaysFound a b → length a ≤ length b
stays_length {a} {b} stays = elim (cases_lt (length b) (length a)) [
  | inl less ↦ (let (f, within, at) = contains_at_place a (length b) less in let b2 : length b < length b = slice_get_within b (length b) f (stays.at (length b) f at) in omega arith)
  | inr more ↦ more
]

-- ---- added nodes

pub adds_none : (a : List Found) (o : Option ℕ) (Q : Item → Type 0) → ((x : Item) → Q x → IsFound a x) → AddsFound a a o Q
adds_none a o Q all = record { kept = record { at = λ k f e. e }; only = λ k f at. inl at; all = all }

pub adds_one : (a b : List Found) (x : Item) (o : Option ℕ) → b ≡ a ++ record { node = x; asker = o } ∷ [] → AddsFound a b o (λ y. y ≡ x)
adds_one a b x o e = record {
  kept = record { at = λ k f at. subst (λ (xs : List Found). slice_get xs k ≡ Some f) (sym e) (place_kept a (record { node = x; asker = o }) k f at) };
  only = λ k f at. elim (at_push a (record { node = x; asker = o }) k f (subst (λ (xs : List Found). slice_get xs k ≡ Some f) e at)) [
    | inl old ↦ inl old
    | inr (here, is) ↦ inr ((let h : k ≡ length a = here in omega arith), ap (λ (g : Found). g.asker) is, ap (λ (g : Found). g.node) is)
  ];
  all = λ y is. (length a, (record { node = x; asker = o }, subst (λ (xs : List Found). slice_get xs (length a) ≡ Some (record { node = x; asker = o })) (sym e) (last_place a (record { node = x; asker = o })), sym is));
}

pub adds_both : {a b c : List Found} {o : Option ℕ} (Q R S : Item → Type 0) → AddsFound a b o Q → AddsFound b c o R → ((x : Item) → Q x → S x) → ((x : Item) → R x → S x)
    → ((x : Item) → S x → Q x ⊎ R x) → AddsFound a c o S
adds_both {a} {b} {c} Q R S first second from_q from_r cases = record {
  kept = stays_trans first.kept second.kept;
  only = λ k f at. elim (second.only k f at) [
    | inl mid ↦ elim (first.only k f mid) [
      | inl old ↦ inl old
      | inr (past, is, q) ↦ inr (past, is, from_q f.node q)
    ]
    | inr (past, is, r) ↦ inr ((let more : length a ≤ length b = stays_length first.kept in let p : length b ≤ k = past in omega arith), is, from_r f.node r)
  ];
  all = λ x s. elim (cases x s) [
    | inl q ↦ found_on second.kept x (first.all x q)
    | inr r ↦ second.all x r
  ];
}

pub adds_as : {a b : List Found} {o : Option ℕ} (Q R : Item → Type 0) → AddsFound a b o Q → ((x : Item) → Q x → R x) → ((x : Item) → R x → Q x) → AddsFound a b o R
adds_as Q R adds to from = record {
  kept = adds.kept;
  only = λ k f at. elim (adds.only k f at) [
    | inl old ↦ inl old
    | inr (past, is, q) ↦ inr (past, is, to f.node q)
  ];
  all = λ x r. adds.all x (from x r);
}

-- F holds of it and of one of the list
abbrev pub OfOne : {X : Type 0} → (X → Item → Type 0) → List X → Item → Type 0
OfOne {X} F xs x = (e : X) × Contains xs e × F e x

adds_step : {X : Type 0} (F : X → Item → Type 0) (seen more : List X) (e : X) {a b c : List Found} {o : Option ℕ} → more ≡ seen ++ e ∷ []
    → AddsFound a b o (OfOne F seen) → AddsFound b c o (F e) → AddsFound a c o (OfOne F more)
adds_step {X} F seen more e is first second = adds_both (OfOne F seen) (F e) (OfOne F more) first second
    (λ x (y, held, f). (y, subst (λ (ys : List X). Contains ys y) (sym is) (Contains-append_left seen (e ∷ []) y held), f))
    (λ x f. (e, subst (λ (ys : List X). Contains ys e) (sym is) (Contains-push seen e), f))
    (λ x (y, held, f). elim (Contains-push_cases seen e y (subst (λ (ys : List X). Contains ys y) is held)) [
      | inl old ↦ inl (y, old, f)
      | inr same ↦ inr (subst (λ (z : X). F z x) (sym same) f)
    ])

pub adds_next : {X : Type 0} (F : X → Item → Type 0) (xs : List X) (i : ℕ) (d : X) {a b c : List Found} {o : Option ℕ} → i < length xs
    → AddsFound a b o (OfOne F (take i xs)) → AddsFound b c o (F (slice_index_or xs i d)) → AddsFound a c o (OfOne F (take (i + 1) xs))
adds_next F xs i d less = adds_step F (take i xs) (take (i + 1) xs) (slice_index_or xs i d) (take_more xs i d less)

-- the same where the loop has the element by a name of its own
pub adds_item : {X : Type 0} (F : X → Item → Type 0) (xs : List X) (i : ℕ) (e : X) {a b c : List Found} {o : Option ℕ} → i < length xs → e ≡ slice_index_or xs i e
    → AddsFound a b o (OfOne F (take i xs)) → AddsFound b c o (F e) → AddsFound a c o (OfOne F (take (i + 1) xs))
adds_item {X} F xs i e {a} {b} {c} {o} less is first second = adds_next F xs i e less first (subst (λ (y : X). AddsFound b c o (F y)) is second)

some_name : (n k : NameId) (o : Option NameId) → o ≡ Some n → o ≡ Some k → k ≡ n
some_name n k o e f = let g : Some n ≡ Some k = sym e ∙ f in cc

pub adds_name : {a b : List Found} {o : Option ℕ} (p : PathId) (n : NameId) (name : Option NameId) → name ≡ Some n → AddsFound a b o (λ x. x ≡ ItemOf (record { path = p; name = n })) → AddsFound a b o (IsNamed p name)
adds_name p n name is adds = adds_as (λ (x : Item). x ≡ ItemOf (record { path = p; name = n })) (IsNamed p name) adds
    (λ x e. (n, is, e))
    (λ x (k, is2, e). e ∙ ap (λ (j : NameId). ItemOf (record { path = p; name = j })) (some_name n k name is is2))

no_name : (n : NameId) (name : Option NameId) → name ≡ None → name ≡ Some n → ⊥
no_name n name e f = let g : None ≡ Some n = sym e ∙ f in absurd cc

pub adds_no_name : (a : List Found) (o : Option ℕ) (p : PathId) (name : Option NameId) → name ≡ None → AddsFound a a o (IsNamed p name)
adds_no_name a o p name e = adds_none a o (IsNamed p name) (λ x (n, is, f). absurd (no_name n name e is))

pub adds_named : {a b : List Found} {o : Option ℕ} (p q : PathId) (m n : Option NameId) → p ≡ q → m ≡ n → AddsFound a b o (IsNamed p m) → AddsFound a b o (IsNamed q n)
adds_named {a} {b} {o} p q m n e f adds = subst (λ (r : PathId). AddsFound a b o (IsNamed r n)) e (subst (λ (k : Option NameId). AddsFound a b o (IsNamed p k)) f adds)

-- ---- where nodes stand

pub place_none : (fs : List Found) (places : List (Item × ℕ)) (x : Item) (o : Option ℕ) → AreIndexed fs places → IfNone o ((k : ℕ) → Contains places (x, k) → ⊥) → IfNone o (IsFound fs x → ⊥)
place_none fs places x None indexed none = λ found. let (k, held) = indexed.indexed x found in none k held
place_none fs places x (Some v) indexed none = none

pub indexed_start : (fs : List Found) (places : List (Item × ℕ)) → fs ≡ [] → places ≡ [] → AreIndexed fs places
indexed_start fs places e f = record {
  found = λ x k h. absurd (contains_nil (x, k) (subst (λ (es : List (Item × ℕ)). Contains es (x, k)) f h));
  indexed = λ x (k, (g, at, is)). absurd (let b : k < length fs = slice_get_within fs k g at in let l : length fs ≡ 0 = ap length e in omega arith);
  once = λ k j g h at. absurd (let b : k < length fs = slice_get_within fs k g at in let l : length fs ≡ 0 = ap length e in omega arith);
}

-- a node that was not found is found once it is added, and once
once_more : (a b : List Found) (x : Item) (o : Option ℕ) → StandOnce a → (IsFound a x → ⊥) → b ≡ a ++ record { node = x; asker = o } ∷ [] → StandOnce b
once_more a b x o once fresh e k j f g at_k at_j same = by (place k f at_k) (place j g at_j)
  where
    place : (i : ℕ) (h : Found) → slice_get b i ≡ Some h → (slice_get a i ≡ Some h) ⊎ ((i ≡ length a) × (h ≡ record { node = x; asker = o }))
    place i h at = at_push a (record { node = x; asker = o }) i h (subst (λ (xs : List Found). slice_get xs i ≡ Some h) e at)

    by : (slice_get a k ≡ Some f) ⊎ ((k ≡ length a) × (f ≡ record { node = x; asker = o })) → (slice_get a j ≡ Some g) ⊎ ((j ≡ length a) × (g ≡ record { node = x; asker = o })) → k ≡ j
    by (inl p) (inl q) = once k j f g p q same
    by (inl p) (inr (last, is)) = absurd (fresh (k, (f, p, same ∙ ap (λ (h : Found). h.node) is)))
    by (inr (last, is)) (inl q) = absurd (fresh (j, (g, q, sym same ∙ ap (λ (h : Found). h.node) is)))
    by (inr (last, is)) (inr (end, equal)) = last ∙ sym end

pub indexed_more : (a b : List Found) (x : Item) (o : Option ℕ) (old fresh : List (Item × ℕ)) → AreIndexed a old → (IsFound a x → ⊥) → Puts old x (length a) fresh → b ≡ a ++ record { node = x; asker = o } ∷ []
    → AreIndexed b fresh
indexed_more a b x o old fresh indexed unfound put e =
    let adds : AddsFound a b o (λ y. y ≡ x) = adds_one a b x o e in
    let here : IsFoundAt b x (length a) = (record { node = x; asker = o }, subst (λ (xs : List Found). slice_get xs (length a) ≡ Some (record { node = x; asker = o })) (sym e) (last_place a (record { node = x; asker = o })), refl) in
    record {
      found = λ y k h. elim (put.only y k h) [
        | inl (same, is) ↦ subst (λ (z : Item). IsFoundAt b z k) (sym same) (subst (λ (j : ℕ). IsFoundAt b x j) (sym is) here)
        | inr (differ, before) ↦ (let (f, at, is) = indexed.found y k before in (f, adds.kept.at k f at, is))
      ];
      indexed = λ y (k, (f, at, is)). elim (adds.only k f at) [
        | inl before ↦ (let (j, held) = indexed.indexed y (k, (f, before, is)) in
            elim (put.keeps y j held) [
              | inl same ↦ (length a, subst (λ (z : Item). Contains fresh (z, length a)) (sym same) put.has)
              | inr kept ↦ (j, kept)
            ])
        | inr (past, asks, same) ↦ (length a, subst (λ (z : Item). Contains fresh (z, length a)) (sym same ∙ is) put.has)
      ];
      once = once_more a b x o indexed.once unfound e;
    }

pub indexed_add : (a b : List Found) (x : Item) (o : Option ℕ) (n : ℕ) (old fresh : List (Item × ℕ)) → n ≡ length a → AreIndexed a old → (IsFound a x → ⊥) → Puts old x n fresh → b ≡ a ++ record { node = x; asker = o } ∷ []
    → AreIndexed b fresh
indexed_add a b x o n old fresh e indexed unfound put is = indexed_more a b x o old fresh indexed unfound (subst (λ (k : ℕ). Puts old x k fresh) e put) is

-- ---- sound findings

given_on : (m : Map) {a b : List Found} → StaysFound a b → (x : Item) (o : Option ℕ) → IsGiven (world_in m) (task_in m) a x o → IsGiven (world_in m) (task_in m) b x o
given_on m stays x None first = first
given_on m stays x (Some j) (g, at, asks) = (g, stays.at j g at, asks)

given_held : (m : Map) (a : Findings) → IsSound m a → (x : Item) (o : Option ℕ) → IsGiven (world_in m) (task_in m) a.nodes.items x o → IsHeld (world_in m) (task_in m) x
given_held m a sound x None first = first_held (world_in m) (task_in m) x first
given_held m a sound x (Some j) (g, at, asks) = holds_on (world_in m) (task_in m) g.node x (sound.held g.node (j, (g, at, refl))) asks

given_before : (m : Map) (a : List Found) (x : Item) (o : Option ℕ) (j : ℕ) → o ≡ Some j → IsGiven (world_in m) (task_in m) a x o → j < length a
given_before m a x None j e given = absurd cc
given_before m a x (Some i) j e (g, at, asks) = let b : i < length a = slice_get_within a i g at in let same : i ≡ j = cc in omega arith

pub sound_adds : (m : Map) (a b : Findings) (o : Option ℕ) (Q : Item → Type 0) → IsSound m a → AreIndexed b.nodes.items b.places.entries → AddsFound a.nodes.items b.nodes.items o Q
    → ((x : Item) → Q x → IsGiven (world_in m) (task_in m) a.nodes.items x o) → IsSound m b
sound_adds m a b o Q sound indexed adds give = record {
  indexed = indexed;
  ordered = λ k j f at e. elim (adds.only k f at) [
    | inl old ↦ sound.ordered k j f old e
    | inr (past, is, q) ↦ (let less : j < length a.nodes.items = given_before m a.nodes.items f.node o j (sym is ∙ e) (give f.node q) in let p : length a.nodes.items ≤ k = past in omega arith)
  ];
  given = λ k f at. given_on m adds.kept f.node f.asker (elim (adds.only k f at) [
    | inl old ↦ sound.given k f old
    | inr (past, is, q) ↦ subst (λ (p : Option ℕ). IsGiven (world_in m) (task_in m) a.nodes.items f.node p) (sym is) (give f.node q)
  ]);
  held = λ x (k, (f, at, is)). elim (adds.only k f at) [
    | inl old ↦ sound.held x (k, (f, old, is))
    | inr (past, same, q) ↦ subst (λ (y : Item). IsHeld (world_in m) (task_in m) y) is (given_held m a sound f.node o (give f.node q))
  ];
}

pub sound_start : (m : Map) (a : Findings) → a.nodes.items ≡ [] → a.places.entries ≡ [] → IsSound m a
sound_start m a e f = record {
  indexed = indexed_start a.nodes.items a.places.entries e f;
  ordered = λ k j g at is. absurd (none k g at);
  given = λ k g at. absurd (none k g at);
  held = λ x (k, (g, at, is)). absurd (none k g at);
}
  where
    none : (k : ℕ) (g : Found) → slice_get a.nodes.items k ≡ Some g → ⊥
    none k g at = let b : k < length a.nodes.items = slice_get_within a.nodes.items k g at in let l : length a.nodes.items ≡ 0 = ap length e in omega arith
