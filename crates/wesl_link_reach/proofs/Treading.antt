-- Walks that go on over steps which were trodden.
use Rattle.std.proofs.Common.{◌≡◌, ◌⊎◌, inl, inr, ℕ, ◌<◌, ◌≤◌, List, [], ◌∷◌, ◌++◌, length, reverse, Contains, arith, subst, sym, refl, ap, ◌∙◌, append_assoc}
use Rattle.std.proofs.lemmas.List.{append-nil, reverse-append}
use Rattle.std.proofs.lemmas.List.Elements.{Contains-append_left, Contains-append_right, Contains-append_cases}
use Rattle.std.proofs.lemmas.Option.{slice_get_within}
use Rattle.wesl_link_symbols.specs.declared.symbols.LookUp.{LookUp}
use Rattle.wesl_link_symbols.specs.declared.symbols.Symbol.{Symbol}
use Rattle.wesl_link_symbols.specs.Tables.{Table}
use Rattle.wesl_link_reach.specs.World.{Finds, HasMet, LeadsTo, Walk}
use Rattle.wesl_link_reach.specs.World.Walk.{begin, step}
use Rattle.wesl_link_reach.specs.Laws.{Within}
use Rattle.wesl_link_reach.specs.Loading.{GoesOn}
use Rattle.wesl_link_reach.specs.Trodden.{symbol_of, StepAt, IsAsked, IsAskedUpTo, PutsStep, IsTrodden, AreTrodden, IsOnWay}
use Rattle.wesl_link_symbols.proofs.Lists.{contains_nil, contains_first, contains_later, contains_cases, at_push}
use Rattle.wesl_link_reach.proofs.Lists.{contains_one, last_place, place_kept}
use Rattle.wesl_link_reach.proofs.Growth.{walk_more, finds_more}

module _ {P N : Type 0} where
  pub trodden_more : {w v : List (Table P N)} {ss xs : List (Symbol P N)} {steps : List (LookUp P N × Symbol P N)} → Within w v → ((x : Symbol P N) → Contains ss x → Contains xs x) → AreTrodden w ss steps → AreTrodden v xs steps
  trodden_more more kept trodden k l s at =
      let t = trodden k l s at in
      record { met = t.met; last = t.last; walk = walk_more more l t.met t.last t.walk; new = t.new; finds = finds_more more t.last s t.finds; held = kept s t.held; asked = t.asked }

  pub same_symbol : (a b : LookUp P N) → a.path ≡ b.path → a.name ≡ b.name → symbol_of a ≡ symbol_of b
  same_symbol a b e f = cc

  -- ---- walks that are put together, and ends of walks

  pub joined : {w : List (Table P N)} (start current last : LookUp P N) (met before : List (LookUp P N)) → Walk w start before current → Walk w current met last
      → ((b : LookUp P N) → Contains (last ∷ met) b → HasMet before b → ⊥) → Walk w start (met ++ before) last
  joined {w} start current last met before r (begin _ e) apart = subst (λ (x : LookUp P N). Walk w start before x) (sym e) r
  joined start current last met before r (step m a _ more new h) apart =
      step (m ++ before) a last (joined start current a m before r more (λ b held. apart b (contains_later last b (a ∷ m) held)))
      (λ (b, held, q). elim (Contains-append_cases m before b held) [
        | inl k ↦ new (b, k, q)
        | inr k ↦ apart a (contains_later last a (a ∷ m) (contains_first a m)) (b, k, q)
      ]) h

  in_longer : (met before : List (LookUp P N)) (x b : LookUp P N) → Contains (met ++ x ∷ []) b → Contains (met ++ x ∷ before) b
  in_longer met before x b held = elim (Contains-append_cases met (x ∷ []) b held) [
    | inl k ↦ Contains-append_left met (x ∷ before) b k
    | inr k ↦ Contains-append_right met (x ∷ before) b (subst (λ (y : LookUp P N). Contains (x ∷ before) y) (contains_one x b k) (contains_first x before))
  ]

  pub walk_end : {w : List (Table P N)} (start x last : LookUp P N) (met before : List (LookUp P N)) → Walk w start (met ++ x ∷ before) last → Walk w x (met ++ x ∷ []) last
  walk_end start x last [] before (step _ _ _ r new h) = step [] x last (begin x refl) (λ (b, held, q). contains_nil b held) h
  walk_end start x last (y ∷ met) before (step _ _ _ r new h) = step (met ++ x ∷ []) y last (walk_end start x y met before r) (λ (b, held, q). new (b, in_longer met before x b held, q)) h

  -- ---- one more step

  asked_up : (steps : List (LookUp P N × Symbol P N)) (added : LookUp P N × Symbol P N) (b : LookUp P N) (k : ℕ) → IsAskedUpTo steps k b → IsAskedUpTo (steps ++ added ∷ []) k b
  asked_up steps added b k (j, low, l, s, at, is) = (j, low, l, s, place_kept steps added j (l, s) at, is)

  asked_last : (steps : List (LookUp P N × Symbol P N)) (added : LookUp P N × Symbol P N) (b : LookUp P N) → IsAsked steps b → IsAskedUpTo (steps ++ added ∷ []) (length steps) b
  asked_last steps added b (j, l, s, at, is) = let low : j < length steps = slice_get_within steps j (l, s) at in (j, omega arith, l, s, place_kept steps added j (l, s) at, is)

  asked_here : (steps : List (LookUp P N × Symbol P N)) (x : LookUp P N) (s : Symbol P N) → IsAskedUpTo (steps ++ (x, s) ∷ []) (length steps) x
  asked_here steps x s = (length steps, omega arith, x, s, last_place steps (x, s), refl)

  pub asked_more : (old new : List (LookUp P N × Symbol P N)) (x : LookUp P N) (s : Symbol P N) → PutsStep old x s new → (b : LookUp P N) → IsAsked old b → IsAsked new b
  asked_more old new x s (inl (e, there)) b held = subst (λ (z : List (LookUp P N × Symbol P N)). IsAsked z b) (sym e) held
  asked_more old new x s (inr e) b (j, l, t, at, is) = (j, l, t, subst (λ (z : List (LookUp P N × Symbol P N)). StepAt z j l t) (sym e) (place_kept old (x, s) j (l, t) at), is)

  pub asked_put : (old new : List (LookUp P N × Symbol P N)) (x : LookUp P N) (s : Symbol P N) → PutsStep old x s new → IsAsked new x
  asked_put old new x s (inl (e, (k, t, at))) = (k, x, t, subst (λ (z : List (LookUp P N × Symbol P N)). StepAt z k x t) (sym e) at, refl)
  asked_put old new x s (inr e) = (length old, x, s, subst (λ (z : List (LookUp P N × Symbol P N)). StepAt z (length old) x s) (sym e) (last_place old (x, s)), refl)

  -- a walk from the look-up to where the symbol is found, on which all but itself is asked by steps
  pub record IsWay (w : List (Table P N)) (ss : List (Symbol P N)) (steps : List (LookUp P N × Symbol P N)) (x : LookUp P N) (s : Symbol P N) : Type 0 where
    pub met : List (LookUp P N)
    pub last : LookUp P N
    pub walk : Walk w x met last
    pub new : HasMet met last → ⊥
    pub finds : Finds w last s
    pub held : Contains ss s
    pub asked : (b : LookUp P N) → Contains (last ∷ met) b → IsAsked steps b ⊎ (x ≡ b)

  pub trodden_put : {w : List (Table P N)} {ss : List (Symbol P N)} (old new : List (LookUp P N × Symbol P N)) (x : LookUp P N) (s : Symbol P N) → AreTrodden w ss old → IsWay w ss old x s → PutsStep old x s new → AreTrodden w ss new
  trodden_put {w} {ss} old new x s trodden way (inl (e, there)) = subst (λ (z : List (LookUp P N × Symbol P N)). AreTrodden w ss z) (sym e) trodden
  trodden_put {w} {ss} old new x s trodden way (inr e) = subst (λ (z : List (LookUp P N × Symbol P N)). AreTrodden w ss z) (sym e) (λ k l t at. by k l t (at_push old (x, s) k (l, t) at))
    where
      last_one : IsTrodden w ss (old ++ (x, s) ∷ []) (length old) x s
      last_one = record {
        met = way.met;
        last = way.last;
        walk = way.walk;
        new = way.new;
        finds = way.finds;
        held = way.held;
        asked = λ b held. elim (way.asked b held) [
          | inl earlier ↦ asked_last old (x, s) b earlier
          | inr is ↦ subst (λ (y : LookUp P N). IsAskedUpTo (old ++ (x, s) ∷ []) (length old) y) is (asked_here old x s)
        ];
      }

      by : (k : ℕ) (l : LookUp P N) (t : Symbol P N) → StepAt old k l t ⊎ ((k ≡ length old) × ◌≡◌ {A = LookUp P N × Symbol P N} (l, t) (x, s)) → IsTrodden w ss (old ++ (x, s) ∷ []) k l t
      by k l t (inl at) =
          let z = trodden k l t at in
          record { met = z.met; last = z.last; walk = z.walk; new = z.new; finds = z.finds; held = z.held; asked = λ b held. asked_up old (x, s) b k (z.asked b held) }
      by k l t (inr (i, is)) =
          subst (λ (j : ℕ). IsTrodden w ss (old ++ (x, s) ∷ []) j l t) (sym i)
          (subst (λ (y : LookUp P N × Symbol P N). IsTrodden w ss (old ++ (x, s) ∷ []) (length old) y.0 y.1) (sym is) last_one)

  -- ---- the look-ups of a trail, from its end

  back_one : (met rest trail : List (LookUp P N)) (x : LookUp P N) → trail ≡ rest ++ x ∷ [] → met ++ reverse trail ≡ met ++ x ∷ reverse rest
  back_one met rest trail x e = ap (λ (xs : List (LookUp P N)). met ++ xs) (ap (λ (xs : List (LookUp P N)). reverse xs) e ∙ reverse-append rest (x ∷ []))

  module _ {w : List (Table P N)} {ss : List (Symbol P N)} (start : LookUp P N) (s : Symbol P N) where
    pub way_of : (old : List (LookUp P N × Symbol P N)) (rest trail : List (LookUp P N)) (x : LookUp P N) → trail ≡ rest ++ x ∷ [] → IsOnWay w ss old start trail s → IsWay w ss old x s
    way_of old rest trail x e way =
        let same = back_one way.met rest trail x e in
        record {
          met = way.met ++ x ∷ [];
          last = way.last;
          walk = walk_end start x way.last way.met (reverse rest) (subst (λ (xs : List (LookUp P N)). Walk w start xs way.last) same way.walk);
          new = λ (b, held, q). way.new (b, subst (λ (xs : List (LookUp P N)). Contains xs b) (sym same) (in_longer way.met (reverse rest) x b held), q);
          finds = way.finds;
          held = way.held;
          asked = λ b held. elim (contains_cases way.last b (way.met ++ x ∷ []) held) [
            | inl is ↦ inl (subst (λ (y : LookUp P N). IsAsked old y) is (way.asked way.last (contains_first way.last way.met)))
            | inr k ↦ elim (Contains-append_cases way.met (x ∷ []) b k) [
              | inl j ↦ inl (way.asked b (contains_later way.last b way.met j))
              | inr j ↦ inr (contains_one x b j)
            ]
          ];
        }

    pub way_back : (old new : List (LookUp P N × Symbol P N)) (rest trail : List (LookUp P N)) (x : LookUp P N) → trail ≡ rest ++ x ∷ [] → IsOnWay w ss old start trail s → PutsStep old x s new → IsOnWay w ss new start rest s
    way_back old new rest trail x e way put =
        let same : way.met ++ reverse trail ≡ (way.met ++ x ∷ []) ++ reverse rest = back_one way.met rest trail x e ∙ sym (append_assoc way.met (x ∷ []) (reverse rest)) in
        record {
          met = way.met ++ x ∷ [];
          last = way.last;
          walk = subst (λ (xs : List (LookUp P N)). Walk w start xs way.last) same way.walk;
          new = λ (b, held, q). way.new (b, subst (λ (xs : List (LookUp P N)). Contains xs b) (sym same) held, q);
          finds = way.finds;
          held = way.held;
          asked = λ b held. elim (contains_cases way.last b (way.met ++ x ∷ []) held) [
            | inl is ↦ asked_more old new x s put b (subst (λ (y : LookUp P N). IsAsked old y) is (way.asked way.last (contains_first way.last way.met)))
            | inr k ↦ elim (Contains-append_cases way.met (x ∷ []) b k) [
              | inl j ↦ asked_more old new x s put b (way.asked b (contains_later way.last b way.met j))
              | inr j ↦ subst (λ (y : LookUp P N). IsAsked new y) (contains_one x b j) (asked_put old new x s put)
            ]
          ];
        }

    pub way_leads : (steps : List (LookUp P N × Symbol P N)) (trail : List (LookUp P N)) → IsOnWay w ss steps start trail s → LeadsTo w start s
    way_leads steps trail way = (way.last, (way.met ++ reverse trail, way.walk, way.new), way.finds)

    -- the trail comes to where the symbol is found
    pub way_here : (old new : List (LookUp P N × Symbol P N)) (trail : List (LookUp P N)) (current : LookUp P N) → Walk w start (reverse trail) current → (HasMet (reverse trail) current → ⊥) → Finds w current s → Contains ss s
        → PutsStep old current s new → IsOnWay w ss new start trail s
    way_here old new trail current walk fresh finds held put = record {
      met = [];
      last = current;
      walk = walk;
      new = fresh;
      finds = finds;
      held = held;
      asked = λ b h. subst (λ (y : LookUp P N). IsAsked new y) (contains_one current b h) (asked_put old new current s put);
    }

    pub way_alone : (steps : List (LookUp P N × Symbol P N)) (current : LookUp P N) → Finds w current s → Contains ss s → IsWay w ss steps current s
    way_alone steps current finds held = record {
      met = [];
      last = current;
      walk = begin current refl;
      new = λ (b, h, q). contains_nil b h;
      finds = finds;
      held = held;
      asked = λ b h. inr (contains_one current b h);
    }

    -- the trail comes to a look-up that has a step before all that ask what the trail asks
    pub way_on : (steps : List (LookUp P N × Symbol P N)) (trail : List (LookUp P N)) (current : LookUp P N) (bound k : ℕ) → Walk w start (reverse trail) current
        → ((b : LookUp P N) → Contains (reverse trail) b → (j : ℕ) (l : LookUp P N) (t : Symbol P N) → StepAt steps j l t → symbol_of l ≡ symbol_of b → bound ≤ j) → k < bound → IsTrodden w ss steps k current s
        → IsOnWay w ss steps start trail s
    way_on steps trail current bound k walk bounded low t =
        let apart : (b : LookUp P N) → Contains (t.last ∷ t.met) b → HasMet (reverse trail) b → ⊥ = λ b held (c, met, q).
        (let (j, up, l, u, at, is) = t.asked b held in
        let far : bound ≤ j = bounded c met j l u at (is ∙ same_symbol b c q.0 q.1) in
        absurd (omega arith)) in
        record {
          met = t.met;
          last = t.last;
          walk = joined start current t.last t.met (reverse trail) walk t.walk apart;
          new = λ (b, held, q). elim (Contains-append_cases t.met (reverse trail) b held) [
            | inl h ↦ t.new (b, h, q)
            | inr h ↦ apart t.last (contains_first t.last t.met) (b, h, q)
          ];
          finds = t.finds;
          held = t.held;
          asked = λ b held. (let (j, up, l, u, at, is) = t.asked b held in (j, l, u, at, is));
        }

pub puts_step_on : {P N : Type 0} (old new : List (LookUp P N × Symbol P N)) (x : LookUp P N) (s : Symbol P N) → PutsStep old x s new → GoesOn old new
puts_step_on old new x s (inl (e, there)) = ([], e ∙ sym (append-nil old))
puts_step_on old new x s (inr e) = ((x, s) ∷ [], e)
