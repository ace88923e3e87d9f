-- What following a look-up keeps, and what its refusals mean.
use Rattle.std.proofs.Common.{◌≡◌, ◌⊎◌, inl, inr, ℕ, zero, suc, ◌≤◌, List, [], ◌∷◌, ◌++◌, length, reverse, slice_get, Some, Contains, arith, subst, sym, refl, ap, ◌∙◌}
use Rattle.std.proofs.lemmas.List.Elements.{Contains-push_cases, Contains-append_left, Contains-push}
use Rattle.wesl_link_symbols.specs.declared.ids.PathId.{PathId}
use Rattle.wesl_tree_base.specs.declared.ids.NameId.{NameId}
use Rattle.wesl_link_symbols.specs.declared.symbols.Answer.TheVariants.{Declared, Missing, Private as Hidden, Ambiguous}
use Rattle.wesl_link_reach.specs.declared.request.Request.{Request}
use Rattle.wesl_link_reach.specs.declared.request.Loaded.{Loaded}
use Rattle.wesl_link_symbols.specs.Keyed.{Puts, PutsKey}
use Rattle.wesl_link_symbols.specs.declared.symbols.LookUp.{LookUp}
use Rattle.wesl_link_symbols.specs.declared.symbols.Symbol.{Symbol}
use Rattle.wesl_link_symbols.specs.Tables.{Table}
use Rattle.wesl_link_symbols.specs.Names.{Answers}
use Rattle.wesl_link_reach.specs.World.{IsAt, Hops, HasMet, LeadsTo, Walk, Task, Entered, Reached, Followed}
use Rattle.wesl_link_reach.specs.World.Walk.{begin, step}
use Rattle.wesl_link_reach.specs.World.Entered.{asked}
use Rattle.wesl_link_reach.specs.World.Reached.{led_to}
use Rattle.wesl_link_reach.specs.Faults.{missing, private, ambiguous, Explained}
use Rattle.wesl_link_reach.specs.Loader.{OnlyAdds}
use Rattle.wesl_link_reach.specs.Laws.{Within}
use Rattle.std.proofs.lemmas.List.{append-nil, reverse-append}
use Rattle.std.proofs.lemmas.List.Sorted.{Contains-permutation, IsPermutation-reverse, IsPermutation-sym}
use Rattle.wesl_link_reach.specs.Loading.{GoesOn, IsSoundIn, CanEnter, IsAnswered, IsSound, IsWalked, HasFound, symbol_of, Grows, task_at, with_trodden, world_of}
use Rattle.wesl_link_reach.specs.Trodden.{StepAt, NoneBefore, AreTrodden}
use Rattle.wesl_link_symbols.proofs.Lists.{contains_nil}
use Rattle.wesl_link_reach.proofs.Growth.{walk_more, reaches_more, followed_more, at_more}
use Rattle.wesl_link_reach.proofs.Growing.{within_on, within_cons, goes_on_itself, goes_on_length, goes_on_trans}
use Rattle.wesl_link_reach.proofs.Steps.{sound_answer, sound_steps}
use Rattle.wesl_link_reach.proofs.Treading.{same_symbol}

-- the look-ups that were met from the start to where the search is now, and what they ask
pub record IsTrail {P N : Type 0} (w : List (Table P N)) (task : Task P N) (start : LookUp P N) (trail : List (LookUp P N)) (questions : List (Symbol P N)) (current : LookUp P N) : Type 0 where
  pub followed : Followed w task start
  pub walk : Walk w start (reverse trail) current
  pub noted : (b : LookUp P N) → Contains trail b → Contains questions (symbol_of b)
  pub asked : (q : Symbol P N) → Contains questions q → (b : LookUp P N) × Contains trail b × (symbol_of b ≡ q)

-- no step before the bound asks what the trail asks
pub record IsBound {P N : Type 0} (steps : List (LookUp P N × Symbol P N)) (trail : List (LookUp P N)) (bound : ℕ) : Type 0 where
  pub low : bound ≤ length steps
  pub none : (b : LookUp P N) → Contains trail b → NoneBefore steps (symbol_of b) bound

at_before : {X : Type 0} (xs ys : List X) (k : ℕ) (x : X) → slice_get (xs ++ ys) k ≡ Some x → (slice_get xs k ≡ Some x) ⊎ (length xs ≤ k)
at_before [] ys k x e = inr (omega arith)
at_before (z ∷ xs) ys zero x e = inl e
at_before (z ∷ xs) ys (suc k) x e = elim (at_before xs ys k x e) [ inl h ↦ inl h | inr h ↦ inr (omega arith) ]

pub back_in : {X : Type 0} (xs : List X) (x : X) → Contains (reverse xs) x → Contains xs x
back_in xs x h = Contains-permutation (reverse xs) xs x (IsPermutation-sym xs (reverse xs) (IsPermutation-reverse xs)) h

pub in_back : {X : Type 0} (xs : List X) (x : X) → Contains xs x → Contains (reverse xs) x
in_back xs x h = Contains-permutation xs (reverse xs) x (IsPermutation-reverse xs) h

pub puts_has : {K : Type 0} (old new : List K) (k : K) → PutsKey old k new → Contains new k
puts_has {K} old new k (inl (there, e)) = subst (λ (xs : List K). Contains xs k) (sym e) there
puts_has {K} old new k (inr (fresh, e)) = subst (λ (xs : List K). Contains xs k) (sym e) (Contains-push old k)

pub puts_on : {K : Type 0} (old new : List K) (k : K) → PutsKey old k new → GoesOn old new
puts_on old new k (inl (there, e)) = ([], e ∙ sym (append-nil old))
puts_on old new k (inr (fresh, e)) = (k ∷ [], e)

module _ {P N : Type 0} where
  pub walked_more : {w v : List (Table P N)} (task : Task P N) (l : LookUp P N) → Within w v → IsWalked w task l → IsWalked v task l
  walked_more task l more (start, f, reaches) = (start, followed_more more start f, reaches_more more start l reaches)

  pub walked_enters : {w : List (Table P N)} {task : Task P N} (l : LookUp P N) → IsWalked w task l → Entered w task l.path
  walked_enters l (start, f, (met, walk, new)) = asked start l l.path f (met, walk) refl

  pub walked_reaches : {w : List (Table P N)} {task : Task P N} (l : LookUp P N) (t : Table P N) → IsWalked w task l → IsAt w l.path t → Answers t l Declared → Reached w task (symbol_of l)
  walked_reaches l t (start, f, reaches) at d = led_to start (symbol_of l) f (l, reaches, (t, at, d, refl))

  pub found_by : (w : List (Table P N)) (ss : List (Symbol P N)) (l : LookUp P N) (t : Table P N) → IsAt w l.path t → Answers t l Declared → Contains ss (symbol_of l) → HasFound w ss l
  found_by w ss l t at d held = ((t, at, d, refl), held)

  pub next_can : {hands : P → Table P N → Type 0} {ready : P → Type 0} {root : Table P N} {task : Task P N} {limit : ℕ} {others : List (Table P N)} {ss : List (Symbol P N)} {places : List (P × ℕ)}
      {answers steps : List (LookUp P N × Symbol P N)} → IsSoundIn hands ready root task limit others ss places answers steps → (l n : LookUp P N) → Hops (root ∷ others) l n → CanEnter ready (root ∷ others) n.path
  next_can {ready = ready} s l n (t, at, (none, alike, (i, opened, is), all)) = inl (subst (λ (x : LookUp P N). ready x.path) (sym is) ((s.asks_ready t at.0).imports i opened.0.0.0))

  -- ---- the trail of a look-up

  pub trail_start : {w : List (Table P N)} {task : Task P N} (l : LookUp P N) (trail : List (LookUp P N)) (questions : List (Symbol P N)) → trail ≡ [] → questions ≡ [] → Followed w task l → IsTrail w task l trail questions l
  trail_start {w} {task} l trail questions e f followed =
      subst (λ (xs : List (LookUp P N)). IsTrail w task l xs questions l) (sym e) (subst (λ (qs : List (Symbol P N)). IsTrail w task l [] qs l) (sym f) record {
        followed = followed;
        walk = begin l refl;
        noted = λ b h. absurd (contains_nil b h);
        asked = λ q h. absurd (contains_nil q h);
      })

  module _ {w : List (Table P N)} {task : Task P N} {start current : LookUp P N} {trail : List (LookUp P N)} {questions : List (Symbol P N)} where
    -- what it asks now was not asked
    pub trail_new : IsTrail w task start trail questions current → (Contains questions (symbol_of current) → ⊥) → HasMet (reverse trail) current → ⊥
    trail_new t new (b, held, q) = new (subst (λ (x : Symbol P N). Contains questions x) (same_symbol b current (sym q.0) (sym q.1)) (t.noted b (back_in trail b held)))

    pub trail_walked : IsTrail w task start trail questions current → (Contains questions (symbol_of current) → ⊥) → IsWalked w task current
    trail_walked t new = (start, t.followed, (reverse trail, t.walk, trail_new t new))

    pub trail_more : {v : List (Table P N)} → Within w v → IsTrail w task start trail questions current → IsTrail v task start trail questions current
    trail_more more t = record { followed = followed_more more start t.followed; walk = walk_more more start (reverse trail) current t.walk; noted = t.noted; asked = t.asked }

    pub trail_next : {v : List (Table P N)} (next : LookUp P N) (longer : List (LookUp P N)) (questions2 : List (Symbol P N)) → Within w v → IsTrail w task start trail questions current → (Contains questions (symbol_of current) → ⊥)
        → Hops v current next → longer ≡ trail ++ current ∷ [] → PutsKey questions (symbol_of current) questions2 → IsTrail v task start longer questions2 next
    trail_next {v} next longer questions2 more t new h e put =
        let back : reverse longer ≡ current ∷ reverse trail = ap (λ (xs : List (LookUp P N)). reverse xs) e ∙ reverse-append trail (current ∷ []) in
        record {
          followed = followed_more more start t.followed;
          walk = subst (λ (xs : List (LookUp P N)). Walk v start xs next) (sym back) (step (reverse trail) current next (walk_more more start (reverse trail) current t.walk) (trail_new t new) h);
          noted = λ b held. elim (Contains-push_cases trail current b (subst (λ (xs : List (LookUp P N)). Contains xs b) e held)) [
            | inl old ↦ (within_on questions questions2 (puts_on questions questions2 (symbol_of current) put)).held (symbol_of b) (t.noted b old)
            | inr is ↦ subst (λ (x : LookUp P N). Contains questions2 (symbol_of x)) is (puts_has questions questions2 (symbol_of current) put)
          ];
          asked = λ q held. subst (λ (xs : List (LookUp P N)). (b : LookUp P N) × Contains xs b × (symbol_of b ≡ q)) (sym e) (elim put [
            | inl there ↦ asked_old q (t.asked q (subst (λ (qs : List (Symbol P N)). Contains qs q) there.1 held))
            | inr fresh ↦ elim (Contains-push_cases questions (symbol_of current) q (subst (λ (qs : List (Symbol P N)). Contains qs q) fresh.1 held)) [
              | inl old ↦ asked_old q (t.asked q old)
              | inr is ↦ (current, Contains-push trail current, is)
            ]
          ]);
        }
      where
        asked_old : (q : Symbol P N) → (b : LookUp P N) × Contains trail b × (symbol_of b ≡ q) → (b : LookUp P N) × Contains (trail ++ current ∷ []) b × (symbol_of b ≡ q)
        asked_old q (b, held, is) = (b, Contains-append_left trail (current ∷ []) b held, is)

    -- it comes to a question that stands in it
    pub trail_met : IsTrail w task start trail questions current → Contains questions (symbol_of current) → HasMet (reverse trail) current
    trail_met t there = let (b, held, is) = t.asked (symbol_of current) there in (b, in_back trail b held, (ap (λ (x : Symbol P N). x.path) (sym is), ap (λ (x : Symbol P N). x.name) (sym is)))

  -- ---- what the trail asks is not asked before the bound
  pub bound_start : (steps : List (LookUp P N × Symbol P N)) (trail : List (LookUp P N)) (bound : ℕ) → bound ≡ length steps → trail ≡ [] → IsBound steps trail bound
  bound_start steps trail bound e f = record { low = omega arith; none = λ b h. absurd (contains_nil b (subst (λ (xs : List (LookUp P N)). Contains xs b) f h)) }

  bound_more : (steps steps2 : List (LookUp P N × Symbol P N)) (trail : List (LookUp P N)) (bound : ℕ) → GoesOn steps steps2 → IsBound steps trail bound → IsBound steps2 trail bound
  bound_more steps steps2 trail bound (more, e) t =
      let far : length steps ≤ length steps2 = goes_on_length steps steps2 (more, e) in
      record {
        low = (let low = t.low in omega (arith, far, low));
        none = λ b held k l s at is. elim (at_before steps more k (l, s) (subst (λ (xs : List (LookUp P N × Symbol P N)). StepAt xs k l s) e at)) [
          | inl old ↦ t.none b held k l s old is
          | inr new ↦ (let low = t.low in omega (arith, low, new))
        ];
      }

  pub bound_next : (steps steps2 : List (LookUp P N × Symbol P N)) (trail longer : List (LookUp P N)) (current : LookUp P N) (bound bound2 : ℕ) → GoesOn steps steps2 → IsBound steps trail bound → longer ≡ trail ++ current ∷ []
      → bound2 ≤ bound → NoneBefore steps2 (symbol_of current) bound2 → IsBound steps2 longer bound2
  bound_next steps steps2 trail longer current bound bound2 g t e lower none =
      let u = bound_more steps steps2 trail bound g t in
      record {
        low = (let low = u.low in omega (arith, low, lower));
        none = λ b held k l s at is. elim (Contains-push_cases trail current b (subst (λ (xs : List (LookUp P N)). Contains xs b) e held)) [
          | inl old ↦ (let low : bound ≤ k = u.none b old k l s at is in omega (arith, low, lower))
          | inr here ↦ none k l s at (is ∙ ap (λ (x : LookUp P N). symbol_of x) (sym here))
        ];
      }

  -- the trail comes to a question that stands in it
  pub ring_refused : {E : Type 0} {hands : P → Table P N → Type 0} {ready : P → Type 0} {root : Table P N} {task : Task P N} {limit : ℕ} {others : List (Table P N)} {ss : List (Symbol P N)} {places : List (P × ℕ)}
      {answers steps : List (LookUp P N × Symbol P N)} {start current : LookUp P N} {trail : List (LookUp P N)} {questions : List (Symbol P N)} (refuses : P → E → Type 0)
      → IsSoundIn hands ready root task limit others ss places answers steps → IsTrail (root ∷ others) task start trail questions current → Contains questions (symbol_of current)
      → Explained hands refuses root task limit (missing current.path current.name)
  ring_refused {root = root} {others = others} {start = start} {current} {trail} refuses s t there =
      (root ∷ others, s.world, (start, t.followed, (current, refl, refl, inr (reverse trail, t.walk, trail_met t there))))

module _ {E : Type 0} {hands : PathId → Table PathId NameId → Type 0} {ready : PathId → Type 0} {root : Table PathId NameId} {task : Task PathId NameId} {limit : ℕ} {others : List (Table PathId NameId)}
    {ss : List (Symbol PathId NameId)} {places : List (PathId × ℕ)} {answers steps : List (LookUp PathId NameId × Symbol PathId NameId)} (refuses : PathId → E → Type 0) (l : LookUp PathId NameId) (t : Table PathId NameId) where
  pub missing_refused : IsSoundIn hands ready root task limit others ss places answers steps → IsWalked (root ∷ others) task l → IsAt (root ∷ others) l.path t → Answers t l Missing
      → Explained hands refuses root task limit (missing l.path l.name)
  missing_refused s (start, f, reaches) at answer = (root ∷ others, s.world, (start, f, (l, refl, refl, inl (reaches, (t, at, answer)))))

  pub private_refused : IsSoundIn hands ready root task limit others ss places answers steps → IsWalked (root ∷ others) task l → IsAt (root ∷ others) l.path t → Answers t l Hidden
      → Explained hands refuses root task limit (private l.name l.path)
  private_refused s (start, f, reaches) at answer = (root ∷ others, s.world, (start, f, (l, refl, refl, (reaches, (t, at, answer)))))

  pub ambiguous_refused : IsSoundIn hands ready root task limit others ss places answers steps → IsWalked (root ∷ others) task l → IsAt (root ∷ others) l.path t → Answers t l Ambiguous
      → Explained hands refuses root task limit (ambiguous l.name)
  ambiguous_refused s (start, f, reaches) at answer = (root ∷ others, s.world, inr (inr (start, f, (l, refl, (reaches, (t, at, answer))))))

pub can_more : {P N E : Type 0} {a b : P → Table P N → Type 0} {d e : P → E → Type 0} {i j : P → Type 0} {w v : List (Table P N)} (p : P) → OnlyAdds a d i b e j → Within w v → CanEnter i w p → CanEnter j v p
can_more p adds more (inl can) = inl (adds.ready p can)
can_more p adds more (inr (t, at)) = inr (t, at_more more p t at)

-- ---- the state of the engine

pub world_on : (r : Request) (a b : Loaded) → Grows a b → Within (world_of r a) (world_of r b)
world_on r a b g = within_cons r.root a.others.items b.others.items (within_on a.others.items b.others.items g.modules)

pub grows_itself : (a : Loaded) → Grows a a
grows_itself a = record { modules = goes_on_itself a.others.items; symbols = goes_on_itself a.symbols.keys; answers = λ l h. h; steps = goes_on_itself a.trodden.steps }

pub grows_trans : (a b c : Loaded) → Grows a b → Grows b c → Grows a c
grows_trans a b c g h = record {
  modules = goes_on_trans a.others.items b.others.items c.others.items g.modules h.modules;
  symbols = goes_on_trans a.symbols.keys b.symbols.keys c.symbols.keys g.symbols h.symbols;
  answers = λ l k. h.answers l (g.answers l k);
  steps = goes_on_trans a.trodden.steps b.trodden.steps c.trodden.steps g.steps h.steps;
}

-- other steps, and then an answer
module _ (hands : PathId → Table PathId NameId → Type 0) (ready : PathId → Type 0) (r : Request) (a b : Loaded) where
  pub sound_answered : (answers2 : List (LookUp PathId NameId × Symbol PathId NameId)) (l : LookUp PathId NameId) (s : Symbol PathId NameId) → b ≡ with_trodden a b.trodden → IsSound hands ready r a
      → AreTrodden (world_of r a) a.symbols.keys b.trodden.steps → LeadsTo (world_of r a) l s → Contains a.symbols.keys s → Puts b.answers.entries l s answers2
      → IsSoundIn hands ready r.root (task_at r) r.max_modules b.others.items b.symbols.keys b.places.entries answers2 b.trodden.steps
  sound_answered answers2 l s e sound trodden leads held put =
      subst (λ (x : Loaded). Puts x.answers.entries l s answers2 → IsSoundIn hands ready r.root (task_at r) r.max_modules x.others.items x.symbols.keys x.places.entries answers2 x.trodden.steps) (sym e)
      (λ p. sound_answer answers2 l s (sound_steps b.trodden.steps sound trodden) leads held p) put

pub grows_trodden : (a b : Loaded) → b ≡ with_trodden a b.trodden → GoesOn a.trodden.steps b.trodden.steps → Grows a b
grows_trodden a b e more = subst (λ (x : Loaded). Grows a x) (sym e) record { modules = goes_on_itself a.others.items; symbols = goes_on_itself a.symbols.keys; answers = λ l h. h; steps = more }

-- an answer that is put stays one
pub answers_on : (old new : List (LookUp PathId NameId × Symbol PathId NameId)) (l : LookUp PathId NameId) (s : Symbol PathId NameId) → Puts old l s new → (m : LookUp PathId NameId) → IsAnswered old m → IsAnswered new m
answers_on old new l s put m (x, held) = elim (put.keeps m x held) [
  | inl same ↦ (s, subst (λ (k : LookUp PathId NameId). Contains new (k, s)) (sym same) put.has)
  | inr kept ↦ (x, kept)
]

pub adds_itself : {P N E : Type 0} (hands : P → Table P N → Type 0) (refuses : P → E → Type 0) (ready : P → Type 0) → OnlyAdds hands refuses ready hands refuses ready
adds_itself hands refuses ready = record { hands = λ p t h. h; refuses = λ p e h. h; ready = λ p h. h }

pub adds_trans : {P N E : Type 0} {a b c : P → Table P N → Type 0} {d e f : P → E → Type 0} {i j k : P → Type 0} → OnlyAdds a d i b e j → OnlyAdds b e j c f k → OnlyAdds a d i c f k
adds_trans x y = record { hands = λ p t h. y.hands p t (x.hands p t h); refuses = λ p e h. y.refuses p e (x.refuses p e h); ready = λ p h. y.ready p (x.ready p h) }
