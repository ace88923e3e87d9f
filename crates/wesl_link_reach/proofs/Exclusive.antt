-- Success and refusal exclude each other.
use Rattle.std.proofs.Common.{◌≡◌, ◌⊎◌, inl, inr, ℕ, List, Contains, subst, sym, refl, ap, ◌∙◌}
use Rattle.wesl_link_symbols.specs.declared.symbols.LookUp.{LookUp}
use Rattle.wesl_link_symbols.specs.declared.symbols.Symbol.{Symbol}
use Rattle.wesl_link_symbols.specs.declared.symbols.Answer.{Answer}
use Rattle.wesl_link_symbols.specs.declared.symbols.Answer.TheVariants.{Missing, Private as Hidden, Ambiguous}
use Rattle.wesl_link_symbols.specs.Tables.{Table}
use Rattle.wesl_link_reach.specs.World.{Task, IsAt, IsWorld, Hops, Walk, WalksTo, Reaches, EndsWith, LeadsTo, IsMissingAt, IsPrivateAt, IsAmbiguousAt, Entered, Reached, Followed}
use Rattle.wesl_link_reach.specs.World.Walk.{begin, step}
use Rattle.wesl_link_reach.specs.World.Entered.{root, asked, imported}
use Rattle.wesl_link_reach.specs.World.Reached.{led_to, declared}
use Rattle.wesl_link_reach.specs.World.Followed.{kept, by_assert, by_symbol}
use Rattle.wesl_link_reach.specs.Faults.{Fault, duplicate, refused, missing, private, too_many, ambiguous, too_many_flags, Stands}
use Rattle.wesl_link_reach.specs.Linking.{Linking, IsLinked}
use Rattle.wesl_link_reach.specs.Laws.{AreExclusive}
use Rattle.wesl_link_reach.proofs.Lists.{all_into}

module _ {P N : Type 0} where
  -- every table that v has at a path that w enters is in w
  pub record Shares (w v : List (Table P N)) (task : (Task P N)) : Type 0 where
    pub held : (p : P) (t : (Table P N)) → Entered w task p → IsAt v p t → IsAt w p t

  hop_into : {w v : List (Table P N)} {task : (Task P N)} → Shares w v task → (a b : (LookUp P N)) → Entered w task a.path → Hops v a b → Hops w a b
  hop_into shares a b h (t, at, answers) = (t, shares.held a.path t h at, answers)

  enters : {w : List (Table P N)} {task : (Task P N)} → (l a : (LookUp P N)) → Followed w task l → WalksTo w l a → Entered w task a.path
  enters l a f c = asked l a a.path f c refl

  walk_into : {w v : List (Table P N)} {task : (Task P N)} → Shares w v task → (l : (LookUp P N)) (met : List (LookUp P N)) (a : (LookUp P N)) → Followed w task l → Walk v l met a → Walk w l met a
  walk_into shares l met a f (begin _ e) = begin a e
  walk_into shares l met a f (step before b _ r new h) =
      let r2 = walk_into shares l before b f r in step before b a r2 new (hop_into shares b a (enters l b f (before, r2)) h)

  walks_into : {w v : List (Table P N)} {task : (Task P N)} → Shares w v task → (l a : (LookUp P N)) → Followed w task l → WalksTo v l a → WalksTo w l a
  walks_into shares l a f (met, walk) = (met, walk_into shares l met a f walk)

  -- what a look-up reaches is entered
  reach_enters : {w : List (Table P N)} {task : (Task P N)} → (l a : (LookUp P N)) → Followed w task l → Reaches w l a → Entered w task a.path
  reach_enters l a f (met, walk, new) = enters l a f (met, walk)

  reaches_into : {w v : List (Table P N)} {task : (Task P N)} → Shares w v task → (l a : (LookUp P N)) → Followed w task l → Reaches v l a → Reaches w l a
  reaches_into shares l a f (met, walk, new) = (met, walk_into shares l met a f walk, new)

  leads_into : {w v : List (Table P N)} {task : (Task P N)} → Shares w v task → (l : (LookUp P N)) (s : (Symbol P N)) → Followed w task l → LeadsTo v l s → LeadsTo w l s
  leads_into shares l s f (a, reaches, (t, at, d, e)) =
      let r = reaches_into shares l a f reaches in (a, r, (t, shares.held a.path t (reach_enters l a f r) at, d, e))

  ends_into : {w v : List (Table P N)} {task : (Task P N)} → Shares w v task → (l a : (LookUp P N)) (x : Answer P N) → Followed w task l → EndsWith v l a x → EndsWith w l a x
  ends_into shares l a x f (reaches, (t, at, answers)) =
      let r = reaches_into shares l a f reaches in (r, (t, shares.held a.path t (reach_enters l a f r) at, answers))

  reached_enters : {w : List (Table P N)} {task : (Task P N)} → {s : (Symbol P N)} → Reached w task s → Entered w task s.path
  reached_enters {s = s} (led_to l _ f (a, (met, walk, new), (t, at, d, e))) = asked l a s.path f (met, walk) (sym (ap (λ (x : (Symbol P N)). x.path) e))
  reached_enters {s = s} (declared _ t eager h at d) = h

  mutual
    entered_into : {w v : List (Table P N)} {task : (Task P N)} → Shares w v task → (p : P) → Entered v task p → Entered w task p
    entered_into shares p (root _ e) = root p e
    entered_into shares p (asked l a _ f c e) = let g = followed_into shares l f in asked l a p g (walks_into shares l a g c) e
    entered_into shares p (imported q _ t i eager h at held e) = let g = entered_into shares q h in imported q p t i eager g (shares.held q t g at) held e

    reached_into : {w v : List (Table P N)} {task : (Task P N)} → Shares w v task → (s : (Symbol P N)) → Reached v task s → Reached w task s
    reached_into shares s (led_to l _ f r) = let g = followed_into shares l f in led_to l s g (leads_into shares l s g r)
    reached_into shares s (declared _ t eager h at d) = let g = entered_into shares s.path h in declared s t eager g (shares.held s.path t g at) d

    followed_into : {w v : List (Table P N)} {task : (Task P N)} → Shares w v task → (l : (LookUp P N)) → Followed v task l → Followed w task l
    followed_into shares l (kept _ k) = kept l k
    followed_into {w} {v} {task} shares l (by_assert p t _ h at asks) = let g = entered_into shares p h in by_assert p t l g (shares.held p t g at) asks
    followed_into {w} {v} {task} shares l (by_symbol s t _ h at asks) =
        let g = reached_into shares s h in by_symbol s t l g (shares.held s.path t (reached_enters g) at) asks

  table_in : (hands : P → Table P N → Type 0) (start : Table P N) (w v : List (Table P N))
      → ((p : P) (x y : Table P N) → hands p x → hands p y → x ≡ y) → IsWorld hands start w → IsWorld hands start v
      → (n m : Table P N) → Contains v n → Contains w m → n.path ≡ m.path → (n ≡ start) ⊎ hands n.path n → (m ≡ start) ⊎ hands m.path m → Contains w n
  table_in hands start w v one in_w in_v n m n_held m_held e (inl is) _ = subst (λ (x : Table P N). Contains w x) (sym is) in_w.root_in
  table_in hands start w v one in_w in_v n m n_held m_held e (inr h) (inl is) =
      let same : n ≡ start = in_v.one_table n start n_held in_v.root_in (e ∙ ap (λ (x : Table P N). x.path) is) in
      subst (λ (x : Table P N). Contains w x) (sym same) in_w.root_in
  table_in hands start w v one in_w in_v n m n_held m_held e (inr h) (inr g) =
      let same : n ≡ m = one m.path n m (subst (λ (q : P). hands q n) e h) g in
      subst (λ (x : Table P N). Contains w x) (sym same) m_held

  shares_of : (hands : P → Table P N → Type 0) (start : Table P N) (task : Task P N) (w v : List (Table P N))
      → ((p : P) (x y : Table P N) → hands p x → hands p y → x ≡ y)
      → IsWorld hands start w → IsWorld hands start v
      → ((p : P) → Entered w task p → (m : Table P N) × IsAt w p m) → Shares w v task
  shares_of hands start task w v one in_w in_v paths = record {
    held = λ p t h at. (
      let (m, m_at) = paths p h in
          table_in hands start w v one in_w in_v t m at.0 m_at.0 (at.1 ∙ sym m_at.1) (in_v.handed t at.0) (in_w.handed m m_at.0),
      at.1,
    );
  }

  -- a path that w has is not refused
  handed_not_refused : {E : Type 0} (hands : P → Table P N → Type 0) (refuses : P → E → Type 0) (start : Table P N) (v : List (Table P N)) (p : P) (e : E)
      → ((p : P) (t : Table P N) (e : E) → hands p t → refuses p e → ⊥) → IsWorld hands start v → ((t : Table P N) → IsAt v p t → ⊥) → refuses p e
      → (m : Table P N) → m.path ≡ p → (m ≡ start) ⊎ hands m.path m → ⊥
  handed_not_refused hands refuses start v p e never in_v absent is m at (inl same) =
      absent start (in_v.root_in, ap (λ (x : Table P N). x.path) (sym same) ∙ at)
  handed_not_refused hands refuses start v p e never in_v absent is m at (inr h) = never p m e (subst (λ (q : P). hands q m) at h) is

  missing_into : {w v : List (Table P N)} {task : Task P N} → Shares w v task → (l : LookUp P N) (p : P) (n : N) → Followed w task l → IsMissingAt v l p n → IsMissingAt w l p n
  missing_into shares l p n f (a, ep, en, inl ends) = (a, ep, en, inl (ends_into shares l a Missing f ends))
  missing_into shares l p n f (a, ep, en, inr (met, walk, again)) = (a, ep, en, inr (met, walk_into shares l met a f walk, again))

  private_into : {w v : List (Table P N)} {task : Task P N} → Shares w v task → (l : LookUp P N) (n : N) (p : P) → Followed w task l → IsPrivateAt v l n p → IsPrivateAt w l n p
  private_into shares l n p f (a, ep, en, ends) = (a, ep, en, ends_into shares l a Hidden f ends)

  ambiguous_into : {w v : List (Table P N)} {task : Task P N} → Shares w v task → (l : LookUp P N) (n : N) → Followed w task l → IsAmbiguousAt v l n → IsAmbiguousAt w l n
  ambiguous_into shares l n f (a, en, ends) = (a, en, ends_into shares l a Ambiguous f ends)

  stands_into : {E : Type 0} (hands : P → Table P N → Type 0) (refuses : P → E → Type 0) (start : Table P N) (task : Task P N) (limit : ℕ) (k : Linking P N) (v : List (Table P N))
      → ((p : P) (t : Table P N) (e : E) → hands p t → refuses p e → ⊥)
      → IsLinked hands refuses start task limit k → IsWorld hands start v → Shares k.tables v task
      → (fault : Fault P N E) → Stands refuses task limit v fault → Stands refuses task limit k.tables fault
  stands_into hands refuses start task limit k v never linked in_v shares (duplicate p n) (t, at, h, clash) =
      let g = entered_into shares p h in (t, shares.held p t g at, g, clash)
  stands_into hands refuses start task limit k v never linked in_v shares (refused e) (p, h, absent, is) =
      let (m, at) = (linked.paths p).1 (entered_into shares p h) in
      absurd (handed_not_refused hands refuses start v p e never in_v absent is m at.1 (linked.world.handed m at.0))
  stands_into hands refuses start task limit k v never linked in_v shares (missing p n) (l, f, rest) =
      let g = followed_into shares l f in (l, g, missing_into shares l p n g rest)
  stands_into hands refuses start task limit k v never linked in_v shares (private n p) (l, f, rest) =
      let g = followed_into shares l f in (l, g, private_into shares l n p g rest)
  stands_into hands refuses start task limit k v never linked in_v shares (ambiguous n) (inl (t, held, h, unclear)) =
      let g = entered_into shares t.path h in inl (t, (shares.held t.path t g (held, refl)).0, g, unclear)
  stands_into hands refuses start task limit k v never linked in_v shares (ambiguous n) (inr (inl (s, t, h, at, unclear))) =
      let g = reached_into shares s h in inr (inl (s, t, g, shares.held s.path t (reached_enters g) at, unclear))
  stands_into hands refuses start task limit k v never linked in_v shares (ambiguous n) (inr (inr (l, f, rest))) =
      let g = followed_into shares l f in inr (inr (l, g, ambiguous_into shares l n g rest))
  stands_into hands refuses start task limit k v never linked in_v shares (too_many_flags p) (t, at, h, crowded) =
      let g = entered_into shares p h in (t, shares.held p t g at, g, crowded)
  stands_into hands refuses start task limit k v never linked in_v shares (too_many j) (e, ps, distinct, all, many) =
      (e, ps, distinct, all_into (entered_into shares) ps all, many)

  pub exclude : {E : Type 0} (hands : P → Table P N → Type 0) (refuses : P → E → Type 0) → AreExclusive hands refuses
  exclude hands refuses start task limit k fault one never linked (v, in_v, stands) =
      let shares = shares_of hands start task k.tables v one linked.world in_v (λ p h. (linked.paths p).1 h) in
      linked.no_fault fault (stands_into hands refuses start task limit k v never linked in_v shares fault stands)
