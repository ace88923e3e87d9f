-- More modules: all that was followed, entered and reached still is.
use Rattle.std.proofs.Common.{List}
use Rattle.wesl_link_symbols.specs.declared.symbols.LookUp.{LookUp}
use Rattle.wesl_link_symbols.specs.declared.symbols.Symbol.{Symbol}
use Rattle.wesl_link_symbols.specs.Tables.{Table}
use Rattle.wesl_link_reach.specs.World.{Task, IsAt, Finds, Hops, Walk, WalksTo, Reaches, LeadsTo, Entered, Reached, Followed}
use Rattle.wesl_link_reach.specs.World.Walk.{begin, step}
use Rattle.wesl_link_reach.specs.World.Entered.{root, asked, imported}
use Rattle.wesl_link_reach.specs.World.Reached.{led_to, declared}
use Rattle.wesl_link_reach.specs.World.Followed.{kept, by_assert, by_symbol}
use Rattle.wesl_link_reach.specs.Laws.{Within}

module _ {P N : Type 0} where
  pub at_more : {w v : List (Table P N)} → Within w v → (p : P) (t : (Table P N)) → IsAt w p t → IsAt v p t
  at_more more p t at = (more.held t at.0, at.1)

  pub finds_more : {w v : List (Table P N)} → Within w v → (l : (LookUp P N)) (s : (Symbol P N)) → Finds w l s → Finds v l s
  finds_more more l s (t, at, d, e) = (t, at_more more l.path t at, d, e)

  pub hops_more : {w v : List (Table P N)} → Within w v → (a b : (LookUp P N)) → Hops w a b → Hops v a b
  hops_more more a b (t, at, answers) = (t, at_more more a.path t at, answers)

  pub walk_more : {w v : List (Table P N)} → Within w v → (l : (LookUp P N)) (met : List (LookUp P N)) (a : (LookUp P N)) → Walk w l met a → Walk v l met a
  walk_more more l met a (begin _ e) = begin a e
  walk_more more l met a (step before b _ r new h) = step before b a (walk_more more l before b r) new (hops_more more b a h)

  pub walks_more : {w v : List (Table P N)} → Within w v → (l a : (LookUp P N)) → WalksTo w l a → WalksTo v l a
  walks_more more l a (met, walk) = (met, walk_more more l met a walk)

  pub reaches_more : {w v : List (Table P N)} → Within w v → (l a : (LookUp P N)) → Reaches w l a → Reaches v l a
  reaches_more more l a (met, walk, new) = (met, walk_more more l met a walk, new)

  pub leads_more : {w v : List (Table P N)} → Within w v → (l : (LookUp P N)) (s : (Symbol P N)) → LeadsTo w l s → LeadsTo v l s
  leads_more more l s (a, reaches, finds) = (a, reaches_more more l a reaches, finds_more more a s finds)

  mutual
    pub entered_more : {w v : List (Table P N)} {task : (Task P N)} → Within w v → (p : P) → Entered w task p → Entered v task p
    entered_more more p (root _ e) = root p e
    entered_more more p (asked l a _ f c e) = asked l a p (followed_more more l f) (walks_more more l a c) e
    entered_more more p (imported q _ t i eager h at held e) = imported q p t i eager (entered_more more q h) (at_more more q t at) held e

    pub reached_more : {w v : List (Table P N)} {task : (Task P N)} → Within w v → (s : (Symbol P N)) → Reached w task s → Reached v task s
    reached_more more s (led_to l _ f r) = led_to l s (followed_more more l f) (leads_more more l s r)
    reached_more more s (declared _ t eager h at d) = declared s t eager (entered_more more s.path h) (at_more more s.path t at) d

    pub followed_more : {w v : List (Table P N)} {task : (Task P N)} → Within w v → (l : (LookUp P N)) → Followed w task l → Followed v task l
    followed_more more l (kept _ k) = kept l k
    followed_more more l (by_assert p t _ h at asks) = by_assert p t l (entered_more more p h) (at_more more p t at) asks
    followed_more more l (by_symbol s t _ h at asks) = by_symbol s t l (reached_more more s h) (at_more more s.path t at) asks
