-- The entered paths and the reached symbols are least sets.
use Rattle.std.proofs.Common.{inl, inr, List, Contains}
use Rattle.wesl_link_symbols.specs.declared.symbols.LookUp.{LookUp}
use Rattle.wesl_link_symbols.specs.declared.symbols.Symbol.{Symbol}
use Rattle.wesl_link_symbols.specs.Tables.{Table}
use Rattle.wesl_link_reach.specs.World.{Task, Entered, Reached, Followed}
use Rattle.wesl_link_reach.specs.World.Entered.{root, asked, imported}
use Rattle.wesl_link_reach.specs.World.Reached.{led_to, declared}
use Rattle.wesl_link_reach.specs.World.Followed.{kept, by_assert, by_symbol}
use Rattle.wesl_link_reach.specs.Laws.{OnlyGrows, IsAskedBy, IsClosed, AreLeast}
use Rattle.wesl_link_reach.proofs.Growth.{leads_more, entered_more, reached_more, followed_more}

module _ {P N : Type 0} where
  pub grows : OnlyGrows P N
  grows = record {
    leads = λ w v l s more h. leads_more more l s h;
    entered = λ w v task p more h. entered_more more p h;
    reached = λ w v task s more h. reached_more more s h;
    followed = λ w v task l more h. followed_more more l h;
  }

  mutual
    pub entered_in : {w : List (Table P N)} {task : (Task P N)} (e : P → Type 0) (r : (Symbol P N) → Type 0) → IsClosed w task e r → (p : P) → Entered w task p → e p
    entered_in e r c p (root _ is) = c.root p is
    entered_in e r c p (asked l a _ f walks is) = c.enters l a p (followed_in e r c l f) walks is
    entered_in e r c p (imported q _ t i eager h at held is) = c.imports eager q p t i (entered_in e r c q h) at held is

    pub reached_in : {w : List (Table P N)} {task : (Task P N)} (e : P → Type 0) (r : (Symbol P N) → Type 0) → IsClosed w task e r → (s : (Symbol P N)) → Reached w task s → r s
    reached_in e r c s (led_to l _ f leads) = c.reaches l s (followed_in e r c l f) leads
    reached_in e r c s (declared _ t eager h at d) = c.declares eager s t (entered_in e r c s.path h) at d

    pub followed_in : {w : List (Table P N)} {task : (Task P N)} (e : P → Type 0) (r : (Symbol P N) → Type 0) → IsClosed w task e r → (l : (LookUp P N)) → Followed w task l → IsAskedBy w task e r l
    followed_in e r c l (kept _ k) = inl k
    followed_in e r c l (by_assert p t _ h at asks) = inr (inl (p, t, entered_in e r c p h, at, asks))
    followed_in e r c l (by_symbol s t _ h at asks) = inr (inr (s, t, reached_in e r c s h, at, asks))

  asked_followed : (w : List (Table P N)) (task : (Task P N)) (l : (LookUp P N)) → IsAskedBy w task (Entered w task) (Reached w task) l → Followed w task l
  asked_followed w task l (inl k) = kept l k
  asked_followed w task l (inr (inl (p, t, h, at, asks))) = by_assert p t l h at asks
  asked_followed w task l (inr (inr (s, t, h, at, asks))) = by_symbol s t l h at asks

  pub least : AreLeast P N
  least = record {
    closed = λ w task. record {
      root = λ p e. root p e;
      enters = λ l a p h walks e. asked l a p (asked_followed w task l h) walks e;
      reaches = λ l s h leads. led_to l s (asked_followed w task l h) leads;
      imports = λ eager q p t i h at held e. imported q p t i eager h at held e;
      declares = λ eager s t h at d. declared s t eager h at d;
    };
    entered = λ w task ps ss c p h. entered_in (Contains ps) (Contains ss) c p h;
    reached = λ w task ps ss c s h. reached_in (Contains ps) (Contains ss) c s h;
  }
