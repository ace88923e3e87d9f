-- A reason is what makes something reached or entered.
use Rattle.std.proofs.Common.{◌≡◌, inl, inr, true, List, [], ◌∷◌, ◌++◌, subst, refl}
use Rattle.wesl_link_symbols.specs.declared.symbols.LookUp.{LookUp}
use Rattle.wesl_link_symbols.specs.declared.symbols.Symbol.{Symbol}
use Rattle.wesl_link_symbols.specs.Tables.{Table}
use Rattle.wesl_link_reach.specs.World.{Task, Entered, Reached, Followed}
use Rattle.wesl_link_reach.specs.World.Entered.{root, asked, imported}
use Rattle.wesl_link_reach.specs.World.Reached.{led_to, declared}
use Rattle.wesl_link_reach.specs.World.Followed.{kept, by_assert, by_symbol}
use Rattle.wesl_link_reach.specs.Faults.{missing}
use Rattle.wesl_link_reasons.specs.declared.node.Node.{Node}
use Rattle.wesl_link_reasons.specs.declared.node.Node.TheVariants.{KeptName, Module, Item}
use Rattle.wesl_link_reasons.specs.Reasons.{LooksUp, TakesWith, AsksFor, IsFirst, Chain, HasReason, IsHeld}
use Rattle.wesl_link_reasons.specs.Reasons.Chain.{alone, before}
use Rattle.wesl_link_reasons.specs.Laws.{HaveReasons, LinksAreUnbroken}

module _ {P N : Type 0} (w : List (Table P N)) (task : Task P N) where
  -- ---- along a chain

  pub followed : (a : Node P N) (l : LookUp P N) → IsHeld w task a → LooksUp w task a l → Followed w task l
  followed (KeptName n) l h (c, e) = kept l (n, c, e)
  followed (Module p) l h (t, at, asks) = by_assert p t l h at asks
  followed (Item s) l h (t, at, asks) = by_symbol s t l h at asks

  takes_on : (p : P) (b : Node P N) → task.is_eager ≡ true → Entered w task p → TakesWith w task p b → IsHeld w task b
  takes_on p (KeptName n) eager h takes = absurd takes
  takes_on p (Module q) eager h (t, at, (i, c, e)) = imported p q t i eager h at c e
  takes_on p (Item s) eager h (e, (t, at, d)) = declared s t eager (subst (λ (x : P). Entered w task x) e h) at d

  pub holds_on : (a b : Node P N) → IsHeld w task a → AsksFor w task a b → IsHeld w task b
  holds_on a (KeptName n) h (inl (l, looks, brings)) = absurd brings
  holds_on a (Module p) h (inl (l, looks, (c, walks, e))) = asked l c p (followed a l h looks) walks e
  holds_on a (Item s) h (inl (l, looks, leads)) = led_to l s (followed a l h looks) leads
  holds_on a b h (inr (eager, (p, is, takes))) = takes_on p b eager (subst (λ (x : Node P N). IsHeld w task x) is h) takes

  pub first_held : (a : Node P N) → IsFirst w task a → IsHeld w task a
  first_held (KeptName n) h = h
  first_held (Module p) e = root p e
  first_held (Item s) h = absurd h

  chain_held : (a z : Node P N) (xs : List (Node P N)) → Chain w task a xs z → IsHeld w task a → IsHeld w task z
  chain_held a z xs (alone _) h = h
  chain_held a z _ (before _ b _ xs asks rest) h = chain_held b z xs rest (holds_on a b h asks)

  pub reason_held : (x : Node P N) → HasReason w task x → IsHeld w task x
  reason_held x (xs, (a, first, chain)) = chain_held a x xs chain (first_held a first)

  -- ---- a chain for all that is held

  chain_on : (a b c : Node P N) (xs : List (Node P N)) → Chain w task a xs b → AsksFor w task b c → Chain w task a (xs ++ c ∷ []) c
  chain_on a b c _ (alone _) asks = before a c c (c ∷ []) asks (alone c)
  chain_on a b c _ (before _ d _ xs asks2 rest) asks = before a d c (xs ++ c ∷ []) asks2 (chain_on d b c xs rest asks)

  reason_on : (a b : Node P N) → HasReason w task a → AsksFor w task a b → HasReason w task b
  reason_on a b (xs, (x, first, chain)) asks = (xs ++ b ∷ [], (x, first, chain_on x a b xs chain asks))

  reason_first : (a : Node P N) → IsFirst w task a → HasReason w task a
  reason_first a first = (a ∷ [], (a, first, alone a))

  abbrev IsAsked : LookUp P N → Type 0
  IsAsked l = (a : Node P N) × HasReason w task a × LooksUp w task a l

  mutual
    entered_reason : (p : P) → Entered w task p → HasReason w task (Module p)
    entered_reason p (root _ e) = reason_first (Module p) e
    entered_reason p (asked l c _ f walks e) = let (a, r, looks) = followed_reason l f in reason_on a (Module p) r (inl (l, looks, (c, walks, e)))
    entered_reason p (imported q _ t i eager h at held e) = reason_on (Module q) (Module p) (entered_reason q h) (inr (eager, (q, refl, (t, at, (i, held, e)))))

    reached_reason : (s : Symbol P N) → Reached w task s → HasReason w task (Item s)
    reached_reason s (led_to l _ f leads) = let (a, r, looks) = followed_reason l f in reason_on a (Item s) r (inl (l, looks, leads))
    reached_reason s (declared _ t eager h at d) = reason_on (Module s.path) (Item s) (entered_reason s.path h) (inr (eager, (s.path, refl, (refl, (t, at, d)))))

    followed_reason : (l : LookUp P N) → Followed w task l → IsAsked l
    followed_reason l (kept _ (n, c, e)) = (KeptName n, reason_first (KeptName n) c, (c, e))
    followed_reason l (by_assert p t _ h at asks) = (Module p, entered_reason p h, (t, at, asks))
    followed_reason l (by_symbol s t _ h at asks) = (Item s, reached_reason s h, (t, at, asks))

  pub held_reason : (x : Node P N) → IsHeld w task x → HasReason w task x
  held_reason (KeptName n) h = reason_first (KeptName n) h
  held_reason (Module p) h = entered_reason p h
  held_reason (Item s) h = reached_reason s h

pub have_reasons : {P N : Type 0} → HaveReasons P N
have_reasons = record {
  symbols = λ w task s. (held_reason w task (Item s), reason_held w task (Item s));
  modules = λ w task p. (held_reason w task (Module p), reason_held w task (Module p));
}

pub unbroken : {P N E : Type 0} (hands : P → Table P N → Type 0) (refuses : P → E → Type 0) → LinksAreUnbroken hands refuses
unbroken hands refuses start task limit k linked = record {
  one_table = linked.world.one_table;
  no_missing = λ l p n f is. linked.no_fault (missing p n) (l, f, is);
}
