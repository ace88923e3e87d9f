-- What is held, and why, is so in a world that says the same in other paths and names.
use Rattle.std.proofs.Common.{◌≡◌, inl, inr, Some, None, List, [], ◌∷◌, Contains, refl, sym, subst, ◌∙◌}
use Rattle.wesl_cond_choices.specs.declared.place.Place.TheVariants.{Always}
use Rattle.wesl_link_symbols.specs.declared.symbols.LookUp.{LookUp}
use Rattle.wesl_link_symbols.specs.Tables.{Table}
use Rattle.wesl_link_reach.specs.World.{Task}
use Rattle.wesl_link_reasons.specs.declared.node.Node.{Node}
use Rattle.wesl_link_reasons.specs.declared.node.Node.TheVariants.{KeptName, Module, Item}
use Rattle.wesl_link_reasons.specs.Reasons.{LooksUp, Brings, TakesWith, AsksFor, IsFirst, Chain, IsReason, IsHeld}
use Rattle.wesl_link_reasons.specs.Reasons.Chain.{alone, before}
use Rattle.wesl_link_tables.specs.Numbering.{AreRelated, SameImport, SameDeclaration}
use Rattle.wesl_link_engine.proofs.Carried.{IsOneToOne, related_in, option_of, asks_from_to, SameLookUp, SameSymbol, SameTask, Covers, at_to, comes_to, leads_to, entered_to, reached_to}

module _ {P N Q M : Type 0} (R : P → Q → Type 0) (S : N → M → Type 0) where
  -- the node is the same in other paths and names
  abbrev pub SameNode : Node P N → Node Q M → Type 0
  SameNode (KeptName n) (KeptName m) = S n m
  SameNode (Module p) (Module q) = R p q
  SameNode (Item s) (Item u) = SameSymbol R S s u
  SameNode _ _ = ⊥

  same_module : (p : P) (y : Node Q M) → SameNode (Module p) y → (q : Q) × (y ≡ Module q) × R p q
  same_module p (Module q) h = (q, refl, h)
  same_module p (KeptName n) h = absurd h
  same_module p (Item s) h = absurd h

module _ {P N Q M : Type 0} (R : P → Q → Type 0) (S : N → M → Type 0) (rs : IsOneToOne R) (ss : IsOneToOne S) (w : List (Table P N)) (v : List (Table Q M)) (covers : Covers R S w v) (a : Task P N) (b : Task Q M) (same : SameTask R S a b) where
  looks_up : (x : Node P N) (y : Node Q M) (l : LookUp P N) → SameNode R S x y → LooksUp w a x l → (k : LookUp Q M) × LooksUp v b y k × SameLookUp R S l k
  looks_up (KeptName n) (KeptName m) l h (c, e) =
      let (o, d, k) = related_in S a.kept b.kept n same.kept c in (
        record { asker = None; path = b.root; name = m; from = Always },
        (subst (λ (z : M). Contains b.kept z) (ss.one n o m k h) d, refl),
        subst (λ (z : LookUp P N). SameLookUp R S z (record { asker = None; path = b.root; name = m; from = Always })) (sym e) (record { asker = tt; path = same.root; name = h; from = refl }),
      )
  looks_up (Module p) (Module q) l h (t, at, asks) =
      let (u, at2, same_t) = at_to R S rs ss w v covers p q t h at in
      let (k, asks2, same_l) = asks_from_to R S rs ss t u same_t None None l tt asks in (k, (u, at2, asks2), same_l)
  looks_up (Item s) (Item x) l h (t, at, asks) =
      let (u, at2, same_t) = at_to R S rs ss w v covers s.path x.path t h.path at in
      let (k, asks2, same_l) = asks_from_to R S rs ss t u same_t (Some s.name) (Some x.name) l h.name asks in (k, (u, at2, asks2), same_l)
  looks_up (KeptName n) (Module q) l h up = absurd h
  looks_up (KeptName n) (Item x) l h up = absurd h
  looks_up (Module p) (KeptName m) l h up = absurd h
  looks_up (Module p) (Item x) l h up = absurd h
  looks_up (Item s) (KeptName m) l h up = absurd h
  looks_up (Item s) (Module q) l h up = absurd h

  brings : (l : LookUp P N) (k : LookUp Q M) (x : Node P N) → SameLookUp R S l k → Brings w a l x → (y : Node Q M) × SameNode R S x y × Brings v b k y
  brings l k (KeptName n) h up = absurd up
  brings l k (Module p) h (c, come, e) =
      let (d, come2, same_d) = comes_to R S rs ss w v covers l k c h come in (Module d.path, subst (λ (z : P). R z d.path) e same_d.path, (d, come2, refl))
  brings l k (Item s) h lead = let (x, lead2, same_s) = leads_to R S rs ss w v covers l k s h lead in (Item x, same_s, lead2)

  takes : (p : P) (q : Q) (x : Node P N) → R p q → TakesWith w a p x → (y : Node Q M) × SameNode R S x y × TakesWith v b q y
  takes p q (KeptName n) h up = absurd up
  takes p q (Module p2) h (t, at, (i, held, e)) =
      let (u, at2, same_t) = at_to R S rs ss w v covers p q t h at in
      let (j, held2, k) = related_in (SameImport R S) t.imports u.imports i same_t.imports held in (Module j.path, subst (λ (z : P). R z j.path) e k.path, (u, at2, (j, held2, refl)))
  takes p q (Item s) h (e, (t, at, d)) =
      let rq : R s.path q = subst (λ (z : P). R z q) e h in
      let (u, at2, same_t) = at_to R S rs ss w v covers s.path q t rq at in
      let (f, c, k) = related_in (SameDeclaration R S) t.declarations u.declarations d.0 same_t.declarations d.1 in
      let (m, is, also) = option_of S d.0.name f.name s.name k.name d.2 in (Item (record { path = q; name = m }), record { path = rq; name = also }, (refl, (u, at2, (f, c, is))))

  asks : (x z : Node P N) (y : Node Q M) → SameNode R S x y → AsksFor w a x z → (u : Node Q M) × SameNode R S z u × AsksFor v b y u
  asks x z y h (inl (l, up, brought)) =
      let (k, up2, same_l) = looks_up x y l h up in
      let (u, same_u, brought2) = brings l k z same_l brought in (u, same_u, inl (k, up2, brought2))
  asks x z y h (inr (eager, (p, e, taken))) =
      let (q, f, rq) = same_module R S p y (subst (λ (g : Node P N). SameNode R S g y) e h) in
      let (u, same_u, taken2) = takes p q z rq taken in (u, same_u, inr (sym same.eager ∙ eager, (q, f, taken2)))

  chained : (x z : Node P N) (xs : List (Node P N)) (y : Node Q M) → SameNode R S x y → Chain w a x xs z
      → (ys : List (Node Q M)) × (u : Node Q M) × SameNode R S z u × AreRelated (SameNode R S) xs ys × Chain v b y ys u
  chained x z xs y h (alone _) = (y ∷ [], y, h, (h, tt), alone y)
  chained x z _ y h (before _ c _ xs ask rest) =
      let (d, same_d, ask2) = asks x c y h ask in
      let (ys, u, same_u, all, rest2) = chained c z xs d same_d rest in (y ∷ ys, u, same_u, (h, all), before y d u ys ask2 rest2)

  first_to : (x : Node P N) → IsFirst w a x → (y : Node Q M) × SameNode R S x y × IsFirst v b y
  first_to (KeptName n) c = let (m, d, h) = related_in S a.kept b.kept n same.kept c in (KeptName m, h, d)
  first_to (Module p) e = (Module b.root, subst (λ (z : P). R z b.root) (sym e) same.root, refl)
  first_to (Item s) h = absurd h

  pub reason_to : (x : Node P N) (xs : List (Node P N)) → IsReason w a x xs
      → (y : Node Q M) × (ys : List (Node Q M)) × SameNode R S x y × AreRelated (SameNode R S) xs ys × IsReason v b y ys
  reason_to x xs (f, first, chain) =
      let (g, same_g, first2) = first_to f first in
      let (ys, u, same_u, all, chain2) = chained f x xs g same_g chain in (u, ys, same_u, all, (g, first2, chain2))

  pub held_to : (x : Node P N) → IsHeld w a x → (y : Node Q M) × SameNode R S x y × IsHeld v b y
  held_to (KeptName n) c = let (m, d, h) = related_in S a.kept b.kept n same.kept c in (KeptName m, h, d)
  held_to (Module p) h = let (q, r, g) = entered_to R S rs ss w v covers a b same p h in (Module q, r, g)
  held_to (Item s) h = let (x, r, g) = reached_to R S rs ss w v covers a b same s h in (Item x, r, g)
