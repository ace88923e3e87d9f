-- Rings of a graph of numbers are rings of declarations.
use Rattle.std.proofs.Common.{◌≡◌, ◌⊎◌, ◌↔◌, ℕ, refl, inl, inr}
use Rattle.wesl_tree_syntax.specs.Unit.{UnitView}
use Rattle.wesl_validate_rules.specs.Graphs.{Graph, Leads, Path, edge, then, IsGrounded, grounded, IsRing}
use Rattle.wesl_validate_rules.specs.Valid.{spelling, LeadsTo, Reaches, directly, onward, IsAcyclic}
use Rattle.wesl_validate_rules.specs.Faults.{IsCycle}

module _ (g : Graph) where
  extended : (a b c : ℕ) → Path g a b → Leads g b c → Path g a c
  extended a b c (edge _ _ s) t = then a b c s (edge b c t)
  extended a b c (then _ d _ s r) t = then a d c s (extended d b c r t)

  -- a node whose paths end is on no ring
  pub no_ring : (a : ℕ) → IsGrounded g a → Path g a a → ⊥
  no_ring a (grounded _ f) (edge _ _ s) = no_ring a (f a s) (edge a a s)
  no_ring a (grounded _ f) (then _ b _ s r) = no_ring b (f b s) (extended b a b r s)

module _ (u : UnitView) (g : Graph) (same : (a b : ℕ) → Leads g a b ↔ LeadsTo u a b) where
  path_of : (a b : ℕ) → Reaches u a b → Path g a b
  path_of a b (directly _ _ s) = edge a b ((same a b).1 s)
  path_of a b (onward _ c _ s r) = then a c b ((same a c).1 s) (path_of c b r)

  chain_of : (a b : ℕ) → Path g a b → Reaches u a b
  chain_of a b (edge _ _ s) = directly a b ((same a b).0 s)
  chain_of a b (then _ c _ s r) = onward a c b ((same a c).0 s) (chain_of c b r)

  pub acyclic : ((a : ℕ) → IsGrounded g a) → IsAcyclic u
  acyclic all a r = no_ring g a (all a) (path_of a a r)

  pub cycle : (first last : ℕ) → IsRing g first last → IsCycle u (spelling u first) (spelling u last)
  cycle first last r = record { first = first; last = last; named = refl; named_last = refl; leads_there = by r.leads_there; leads_back = (same last first).0 r.leads_back }
    where
      by : (first ≡ last) ⊎ Path g first last → (first ≡ last) ⊎ Reaches u first last
      by (inl e) = inl e
      by (inr p) = inr (chain_of first last p)
