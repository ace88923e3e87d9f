-- The faults that stand in a world.
use Rattle.std.specs.Prelude.{◌≡◌, ◌⊎◌, ℕ, ◌<◌, length, true, false, Some, None, List, [], ◌∷◌, Contains, All}
use Rattle.wesl_cond_choices.specs.declared.place.Place.TheVariants.{Always}
use Rattle.wesl_cond_choices.specs.declared.place.Place.{Place}
use Rattle.wesl_link_symbols.specs.declared.symbols.Import.{Import}
use Rattle.wesl_link_symbols.specs.declared.symbols.Symbol.{Symbol}
use Rattle.wesl_link_symbols.specs.declared.symbols.LookUp.{LookUp}
use Rattle.wesl_link_symbols.specs.Tables.{Declaration, Table}
use Rattle.wesl_link_symbols.specs.Names.{Imports, IsUnclearFrom, SameTarget, IsOwn, Sees}
use Rattle.wesl_link_reach.specs.World.{IsAt, IsWorld, IsMissingAt, IsPrivateAt, IsAmbiguousAt, Task, Entered, Reached, Followed}

-- why a link is refused, where a loader refuses with an `E`
pub data Fault (P N E : Type 0) : Type 0 where
  duplicate : P → N → Fault P N E
  refused : E → Fault P N E
  missing : P → N → Fault P N E
  private : N → P → Fault P N E
  too_many : ℕ → Fault P N E
  ambiguous : N → Fault P N E
  too_many_flags : P → Fault P N E

module _ {P N : Type 0} where
  -- what stands at the two places is there at once for some choice of flags, or one of them always
  abbrev pub Meet : Table P N → Place → Place → Type 0
  Meet t a b = (a ≡ Always) ⊎ Sees t a b

  -- Two binders of the name that are there at once have different targets. A declaration's target is itself.
  abbrev pub Clashes : Table P N → N → Type 0
  Clashes t n =
      ((i : Import P N) × (j : Import P N) × Imports t n i × Imports t n j × Meet t i.place j.place × (SameTarget i j → ⊥))
      ⊎ ((d : Declaration P N) × (i : Import P N) × Contains t.declarations d × (d.name ≡ Some n) × Imports t n i × Meet t d.place i.place × (IsOwn t.path i → ⊥))

-- no name of it clashes, and it has few flags or no split name
pub record IsAdmitted {P N : Type 0} (t : Table P N) : Type 0 where
  pub clear : (n : N) → Clashes t n → ⊥
  pub roomy : t.is_crowded ≡ false

-- each stands once
pub data AreDistinct {X : Type 0} : List X → Type 0 where
  none : AreDistinct []
  one_more : (x : X) (xs : List X) → (Contains xs x → ⊥) → AreDistinct xs → AreDistinct (x ∷ xs)

module _ {P N E : Type 0} (refuses : P → E → Type 0) (task : Task P N) (limit : ℕ) (w : List (Table P N)) where
  -- the fault stands in the world
  abbrev pub Stands : Fault P N E → Type 0
  Stands (duplicate p n) = (t : Table P N) × IsAt w p t × Entered w task p × Clashes t n
  Stands (refused e) = (p : P) × Entered w task p × ((t : Table P N) → IsAt w p t → ⊥) × refuses p e
  Stands (missing p n) = (l : LookUp P N) × Followed w task l × IsMissingAt w l p n
  Stands (private n p) = (l : LookUp P N) × Followed w task l × IsPrivateAt w l n p
  Stands (ambiguous n) =
      ((t : Table P N) × Contains w t × Entered w task t.path × IsUnclearFrom t None n)
      ⊎ (((s : Symbol P N) × (t : Table P N) × Reached w task s × IsAt w s.path t × IsUnclearFrom t (Some s.name) n)
      ⊎ ((l : LookUp P N) × Followed w task l × IsAmbiguousAt w l n))
  Stands (too_many_flags p) = (t : Table P N) × IsAt w p t × Entered w task p × (t.is_crowded ≡ true)
  Stands (too_many k) = (k ≡ limit) × (ps : List P) × AreDistinct ps × All (Entered w task) ps × (limit < length ps)

-- the fault stands in some world
abbrev pub Explained : {P N E : Type 0} → (P → Table P N → Type 0) → (P → E → Type 0) → Table P N → Task P N → ℕ → Fault P N E → Type 0
Explained {P} {N} hands refuses root task limit fault = (w : List (Table P N)) × IsWorld hands root w × Stands refuses task limit w fault
