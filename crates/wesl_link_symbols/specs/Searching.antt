-- What the imports of a look-up's name are searched for.
use Rattle.std.specs.Prelude.{◌≡◌, ◌⊎◌, ◌<◌, ◌≤◌, ⊤, Option, Some, None, Contains}
use Rattle.wesl_link_symbols.specs.declared.ids.PathId.{PathId}
use Rattle.wesl_tree_base.specs.declared.ids.NameId.{NameId}
use Rattle.wesl_link_symbols.specs.declared.answer.Sought.{Sought}
use Rattle.wesl_link_symbols.specs.declared.answer.Sought.TheVariants.{Hidden, Foreign, Rival, Open, Other, Lower}
use Rattle.wesl_link_symbols.specs.Row.{IsAbove}
use Rattle.wesl_link_symbols.specs.Tables.{Place, Import, LookUp, Declaration, Table}
use Rattle.wesl_link_symbols.specs.Names.{Imports, SameTarget, IsOwn, Shows, Sees, IsOpenTo}

module _ {P N : Type 0} where
  -- it is shown to the look-up, and seen from there
  abbrev pub IsShownAndSeen : Table P N → LookUp P N → Import P N → Type 0
  IsShownAndSeen t l i = Shows l.asker t.path i × Sees t l.from i.place

  -- Beside the first, which is asked, the second makes the name stand for two things: it has another target, or it is asked too
  -- and asks from another place.
  abbrev pub IsRival : Import P N → Import P N → Type 0
  IsRival i j = (SameTarget i j → ⊥) ⊎ ((j.order ≤ i.order) × (i.from ≡ j.from → ⊥))

  -- Beside the first, which is asked, the second leaves the name one thing: it has the same target, and asks from the same
  -- place or is of a higher order, so that it is not asked.
  abbrev pub IsNoRival : Import P N → Import P N → Type 0
  IsNoRival i j = SameTarget i j × (j.order ≤ i.order → i.from ≡ j.from)

  -- there is one, and its order is at most that of the import
  abbrev pub IsNoHigher : Option (Import P N) → Import P N → Type 0
  IsNoHigher None i = ⊥
  IsNoHigher (Some x) i = x.order ≤ i.order

-- the import is one that is searched for
abbrev pub IsSought : Table PathId NameId → LookUp PathId NameId → Sought → Import PathId NameId → Type 0
IsSought t l Hidden i = Shows l.asker t.path i → ⊥
IsSought t l Foreign i = IsShownAndSeen t l i × (IsOwn t.path i → ⊥)
IsSought t l (Rival j) i = IsShownAndSeen t l i × IsRival j i
IsSought t l Open i = IsShownAndSeen t l i
IsSought t l (Other j) i = IsShownAndSeen t l i × (SameTarget j i → ⊥)
IsSought t l (Lower j) i = IsShownAndSeen t l i × (i.order < j.order)

-- the import is none that is searched for
abbrev pub IsPassed : Table PathId NameId → LookUp PathId NameId → Sought → Import PathId NameId → Type 0
IsPassed t l Hidden i = Shows l.asker t.path i
IsPassed t l Foreign i = IsShownAndSeen t l i → IsOwn t.path i
IsPassed t l (Rival j) i = IsShownAndSeen t l i → IsNoRival j i
IsPassed t l Open i = IsShownAndSeen t l i → ⊥
IsPassed t l (Other j) i = IsShownAndSeen t l i → SameTarget j i
IsPassed t l (Lower j) i = IsShownAndSeen t l i → j.order ≤ i.order

-- it does not bind the look-up's name, or is none that is searched for
abbrev pub IsPassedOf : Table PathId NameId → LookUp PathId NameId → Sought → Import PathId NameId → Type 0
IsPassedOf t l sought i = i.bound ≡ l.name → IsPassed t l sought i

-- what is searched for must be seen
abbrev pub NeedsSight : Sought → Type 0
NeedsSight Hidden = ⊥
NeedsSight Foreign = ⊤
NeedsSight (Rival j) = ⊤
NeedsSight Open = ⊤
NeedsSight (Other j) = ⊤
NeedsSight (Lower j) = ⊤

-- with the import all are passed that bind its name, have its target and are of its order or of a higher one
abbrev pub PassesAbove : Table PathId NameId → Sought → Import PathId NameId → Type 0
PassesAbove t sought i = (l : LookUp PathId NameId) (j : Import PathId NameId) → IsAbove i j → IsPassed t l sought j

-- two imports may be followed that have different targets
abbrev pub IsTornTo : Table PathId NameId → LookUp PathId NameId → Type 0
IsTornTo t l = (i : Import PathId NameId) × (j : Import PathId NameId) × IsOpenTo t l i × IsOpenTo t l j × (SameTarget i j → ⊥)

-- a declaration of the name is seen from there
abbrev pub SeesDeclaration : Table PathId NameId → NameId → Place → Type 0
SeesDeclaration t n from = (d : Declaration PathId NameId) × Contains t.declarations d × (d.name ≡ Some n) × Sees t from d.place

-- an import of its name that is seen from where it stands has another target
abbrev pub SeesOther : Table PathId NameId → Import PathId NameId → Type 0
SeesOther t i = (j : Import PathId NameId) × Imports t i.bound j × Sees t i.place j.place × (SameTarget i j → ⊥)

-- each import of its name that is seen from where it stands has its target
abbrev pub SeesNoOther : Table PathId NameId → Import PathId NameId → Type 0
SeesNoOther t i = (j : Import PathId NameId) → Imports t i.bound j → Sees t i.place j.place → SameTarget i j
