-- What a name means inside one module (WESL, "Imports", "Visibility" and "ConditionalTranslation").
use Rattle.std.specs.Prelude.{◌≡◌, ◌⊎◌, ◌≤◌, true, Option, Some, Contains}
use Rattle.wesl_cond_choices.specs.declared.place.Place.TheVariants.{Always}
use Rattle.wesl_link_symbols.specs.declared.symbols.Answer.TheVariants.{Declared, Next, Missing, Private, Ambiguous}
use Rattle.wesl_cond_choices.specs.Places.{together}
use Rattle.wesl_link_symbols.specs.Tables.{Place, Import, Reference, LookUp, Answer, Declaration, Table}

module _ {P N : Type 0} where
  -- the module has a declaration of the name
  abbrev pub Declares : Table P N → N → Type 0
  Declares t n = (d : Declaration P N) × Contains t.declarations d × (d.name ≡ Some n)

  -- the import is one of the module's, and binds the name
  abbrev pub Imports : Table P N → N → Import P N → Type 0
  Imports t n i = Contains t.imports i × (i.bound ≡ n)

  -- both imports aim at the same item of the same module
  abbrev pub SameTarget : Import P N → Import P N → Type 0
  SameTarget i j = (i.path ≡ j.path) × (i.item ≡ j.item)

  -- the import aims at the module's own declaration of the name that it binds
  abbrev pub IsOwn : P → Import P N → Type 0
  IsOwn p i = (i.path ≡ p) × (i.item ≡ i.bound)

  -- what a reference asks for: the name in the module of its path, asked by the module in which it stands
  abbrev pub asked_for : Table P N → Reference P N → LookUp P N
  asked_for t r = record { asker = Some t.path; path = r.path; name = r.name; from = r.from }

  -- what an import asks for: its item in the module that it imports from, asked by its own module
  abbrev pub asked_by : Table P N → Import P N → LookUp P N
  asked_by t i = record { asker = Some t.path; path = i.path; name = i.item; from = i.from }

  -- the reference stands in a declaration of that name, or where there is none in a const_assert
  abbrev pub RefersFrom : Table P N → Option N → Reference P N → Type 0
  RefersFrom t name r = (d : Declaration P N) × Contains t.declarations d × (d.name ≡ name) × Contains d.references r

  -- such a reference asks for it
  abbrev pub AsksFrom : Table P N → Option N → LookUp P N → Type 0
  AsksFrom t name l = (r : Reference P N) × RefersFrom t name r × (l ≡ asked_for t r)

  -- the name is used in such a declaration, and stands for two things there
  abbrev pub IsUnclearFrom : Table P N → Option N → N → Type 0
  IsUnclearFrom t name n = (d : Declaration P N) × Contains t.declarations d × (d.name ≡ name) × Contains d.unclear n

  -- from another module an import must be published
  abbrev pub Shows : Option P → P → Import P N → Type 0
  Shows asker p i = (i.published ≡ true) ⊎ (asker ≡ Some p)

  -- What stands at `place` is seen from there: its name has one target, or some choice of flags keeps both.
  abbrev pub Sees : Table P N → Place → Place → Type 0
  Sees t from place = (place ≡ Always) ⊎ (together t.alive from place ≡ true)

  -- the module has a declaration of the name that is seen from where the look-up asks
  abbrev pub DeclaresTo : Table P N → LookUp P N → Type 0
  DeclaresTo t l = (d : Declaration P N) × Contains t.declarations d × (d.name ≡ Some l.name) × Sees t l.from d.place

  -- the import is one of the name that the look-up may follow: it is shown to who asks, and seen from where the look-up asks
  abbrev pub IsOpenTo : Table P N → LookUp P N → Import P N → Type 0
  IsOpenTo t l i = Imports t l.name i × Shows l.asker t.path i × Sees t l.from i.place

  -- the import is one of the name that is not shown to who asks, alive or dead
  abbrev pub IsHiddenFrom : Table P N → LookUp P N → Import P N → Type 0
  IsHiddenFrom t l i = Imports t l.name i × (Shows l.asker t.path i → ⊥)

  -- of those that it may follow, the ones that are asked, of the least order: those that find nothing, else those that find
  -- two targets, else all
  abbrev pub IsAskedTo : Table P N → LookUp P N → Import P N → Type 0
  IsAskedTo t l i = IsOpenTo t l i × ((j : Import P N) → IsOpenTo t l j → i.order ≤ j.order)

  -- What a module answers to a look-up. Its declarations of the name count where they are seen, its imports of the name
  -- where they may be followed:
  -- `Declared`: it declares the name, and all those imports aim at its own declaration;
  -- `Next`: it does not declare it, those imports have one target, and the ones that are asked all ask this;
  -- `Missing`: it does not declare it, has none of those imports, and no import of the name is hidden;
  -- `Private`: it does not declare it, has none of those imports, but some import of the name is hidden;
  -- `Ambiguous`: it declares it, and one of those imports aims elsewhere; or it does not, and two of them have different
  -- targets, or two that are asked ask different things.
  abbrev pub Answers : Table P N → LookUp P N → Answer P N → Type 0
  Answers t l Declared = DeclaresTo t l × ((i : Import P N) → IsOpenTo t l i → IsOwn t.path i)
  Answers t l (Next n) =
      (DeclaresTo t l → ⊥) × ((i j : Import P N) → IsOpenTo t l i → IsOpenTo t l j → SameTarget i j)
      × ((i : Import P N) × IsAskedTo t l i × (n ≡ asked_by t i)) × ((i : Import P N) → IsAskedTo t l i → n ≡ asked_by t i)
  Answers t l Missing = (DeclaresTo t l → ⊥) × ((i : Import P N) → IsOpenTo t l i → ⊥) × ((i : Import P N) → IsHiddenFrom t l i → ⊥)
  Answers t l Private = (DeclaresTo t l → ⊥) × ((i : Import P N) → IsOpenTo t l i → ⊥) × ((i : Import P N) × IsHiddenFrom t l i)
  Answers t l Ambiguous =
      (DeclaresTo t l × (i : Import P N) × IsOpenTo t l i × (IsOwn t.path i → ⊥))
      ⊎ (((DeclaresTo t l → ⊥) × (i : Import P N) × (j : Import P N) × IsOpenTo t l i × IsOpenTo t l j × (SameTarget i j → ⊥))
      ⊎ ((DeclaresTo t l → ⊥) × (i : Import P N) × (j : Import P N) × IsAskedTo t l i × IsAskedTo t l j × (asked_by t i ≡ asked_by t j → ⊥)))
