-- How the binders of a name are told to clash.
use Rattle.std.specs.Prelude.{◌≡◌, ◌⊎◌, ℕ, length, slice_get, Some, Contains}
use Rattle.wesl_link_symbols.specs.Index.{Binds, IsLast}
use Rattle.wesl_link_symbols.specs.declared.symbols.Import.{Import}
use Rattle.wesl_link_symbols.specs.Tables.{Declaration, Table}
use Rattle.wesl_link_symbols.specs.Names.{Imports, SameTarget, IsOwn}
use Rattle.wesl_link_reach.specs.Faults.{Meet}

module _ {P N : Type 0} where
  -- it has the target of the last import of its name
  abbrev pub IsLikeLast : Table P N → Import P N → Type 0
  IsLikeLast t i = (k : ℕ) × (j : Import P N) × IsLast (Binds i.bound) t.imports (length t.imports) (Some k) × (slice_get t.imports k ≡ Some j) × SameTarget i j

  -- they are there at once, and have different targets
  abbrev pub AreApart : Table P N → Import P N → Import P N → Type 0
  AreApart t i j = Meet t i.place j.place × (SameTarget i j → ⊥)

  -- an import of its name that is there at once has another target
  abbrev pub MeetsOther : Table P N → Import P N → Type 0
  MeetsOther t i = (j : Import P N) × Imports t i.bound j × AreApart t i j

  -- each import of its name that is there at once has its target
  abbrev pub MeetsNoOther : Table P N → Import P N → Type 0
  MeetsNoOther t i = (j : Import P N) → Imports t i.bound j → Meet t i.place j.place → SameTarget i j

  -- a declaration of its name is there at once
  abbrev pub MeetsDeclaration : Table P N → Import P N → Type 0
  MeetsDeclaration t i = (d : Declaration P N) × Contains t.declarations d × (d.name ≡ Some i.bound) × Meet t d.place i.place

  -- no declaration of its name is there at once
  abbrev pub MeetsNoDeclaration : Table P N → Import P N → Type 0
  MeetsNoDeclaration t i = (d : Declaration P N) → Contains t.declarations d → d.name ≡ Some i.bound → Meet t d.place i.place → ⊥

  -- its target is that of the declarations that are there at once, and that of the last import of its name or of all imports of
  -- it that are there at once
  abbrev pub IsAlone : Table P N → Import P N → Type 0
  IsAlone t i = (IsOwn t.path i ⊎ MeetsNoDeclaration t i) × (IsLikeLast t i ⊎ MeetsNoOther t i)
