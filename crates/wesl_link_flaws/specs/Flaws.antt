-- What is wrong in a world, and how look-ups end in it.
use Rattle.std.specs.Prelude.{◌≡◌, ◌⊎◌, List, Contains}
use Rattle.wesl_link_symbols.specs.declared.symbols.Answer.TheVariants.{Declared, Missing, Private, Ambiguous}
use Rattle.wesl_link_symbols.specs.declared.symbols.Import.{Import}
use Rattle.wesl_link_symbols.specs.declared.symbols.LookUp.{LookUp}
use Rattle.wesl_link_symbols.specs.Tables.{Table}
use Rattle.wesl_link_symbols.specs.Names.{Answers, Imports, SameTarget}
use Rattle.wesl_link_reach.specs.World.{IsAt, WalksTo, EndsWith, LeadsTo, IsMissingAt, IsPrivateAt, Task, Entered}
use Rattle.wesl_link_reach.specs.Faults.{Clashes}
use Rattle.wesl_link_reach.specs.Clashing.{IsAlone}
use Rattle.wesl_link_reach.specs.Trodden.{symbol_of}
use Rattle.wesl_link_flaws.specs.declared.asker.Asker.{Asker}
use Rattle.wesl_link_flaws.specs.declared.asker.Asker.TheVariants.{Whole}
use Rattle.wesl_link_flaws.specs.declared.told.Flaw.{Flaw}
use Rattle.wesl_link_flaws.specs.declared.told.Flaw.TheVariants.{Clash, NoModule, Lacking, Hidden, Unsure}
use Rattle.wesl_link_flaws.specs.declared.told.Told.{Told}
use Rattle.wesl_link_flaws.specs.declared.told.End.{End}
use Rattle.wesl_link_flaws.specs.declared.told.End.TheVariants.{Found, Flawed}
use Rattle.wesl_link_flaws.specs.Askers.{AsksBy, Brings, IsUnclearBy}

-- ---- in one module

module _ {P N : Type 0} where
  -- an import of its name has another target
  abbrev pub DiffersFromOther : Table P N → Import P N → Type 0
  DiffersFromOther t i = (j : Import P N) × Imports t i.bound j × (SameTarget i j → ⊥)

  -- what is told of a name of the module that clashes
  abbrev pub clash_told : Table P N → N → Told P N
  clash_told t n = record { flaw = Clash n; asker = Whole t.path; at = t.path }

  -- it tells of a name of the module that clashes
  abbrev pub IsClashOf : Table P N → Told P N → Type 0
  IsClashOf t f = (n : N) × Clashes t n × (f ≡ clash_told t n)

  -- the import is alone, or its name is told
  abbrev pub IsSeen : Table P N → List (Told P N) → Import P N → Type 0
  IsSeen t told i = Contains told (clash_told t i.bound) ⊎ IsAlone t i

  -- what was told still is
  abbrev pub KeepsTold : List (Told P N) → List (Told P N) → Type 0
  KeepsTold from to = (f : Told P N) → Contains from f → Contains to f

  -- what is told more is so
  abbrev pub TellsOnly : List (Told P N) → List (Told P N) → (Told P N → Type 0) → Type 0
  TellsOnly from to Q = (f : Told P N) → Contains to f → Contains from f ⊎ Q f

  -- the module answers the look-up with this flaw
  abbrev pub IsFlawIn : Table P N → LookUp P N → Flaw N → Type 0
  IsFlawIn t l (Clash n) = ⊥
  IsFlawIn t l NoModule = ⊥
  IsFlawIn t l (Lacking n) = (n ≡ l.name) × Answers t l Missing
  IsFlawIn t l (Hidden n) = (n ≡ l.name) × Answers t l Private
  IsFlawIn t l (Unsure n) = (n ≡ l.name) × Answers t l Ambiguous

  -- the module answers the look-up so that it ends there
  abbrev pub EndsIn : Table P N → LookUp P N → End P N → Type 0
  EndsIn t l (Found s) = (s ≡ symbol_of l) × Answers t l Declared
  EndsIn t l (Flawed g q) = (q ≡ l.path) × IsFlawIn t l g

-- ---- in a world

module _ {P N : Type 0} (w : List (Table P N)) where
  -- no module stands at the path
  abbrev pub IsBare : P → Type 0
  IsBare p = (t : Table P N) → IsAt w p t → ⊥

  -- where it asks no module stands, or one that answers so that it ends there
  abbrev pub Halts : LookUp P N → End P N → Type 0
  Halts l e = ((e ≡ Flawed NoModule l.path) × IsBare l.path) ⊎ ((t : Table P N) × IsAt w l.path t × EndsIn t l e)

  -- a walk of the look-up ends at the path with this flaw
  abbrev pub HasFlaw : LookUp P N → Flaw N → P → Type 0
  HasFlaw l (Clash n) q = ⊥
  HasFlaw l NoModule q = ((x : LookUp P N) × WalksTo w l x × (x.path ≡ q)) × IsBare q
  HasFlaw l (Lacking n) q = IsMissingAt w l q n
  HasFlaw l (Hidden n) q = IsPrivateAt w l n q
  HasFlaw l (Unsure n) q = (x : LookUp P N) × (x.path ≡ q) × (x.name ≡ n) × EndsWith w l x Ambiguous

  -- the look-up ends so
  abbrev pub EndsAs : LookUp P N → End P N → Type 0
  EndsAs l (Found s) = LeadsTo w l s
  EndsAs l (Flawed g q) = HasFlaw l g q

-- The flaw is in the world, this asker asks for it, and it is at this path: where the name clashes, no module is, the name is
-- lacked, hidden, or stands for two things. The faults of the same names stand so too.
module _ {P N : Type 0} (task : Task P N) (w : List (Table P N)) where
  abbrev pub IsFlaw : Flaw N → Asker P N → P → Type 0
  IsFlaw (Clash n) a q = (a ≡ Whole q) × Entered w task q × (t : Table P N) × IsAt w q t × Clashes t n
  IsFlaw NoModule a q = Brings task w a q × IsBare w q
  IsFlaw (Lacking n) a q = (l : LookUp P N) × AsksBy task w a l × IsMissingAt w l q n
  IsFlaw (Hidden n) a q = (l : LookUp P N) × AsksBy task w a l × IsPrivateAt w l n q
  IsFlaw (Unsure n) a q = IsUnclearBy task w a q n
