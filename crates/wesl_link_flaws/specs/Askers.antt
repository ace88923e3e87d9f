-- The faults that stand in a world, each with who asks for it.
use Rattle.std.specs.Prelude.{◌≡◌, ℕ, length, true, Option, Some, None, List, Contains, All, slice_get}
use Rattle.wesl_cond_choices.specs.declared.place.Place.TheVariants.{Always}
use Rattle.wesl_link_symbols.specs.declared.symbols.Answer.TheVariants.{Ambiguous}
use Rattle.wesl_link_symbols.specs.declared.symbols.Import.{Import}
use Rattle.wesl_link_symbols.specs.declared.symbols.LookUp.{LookUp}
use Rattle.wesl_link_symbols.specs.declared.symbols.Reference.{Reference}
use Rattle.wesl_link_symbols.specs.Tables.{Declaration, Table}
use Rattle.wesl_link_symbols.specs.Names.{asked_for}
use Rattle.wesl_link_reach.specs.World.{IsAt, WalksTo, EndsWith, IsMissingAt, IsPrivateAt, Task, Entered, Reached}
use Rattle.wesl_link_flaws.specs.declared.absence.Absence.{Absence}
use Rattle.wesl_link_flaws.specs.declared.asker.Asker.{Asker}
use Rattle.wesl_link_flaws.specs.declared.asker.Asker.TheVariants.{Kept, Named, Unclear, Imported, Whole}
use Rattle.wesl_link_reach.specs.Faults.{Fault, duplicate, refused, missing, private, too_many, ambiguous, too_many_flags, Clashes, AreDistinct}

module _ {P N : Type 0} (task : Task P N) (w : List (Table P N)) where
  -- a const_assert is taken with its module, a declaration with the symbol that it declares
  abbrev pub IsTaken : P → Option N → Type 0
  IsTaken p None = Entered w task p
  IsTaken p (Some n) = Reached w task (record { path = p; name = n })

  -- the table at the path has this declaration at that number, and it is taken
  abbrev pub TakenAt : P → ℕ → Table P N → Declaration P N → Type 0
  TakenAt p i t d = IsAt w p t × (slice_get t.declarations i ≡ Some d) × IsTaken p d.name

  -- A kept name asks the root for itself, and a reference of what is taken asks for what it names. No other asker has a look-up.
  abbrev pub AsksBy : Asker P N → LookUp P N → Type 0
  AsksBy (Kept n) l = Contains task.kept n × (l ≡ record { asker = None; path = task.root; name = n; from = Always })
  AsksBy (Named p i k) l =
      (t : Table P N) × (d : Declaration P N) × TakenAt p i t d × (r : Reference P N) × (slice_get d.references k ≡ Some r) × (l ≡ asked_for t r)
  AsksBy _ l = ⊥

  -- A walk of the asker's look-up comes to the path. An import brings the path that it names, in an eager link alone.
  abbrev pub Brings : Asker P N → P → Type 0
  Brings (Imported p k) q =
      (task.is_eager ≡ true) × Entered w task p × (t : Table P N) × IsAt w p t × (i : Import P N) × (slice_get t.imports k ≡ Some i) × (i.path ≡ q)
  Brings a q = (l : LookUp P N) × AsksBy a l × (x : LookUp P N) × WalksTo w l x × (x.path ≡ q)

  -- The name stands for two things at the path: there in a declaration that is taken, or where a walk of the asker ends.
  abbrev pub IsUnclearBy : Asker P N → P → N → Type 0
  IsUnclearBy (Unclear p i k) q n = (q ≡ p) × (t : Table P N) × (d : Declaration P N) × TakenAt p i t d × (slice_get d.unclear k ≡ Some n)
  IsUnclearBy a q n = (l : LookUp P N) × AsksBy a l × (x : LookUp P N) × (x.path ≡ q) × (x.name ≡ n) × EndsWith w l x Ambiguous

  module _ {E : Type 0} (absent : P → Absence E → Type 0) (limit : ℕ) where
    -- The fault stands, this asker asks for it, and it stands at this path: where the name clashes, is lacked, is hidden or
    -- stands for two things, where no module is, or which is one path too many.
    -- `duplicate`: a name of an entered module clashes, and the module itself asks;
    -- `refused`: the asker brings a path without a module, and it is absent so;
    -- `missing`, `private`: a walk of the asker ends there so;
    -- `ambiguous`: the name stands for two things for that asker;
    -- `too_many`: the asker brings a path, and as many others as the limit allows are entered too;
    -- `too_many_flags`: never, since a crowded module is absent.
    abbrev pub StandsBy : Fault P N (Absence E) → Asker P N → P → Type 0
    StandsBy (duplicate p n) a q = (q ≡ p) × (a ≡ Whole p) × Entered w task p × (t : Table P N) × IsAt w p t × Clashes t n
    StandsBy (refused e) a q = Brings a q × ((t : Table P N) → IsAt w q t → ⊥) × absent q e
    StandsBy (missing p n) a q = (q ≡ p) × (l : LookUp P N) × AsksBy a l × IsMissingAt w l p n
    StandsBy (private n p) a q = (q ≡ p) × (l : LookUp P N) × AsksBy a l × IsPrivateAt w l n p
    StandsBy (ambiguous n) a q = IsUnclearBy a q n
    StandsBy (too_many k) a q =
        (k ≡ limit) × Brings a q × (ps : List P) × AreDistinct ps × All (Entered w task) ps × (length ps ≡ limit) × (Contains ps q → ⊥)
    StandsBy (too_many_flags p) a q = ⊥
