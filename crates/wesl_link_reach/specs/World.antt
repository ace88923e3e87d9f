-- Look-ups between modules, and what they reach (WESL, "Imports" and "Visibility").
use Rattle.std.specs.Prelude.{◌≡◌, ◌⊎◌, Bool, true, Some, None, List, [], ◌∷◌, Contains}
use Rattle.wesl_cond_choices.specs.declared.place.Place.TheVariants.{Always}
use Rattle.wesl_link_symbols.specs.declared.symbols.Answer.TheVariants.{Declared, Next, Missing, Private, Ambiguous}
use Rattle.wesl_link_symbols.specs.declared.symbols.Import.{Import}
use Rattle.wesl_link_symbols.specs.declared.symbols.Symbol.{Symbol}
use Rattle.wesl_link_symbols.specs.declared.symbols.LookUp.{LookUp}
use Rattle.wesl_link_symbols.specs.declared.symbols.Answer.{Answer}
use Rattle.wesl_link_symbols.specs.Tables.{Table}
use Rattle.wesl_link_symbols.specs.Names.{Declares, AsksFrom, Answers}

-- ---- between modules: a world is a list of modules

module _ {P N : Type 0} where
  -- the table is that of a module of the world which stands at the path
  abbrev pub IsAt : List (Table P N) → P → Table P N → Type 0
  IsAt w p t = Contains w t × (t.path ≡ p)

-- the root is the one given, every other was handed out at its path, and no path has two modules
pub record IsWorld {P N : Type 0} (hands : P → Table P N → Type 0) (root : Table P N) (w : List (Table P N)) : Type 0 where
  pub root_in : Contains w root
  pub handed : (t : Table P N) → Contains w t → (t ≡ root) ⊎ hands t.path t
  pub one_table : (t u : Table P N) → Contains w t → Contains w u → t.path ≡ u.path → t ≡ u

module _ {P N : Type 0} where
  -- the module that is asked answers that it declares the name, and this is the symbol
  abbrev pub Finds : List (Table P N) → LookUp P N → Symbol P N → Type 0
  Finds w l s = (t : Table P N) × IsAt w l.path t × Answers t l Declared × (s ≡ record { path = l.path; name = l.name })

  -- the module asked asks further
  abbrev pub Hops : List (Table P N) → LookUp P N → LookUp P N → Type 0
  Hops w a b = (t : Table P N) × IsAt w a.path t × Answers t a (Next b)

  -- both ask the same module for the same name; who asks, and from where, plays no part
  abbrev pub SameQuestion : LookUp P N → LookUp P N → Type 0
  SameQuestion a b = (a.path ≡ b.path) × (a.name ≡ b.name)

  -- one of the look-ups that were met asks the same
  abbrev pub HasMet : List (LookUp P N) → LookUp P N → Type 0
  HasMet met a = (b : LookUp P N) × Contains met b × SameQuestion a b

-- by hops from the first look-up to where it stands, through those that were met, no question twice
pub data Walk {P N : Type 0} (w : List (Table P N)) (start : LookUp P N) : List (LookUp P N) → LookUp P N → Type 0 where
  begin : (a : LookUp P N) → a ≡ start → Walk w start [] a
  step : (met : List (LookUp P N)) (a b : LookUp P N) → Walk w start met a → (HasMet met a → ⊥) → Hops w a b → Walk w start (a ∷ met) b

module _ {P N : Type 0} where
  -- a walk comes there, be it to that question for the first time or for the second, where the walk ends
  abbrev pub WalksTo : List (Table P N) → LookUp P N → LookUp P N → Type 0
  WalksTo w l a = (met : List (LookUp P N)) × Walk w l met a

  -- a walk comes there for the first time
  abbrev pub Reaches : List (Table P N) → LookUp P N → LookUp P N → Type 0
  Reaches w l a = (met : List (LookUp P N)) × Walk w l met a × (HasMet met a → ⊥)

  -- a walk comes there for the first time, and the module that is asked there answers so
  abbrev pub EndsWith : List (Table P N) → LookUp P N → LookUp P N → Answer P N → Type 0
  EndsWith w l a x = Reaches w l a × ((t : Table P N) × IsAt w a.path t × Answers t a x)

  -- a walk comes to the symbol's own module
  abbrev pub LeadsTo : List (Table P N) → LookUp P N → Symbol P N → Type 0
  LeadsTo w l s = (a : LookUp P N) × Reaches w l a × Finds w a s

  -- a walk comes to a module without that name, or comes to a question for the second time
  abbrev pub IsMissingAt : List (Table P N) → LookUp P N → P → N → Type 0
  IsMissingAt w l p n = (a : LookUp P N) × (a.path ≡ p) × (a.name ≡ n) × (EndsWith w l a Missing ⊎ ((met : List (LookUp P N)) × Walk w l met a × HasMet met a))

  -- a walk comes to a module where nothing of the name is seen, and which has unpublished imports of it
  abbrev pub IsPrivateAt : List (Table P N) → LookUp P N → N → P → Type 0
  IsPrivateAt w l n p = (a : LookUp P N) × (a.path ≡ p) × (a.name ≡ n) × EndsWith w l a Private

  -- a walk comes to a module in which the name stands for two things
  abbrev pub IsAmbiguousAt : List (Table P N) → LookUp P N → N → Type 0
  IsAmbiguousAt w l n = (a : LookUp P N) × (a.name ≡ n) × EndsWith w l a Ambiguous

-- ---- what is reached

-- what is linked: the root, the names that are kept, and whether all that is declared is held
pub record Task (P N : Type 0) : Type 0 where
  pub root : P
  pub kept : List N
  pub is_eager : Bool

module _ {P N : Type 0} where
  -- a kept name is asked for from outside
  abbrev pub IsKept : Task P N → LookUp P N → Type 0
  IsKept task l = (n : N) × Contains task.kept n × (l ≡ record { asker = None; path = task.root; name = n; from = Always })

-- The least sets of entered paths, reached symbols and followed look-ups. A followed look-up enters the path of each
-- module that a walk of it comes to, and reaches the symbol that it leads to. The eager link, besides, reaches all that
-- an entered module declares, and enters the path of each of its imports.
mutual
  -- entered are the root, what a walk of a followed look-up comes to, and in an eager link what an entered module imports from
  pub data Entered {P N : Type 0} (w : List (Table P N)) (task : Task P N) : P → Type 0 where
    root : (p : P) → p ≡ task.root → Entered w task p
    asked : (l a : LookUp P N) (p : P) → Followed w task l → WalksTo w l a → a.path ≡ p → Entered w task p
    imported : (q p : P) (t : Table P N) (i : Import P N) → task.is_eager ≡ true → Entered w task q → IsAt w q t → Contains t.imports i → i.path ≡ p → Entered w task p

  -- reached is what a followed look-up leads to, and in an eager link what an entered module declares
  pub data Reached {P N : Type 0} (w : List (Table P N)) (task : Task P N) : Symbol P N → Type 0 where
    led_to : (l : LookUp P N) (s : Symbol P N) → Followed w task l → LeadsTo w l s → Reached w task s
    declared : (s : Symbol P N) (t : Table P N) → task.is_eager ≡ true → Entered w task s.path → IsAt w s.path t → Declares t s.name → Reached w task s

  -- followed are the look-ups of kept names, of const_asserts of entered modules, and of declarations of reached symbols
  pub data Followed {P N : Type 0} (w : List (Table P N)) (task : Task P N) : LookUp P N → Type 0 where
    kept : (l : LookUp P N) → IsKept task l → Followed w task l
    by_assert : (p : P) (t : Table P N) (l : LookUp P N) → Entered w task p → IsAt w p t → AsksFrom t None l → Followed w task l
    by_symbol : (s : Symbol P N) (t : Table P N) (l : LookUp P N) → Reached w task s → IsAt w s.path t → AsksFrom t (Some s.name) l → Followed w task l
