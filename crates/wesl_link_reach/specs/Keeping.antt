-- What a link keeps of its look-ups.
use Rattle.std.specs.Prelude.{Option, Some, None, List, Contains}
use Rattle.wesl_link_symbols.specs.declared.symbols.LookUp.{LookUp}
use Rattle.wesl_link_symbols.specs.declared.symbols.Reference.{Reference}
use Rattle.wesl_link_symbols.specs.declared.symbols.Symbol.{Symbol}
use Rattle.wesl_link_symbols.specs.Tables.{Table}
use Rattle.wesl_link_symbols.specs.Names.{RefersFrom, AsksFrom}
use Rattle.wesl_link_reach.specs.World.{IsAt, LeadsTo}
use Rattle.wesl_link_reach.specs.Laws.{IsClear}
use Rattle.wesl_link_reach.specs.Linking.{Linking}
use Rattle.wesl_link_reach.specs.Loading.{IsAnswered}

-- the answers are what their look-ups lead to, and all that const_asserts and held symbols ask for is answered
pub record IsKept {P N : Type 0} (w : List (Table P N)) (ss : List (Symbol P N)) (answers : List (LookUp P N × Symbol P N)) : Type 0 where
  pub clear : IsClear w
  pub answered : (l : LookUp P N) (s : Symbol P N) → Contains answers (l, s) → LeadsTo w l s
  pub asserts : (t : Table P N) (l : LookUp P N) → Contains w t → AsksFrom t None l → IsAnswered answers l
  pub symbols : (s : Symbol P N) (t : Table P N) (l : LookUp P N) → Contains ss s → IsAt w s.path t → AsksFrom t (Some s.name) l → IsAnswered answers l

-- a const_assert is held, and a declaration of a name where its symbol is
abbrev pub IsHeld : {P N : Type 0} → Linking P N → P → Option N → Type 0
IsHeld k p None = Unit {0}
IsHeld k p (Some n) = Contains k.symbols (record { path = p; name = n })

-- the reference stands in a const_assert of the module, or in a declaration of a held symbol
abbrev pub StandsHeld : {P N : Type 0} → Linking P N → Table P N → Reference P N → Type 0
StandsHeld {P} {N} k t r = (name : Option N) × RefersFrom t name r × IsHeld k t.path name
