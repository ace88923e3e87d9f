-- What lists of references and of declarations ask for.
use Rattle.std.specs.Prelude.{◌≡◌, ◌⊎◌, ◌↔◌, Option, Some, None, List, Contains}
use Rattle.wesl_link_symbols.specs.declared.symbols.LookUp.{LookUp}
use Rattle.wesl_link_symbols.specs.declared.symbols.Reference.{Reference}
use Rattle.wesl_link_symbols.specs.Tables.{Table}
use Rattle.wesl_link_symbols.specs.Names.{AsksFrom, IsUnclearFrom, asked_for}

-- the list gains what Q says, and nothing else
pub record Gains {X : Type 0} (from to : List X) (Q : X → Type 0) : Type 0 where
  pub kept : (x : X) → Contains from x → Contains to x
  pub only : (x : X) → Contains to x → Contains from x ⊎ Q x
  pub all : (x : X) → Q x → Contains to x

-- some reference of the list asks for it
abbrev pub AsksIn : {P N : Type 0} → Table P N → List (Reference P N) → LookUp P N → Type 0
AsksIn {P} {N} t rs l = (r : Reference P N) × Contains rs r × (l ≡ asked_for t r)

-- these are the look-ups that declarations of that name ask for
abbrev pub AreAsked : {P N : Type 0} → Table P N → Option N → List (LookUp P N) → Type 0
AreAsked {P} {N} t name ls = (l : LookUp P N) → Contains ls l ↔ AsksFrom t name l

-- a name that stands for two things in declarations of that name, or none where each stands for one
abbrev pub IsUnclearName : {P N : Type 0} → Table P N → Option N → Option N → Type 0
IsUnclearName {P} {N} t name (Some n) = IsUnclearFrom t name n
IsUnclearName {P} {N} t name None = (n : N) → IsUnclearFrom t name n → ⊥
