-- Symbol tables of modules (WESL, "Imports"), for any type of paths and any type of names.
pub use Rattle.wesl_cond_choices.specs.declared.place.Place.{Place}
pub use Rattle.wesl_link_symbols.specs.declared.symbols.Import.{Import}
pub use Rattle.wesl_link_symbols.specs.declared.symbols.Reference.{Reference}
pub use Rattle.wesl_link_symbols.specs.declared.symbols.Symbol.{Symbol}
pub use Rattle.wesl_link_symbols.specs.declared.symbols.LookUp.{LookUp}
pub use Rattle.wesl_link_symbols.specs.declared.symbols.Answer.{Answer}
use Rattle.std.specs.Prelude.{Option, List, Bool}

-- A declaration, and the names that it uses; a const_assert has no name. It stands at `Always` where its name has one target.
pub record Declaration (P N : Type 0) : Type 0 where
  pub name : Option N
  pub place : Place
  pub references : List (Reference P N)
  -- the names used in it that stand for two things
  pub unclear : List N

-- a module: its imports with a target and its declarations, in document order
pub record Table (P N : Type 0) : Type 0 where
  pub path : P
  pub imports : List (Import P N)
  pub declarations : List (Declaration P N)
  -- of each choice of flags the places that it keeps, and none where they are not needed
  pub alive : List (List Place)
  -- it has a split name and more than 16 flags
  pub is_crowded : Bool
