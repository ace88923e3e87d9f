-- Laws of the definitions, as functions of the crate cite them.
use Rattle.std.specs.Prelude.{◌≡◌, ◌≢◌, ◌↔◌, ◌<◌, Option, [], length, get_or, map}
use Rattle.std.specs.List.{Contains, AllPairs}
use Rattle.wesl_tree_names.specs.Path.{Text}
use Rattle.wesl_tree_syntax.specs.Unit.{UnitView, numbers}
use Rattle.wesl_validate_builtins.specs.Builtins.{BuiltinNames}
use Rattle.wesl_validate_rules.specs.Valid.{IsDefined, spelling}
use Rattle.wesl_validate_rules.specs.Faults.{IsUndefined}
use Rattle.wesl_validate_free.specs.Free.{each_once, free_names}
use Rattle.wesl_validate_free.specs.Uses.{Use, free_uses}

-- no name is free exactly where each reference is defined, as the validators ask
abbrev pub NoneIsDefined : Type 0
NoneIsDefined = (u : UnitView) (b : BuiltinNames) → (free_names u b ≡ []) ↔ IsDefined u b

-- a name is free exactly where a validator may tell it as undefined, inside some declaration or outside of all
abbrev pub TellsUndefined : Type 0
TellsUndefined = (u : UnitView) (b : BuiltinNames) (n : Text) → Contains (free_names u b) n ↔ ((within : Option Text) × IsUndefined u b within n)

-- no name is told twice
abbrev pub TellsEachOnce : Type 0
TellsEachOnce = (u : UnitView) (b : BuiltinNames) → AllPairs (λ m n. m ≢ n) (free_names u b)

-- no use is free exactly where each reference is defined
abbrev pub NoUseIsDefined : Type 0
NoUseIsDefined = (u : UnitView) (b : BuiltinNames) → (free_uses u b ≡ []) ↔ IsDefined u b

-- the names of the uses, each once, are the free names
abbrev pub UsesHaveFreeNames : Type 0
UsesHaveFreeNames = (u : UnitView) (b : BuiltinNames) → each_once (map (λ x. x.name) (free_uses u b)) ≡ free_names u b

-- each use is after those before it, so that no two are at one place
abbrev pub UsesAreInOrder : Type 0
UsesAreInOrder = (u : UnitView) (b : BuiltinNames) → AllPairs (λ x y. x.place < y.place) (free_uses u b)

-- at the place of a use is an identifier of the module, and it has the name
abbrev pub UsesStandThere : Type 0
UsesStandThere = (u : UnitView) (b : BuiltinNames) (x : Use) → Contains (free_uses u b) x
    → (x.place < length (numbers u)) × (spelling u (get_or (numbers u) x.place 0) ≡ x.name)
