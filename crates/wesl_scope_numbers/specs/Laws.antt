-- Laws of the definitions, as functions of the crate cite them.
use Rattle.std.specs.Prelude.{◌≡◌, ◌↔◌, ℕ, List, slice_get, map}
use Rattle.std.specs.Bool.{Decides}
use Rattle.std.specs.Option.{option_map}
use Rattle.wesl_tree_names.specs.Path.{Text}
use Rattle.wesl_tree_syntax.specs.Unit.{UnitView, spelled, numbers}
use Rattle.wesl_tree_syntax.specs.Numbers.{AreNumbers}
use Rattle.wesl_scope_occurrences.specs.Occurrences.{Block, Occurrence, occurrences}
use Rattle.wesl_scope_meanings.specs.Scopes.{binder_of, keys}
use Rattle.wesl_scope_meanings.specs.Keys.{named}
use Rattle.wesl_scope_numbers.specs.Faithful.{IsFaithful, binders_of}
use Rattle.wesl_scope_numbers.specs.Test.{is_faithful}
use Rattle.wesl_scope_numbers.specs.Retargeted.{IsNumberedByMeaning}

-- the test says what the words say
abbrev pub TestsFaith : Type 0
TestsFaith = (u : UnitView) → Decides (is_faithful u) (IsFaithful u)

-- the binder that a name means is the first of those that it picks
abbrev pub MeansTheFirst : Type 0
MeansTheFirst =
    (names : List Text) (all : List (Occurrence ℕ)) (n : Text) (p : ℕ) (b : Block)
    → binder_of (map (named names) all) n p b ≡ option_map (named names) (slice_get (binders_of names all n p b) 0)

-- canonical numbers of plain scoping make a module faithful
abbrev pub CanonicalIsFaithful : Type 0
CanonicalIsFaithful = (u : UnitView) → AreNumbers (keys (occurrences (spelled u))) (numbers u) → IsFaithful u

-- where numbers follow meanings, a module is faithful exactly where its numbers are the canonical ones of plain scoping
abbrev pub FaithfulIsCanonical : Type 0
FaithfulIsCanonical = (u : UnitView) → IsNumberedByMeaning u → IsFaithful u ↔ AreNumbers (keys (occurrences (spelled u))) (numbers u)
