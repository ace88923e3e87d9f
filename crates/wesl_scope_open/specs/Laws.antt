-- Laws of plain scoping by one walk.
use Rattle.std.specs.Prelude.{◌≡◌, ℕ, List, map}
use Rattle.wesl_tree_syntax.specs.Numbers.{AreNumbers}
use Rattle.wesl_tree_syntax.specs.Unit.{spelled}
use Rattle.wesl_tree.specs.Translation.{unit_view}
use Rattle.wesl_tree.specs.declared.unit.TranslationUnit.{TranslationUnit}
use Rattle.wesl_scope_occurrences.specs.Occurrences.{Block, occurrences}
use Rattle.wesl_scope_occurrences.specs.Events.{events}
use Rattle.wesl_scope_open.specs.Scopes.{Key, keys}
use Rattle.wesl_scope_open.specs.Open.{unopened, keys_met, is_declared_by, by_number}
use Rattle.wesl_scope_open.specs.Told.{AreToldBy}

-- what the identifiers of a module mean at the events of one walk
abbrev pub keys_walked : TranslationUnit → List Key
keys_walked t = keys_met (is_declared_by (occurrences (spelled (unit_view t)))) unopened (events (spelled (unit_view t)))

-- it is what they mean by plain scoping
abbrev pub OneWalkFindsMeanings : Type 0
OneWalkFindsMeanings = (t : TranslationUnit) → keys_walked t ≡ map by_number (keys (occurrences (spelled (unit_view t))))

-- and numbers for the one are numbers for the other, where blocks are told by their numbers
abbrev pub OneWalkNumbersMeanings : Type 0
OneWalkNumbersMeanings = (t : TranslationUnit) (w : ℕ → Block) (numbers : List ℕ)
    → AreToldBy w (occurrences (spelled (unit_view t))) → AreNumbers (keys_walked t) numbers → AreNumbers (keys (occurrences (spelled (unit_view t)))) numbers
