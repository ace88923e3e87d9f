-- How identifiers are read by one walk when it meets them, before it is known which names the module declares.
use Rattle.std.specs.Prelude.{ℕ, ◌+◌, Bool, true, false, bytes_eq, Option, Some, None, List, [], ◌∷◌, ◌++◌, length, if◌then◌else◌}
use Rattle.wesl_tree_names.specs.Path.{Text}
use Rattle.wesl_tree_syntax.specs.Unit.{name_in}
use Rattle.wesl_scope_occurrences.specs.Occurrences.{Standing, module_name, parameter, local, reference, word}
use Rattle.wesl_scope_occurrences.specs.Walk.{Here}
use Rattle.wesl_scope_occurrences.specs.Events.{Event, begins, meets, opens, closes, ends}
use Rattle.wesl_scope_open.specs.Open.{Open, unopened, stepped, read_in}

-- how an identifier is read, with its number
pub data Sense : Type 0 where
  -- as the name of an import or of a global declaration, in the block of this number
  declared_in : ℕ → ℕ → Sense
  -- as a name of the block of this number
  of_block : ℕ → ℕ → Sense
  -- as a name of the module, if the module declares it, and else of none
  of_module : ℕ → Sense
  -- as a word
  of_none : ℕ → Sense
  -- by its path, the one of this number among those of the module's identifiers
  by_path : ℕ → ℕ → Sense

-- the number of the identifier that is read so
abbrev pub number_in : Sense → ℕ
number_in (declared_in b i) = i
number_in (of_block b i) = i
number_in (of_module i) = i
number_in (of_none i) = i
number_in (by_path n i) = i

-- how many paths belong to what is read so: one to what is read by its path, else none
abbrev pub path_count : Sense → ℕ
path_count (by_path n i) = 1
path_count _ = 0

-- how many belong to all that are read so
abbrev pub path_total : List Sense → ℕ
path_total [] = 0
path_total (s ∷ ss) = path_count s + path_total ss

-- a reference with this number, where no declaration in a function is visible or that of a block
abbrev pub reading : ℕ → Option ℕ → Sense
reading i (Some b) = of_block b i
reading i None = of_module i

-- an identifier with this number that stands so, where references to its name read this, and n paths were met before
abbrev pub sense_by : ℕ → Option ℕ → Here → Standing → ℕ → Sense
sense_by n read here module_name i = declared_in here.block i
sense_by n read here parameter i = of_block here.block i
sense_by n read here (local e) i = of_block here.block i
sense_by n read here (reference (Some path)) i = by_path n i
sense_by n read here (reference None) i = reading i (read_in here read)
sense_by n read here word i = of_none i

-- what the walk knows after some events
pub record Sensed : Type 0 where
  pub binders : Open
  -- the names of the imports and global declarations that were met
  pub known : Text → Bool
  -- how each identifier was read
  pub senses : List Sense
  -- of each global declaration how many identifiers come before it
  pub starts : List ℕ

-- before the first event nothing is read, and no name is known
abbrev pub unsensed : Sensed
unsensed = record { binders = unopened; known = λ n. false; senses = []; starts = [] }

-- with one more name, if it is of an import or a global declaration
abbrev pub with_known : Standing → Text → (Text → Bool) → Text → Bool
with_known module_name x known n = if bytes_eq x n then true else known n
with_known _ x known n = known n

module _ (names : List Text) where
  -- the sense of an identifier that the walk meets here
  abbrev pub sense_met : Sensed → Here → Standing → ℕ → Sense
  sense_met s here r i = sense_by (path_total s.senses) (s.binders.reads (name_in names i)) here r i

  -- what the walk knows after one event
  abbrev pub sensing : Sensed → Event → Sensed
  sensing s begins = record { binders = s.binders; known = s.known; senses = s.senses; starts = s.starts ++ length s.senses ∷ [] }
  sensing s (meets here r i) = record {
    binders = stepped s.binders (meets here r (name_in names i));
    known = with_known r (name_in names i) s.known;
    senses = s.senses ++ sense_met s here r i ∷ [];
    starts = s.starts;
  }
  sensing s opens = record { binders = stepped s.binders opens; known = s.known; senses = s.senses; starts = s.starts }
  sensing s closes = record { binders = stepped s.binders closes; known = s.known; senses = s.senses; starts = s.starts }
  sensing s (ends here i) = record { binders = stepped s.binders (ends here (name_in names i)); known = s.known; senses = s.senses; starts = s.starts }

  -- what it knows after these events, one after the other
  abbrev pub sensed : Sensed → List Event → Sensed
  sensed s [] = s
  sensed s (e ∷ es) = sensed (sensing s e) es
