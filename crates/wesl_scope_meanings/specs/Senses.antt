-- What the values of the code that tell how identifiers are read stand for.
use Rattle.std.specs.Prelude.{ℕ, ◌<◌, Bool, Option, Some, None, List, [], ◌∷◌, map, drop}
use Rattle.wesl_tree_names.specs.Path.{Text, Path}
use Rattle.wesl_tree_syntax.specs.Unit.{name_in}
use Rattle.wesl_scope_occurrences.specs.Occurrences.{Standing, module_name, word, OccurrenceIn}
use Rattle.wesl_scope_open.specs.Scopes.{Key, free, qualified}
use Rattle.wesl_scope_open.specs.Open.{of_block as key_of_block, or_module}
use Rattle.wesl_scope_meanings.specs.Sensed as spec
use Rattle.wesl_scope_meanings.specs.Sensed.{declared_in, of_block, of_module, of_none, by_path}
use Rattle.wesl_scope_meanings.specs.declared.sense.Sense.{Sense}
use Rattle.wesl_scope_meanings.specs.declared.sense.Sense.TheVariants as made

-- how an identifier is read, as the code says it
abbrev pub sense_view : Sense → spec.Sense
sense_view (made.Declares i b) = declared_in b i.0
sense_view (made.OfBlock i b) = of_block b i.0
sense_view (made.OfModule i) = of_module i.0
sense_view (made.OfNone i) = of_none i.0
sense_view (made.ByPath i n) = by_path n i.0

-- its block, if it has one, is among the first n
abbrev pub IsSenseBelow : ℕ → spec.Sense → Type 0
IsSenseBelow n (declared_in b i) = b < n
IsSenseBelow n (of_block b i) = b < n
IsSenseBelow n _ = Unit {0}

-- the first of these paths, if there is one
abbrev pub first_path : List Path → Option Path
first_path [] = None
first_path (p ∷ ps) = Some p

-- what the name x means with this path before it; where there is none, it is free
abbrev pub by_name : Text → Option Path → Key
by_name x (Some p) = qualified p x
by_name x None = free x

module _ (known : ℕ → Bool) (names : List Text) (paths : List Path) where
  -- what an identifier means that is read so, where a test tells the numbers of names that the module declares, and these
  -- are the paths of its identifiers that have one
  abbrev pub key_in : spec.Sense → Key
  key_in (declared_in b i) = key_of_block b (name_in names i)
  key_in (of_block b i) = key_of_block b (name_in names i)
  key_in (of_module i) = or_module (known i) (name_in names i) None
  key_in (of_none i) = free (name_in names i)
  key_in (by_path n i) = by_name (name_in names i) (first_path (drop n paths))

  -- what those mean that are read so
  abbrev pub keys_in : List spec.Sense → List Key
  keys_in ss = map key_in ss

-- ---- what an identifier is, apart from what it means
-- what reading tells apart: names of imports and of global declarations, words, and all other identifiers
pub data Manner : Type 0 where
  -- the name of an import or of a global declaration
  of_declaration : Manner
  of_word : Manner
  -- a parameter, a local name or a reference: what its name means
  of_meaning : Manner

-- what an identifier is that stands so
abbrev pub manner_as : Standing → Manner
manner_as module_name = of_declaration
manner_as word = of_word
manner_as _ = of_meaning

-- what an identifier of a module is
abbrev pub manner_of : {I B : Type 0} → OccurrenceIn I B → Manner
manner_of o = manner_as o.role

-- what an identifier is that is read so
abbrev pub manner_in : spec.Sense → Manner
manner_in (declared_in b i) = of_declaration
manner_in (of_none i) = of_word
manner_in _ = of_meaning
