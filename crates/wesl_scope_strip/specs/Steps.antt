-- The graph of declarations and numbers. Of `count` declarations, i is the node i, and the number m is the node count + m.
use Rattle.std.specs.Prelude.{◌≡◌, ◌⊎◌, ◌+◌, ◌<◌, ℕ, true, Some, List}
use Rattle.std.specs.List.{Contains}
use Rattle.wesl_scope_occurrences.specs.Occurrences.{OccurrenceIn, is_module_name, is_reference}

module _ {B : Type 0} (count a b : ℕ) where
  -- in declaration a the identifier refers to the number of the node b
  abbrev pub Refers : OccurrenceIn ℕ B → Type 0
  Refers o = (is_reference o.role ≡ true) × (o.declaration ≡ Some a) × (a < count) × (count + o.name ≡ b)

  -- the identifier, the number of the node a, is the name of declaration b
  abbrev pub Names : OccurrenceIn ℕ B → Type 0
  Names o = (is_module_name o.role ≡ true) × (o.declaration ≡ Some b) × (b < count) × (count + o.name ≡ a)

  -- an identifier leads from a declaration to the number to which it refers, or from a number to a declaration of it
  abbrev pub IsStep : OccurrenceIn ℕ B → Type 0
  IsStep o = Refers o ⊎ Names o

  -- one of these identifiers leads there
  abbrev pub IsStepOf : List (OccurrenceIn ℕ B) → Type 0
  IsStepOf os = (o : OccurrenceIn ℕ B) × Contains os o × IsStep o
