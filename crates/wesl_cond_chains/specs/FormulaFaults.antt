-- The faults of a condition, and how an error tells one.
use Rattle.std.specs.Prelude.{◌≡◌, ℕ, List, [], ◌∷◌, ◌++◌, ◌⊎◌, string_bytes}
use Rattle.wesl_cond_features.specs.declared.features.Feature.{Feature}
use Rattle.wesl_cond_features.specs.declared.features.Feature.TheVariants.{Enable, Disable, Keep, Error}
use Rattle.wesl_cond_features.specs.Features.{Replies}
use Rattle.wesl_cond_chains.specs.Formulas.{Form, always, never, flag, templated, within, negation, conjunction, disjunction, other}
use Rattle.wesl_tree_names.specs.Path.{Text}
use Rattle.wesl_tree_names.specs.declared.errors.Error as error
use Rattle.wesl_tree_base.specs.declared.faults.CondCompError.{CondCompError}
use Rattle.wesl_tree_base.specs.declared.faults.CondCompError.TheVariants.{InvalidFeatureFlag, UnexpectedFeatureFlag, InvalidExpression, NoPrecedingIf, DuplicateIf}
use Rattle.wesl_tree_syntax.specs.Unit.{name_in}

-- A fault of a condition, where a flag is an `I`.
pub data Fault (I : Type 0) : Type 0 where
  invalid_flag : I → Fault I
  unexpected_flag : I → Fault I
  invalid_expression : Fault I
  no_preceding_if : Fault I
  duplicate_if : Fault I

-- f is one of them
abbrev pub IsAmong : {F : Type 0} → F → List F → Type 0
IsAmong f [] = ⊥
IsAmong f (g ∷ gs) = (f ≡ g) ⊎ IsAmong f gs

module _ {I : Type 0} where
  -- the fault of a flag, by its answer: it is unexpected where that is error, else there is none
  abbrev pub faults_if_refused : Feature → I → List (Fault I)
  faults_if_refused Enable name = []
  faults_if_refused Disable name = []
  faults_if_refused Keep name = []
  faults_if_refused Error name = unexpected_flag name ∷ []

  -- both sides of a connective are judged, and nothing inside what is no formula
  abbrev pub formula_faults : Replies I → Form I → List (Fault I)
  formula_faults reply always = []
  formula_faults reply never = []
  formula_faults reply (flag name c) = faults_if_refused (reply name) name
  formula_faults reply (templated name c) = invalid_flag name ∷ []
  formula_faults reply (within p f) = formula_faults reply f
  formula_faults reply (negation p f) = formula_faults reply f
  formula_faults reply (conjunction p f q g) = formula_faults reply f ++ formula_faults reply g
  formula_faults reply (disjunction p f q g) = formula_faults reply f ++ formula_faults reply g
  formula_faults reply (other l c) = invalid_expression ∷ []

-- an error tells a fault, each flag by its name in the table
abbrev pub TellsCondition : List Text → CondCompError → Fault ℕ → Type 0
TellsCondition names (InvalidFeatureFlag text) (invalid_flag i) = string_bytes text ≡ name_in names i
TellsCondition names (UnexpectedFeatureFlag text) (unexpected_flag i) = string_bytes text ≡ name_in names i
TellsCondition names InvalidExpression invalid_expression = Unit {0}
TellsCondition names NoPrecedingIf no_preceding_if = Unit {0}
TellsCondition names DuplicateIf duplicate_if = Unit {0}
TellsCondition names e f = ⊥

-- the same of an error of any kind; one that is not of conditions tells no fault
abbrev pub Tells : List Text → error.Error → Fault ℕ → Type 0
Tells names (error.CondComp e) f = TellsCondition names e f
Tells names e f = ⊥
