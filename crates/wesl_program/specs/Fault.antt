-- What a fault line tells of an error: the name of the fault and its arguments. Of errors that hold one
-- another, as the refusal of a resolver holds the fault of a unit, the innermost is told.
use Rattle.std.specs.Prelude.{List, [], ◌∷◌, codes, decimal, string_bytes}
use Rattle.wesl_tree_names.specs.Path.{Text, path_view}
use Rattle.wesl_tree_names.specs.PathText.{to_text}
use Rattle.wesl_tree_names.specs.declared.path.ModulePath.{ModulePath}
use Rattle.wesl_tree_base.specs.declared.faults.CondCompError.{CondCompError}
use Rattle.wesl_tree_base.specs.declared.faults.CondCompError.TheVariants as cond
use Rattle.wesl_tree_base.specs.declared.faults.ValidateError.{ValidateError}
use Rattle.wesl_tree_base.specs.declared.faults.ValidateError.TheVariants as invalid
use Rattle.wesl_tree_names.specs.declared.errors.ImportError as import_error
use Rattle.wesl_tree_names.specs.declared.errors.ResolveError as resolve_error
use Rattle.wesl_tree_names.specs.declared.errors.Error as error

-- a fault as a line tells it: its name, and its arguments as texts, in order
pub record Fault : Type 0 where
  pub named : Text
  pub arguments : List Text

-- the fault of this name with these arguments
abbrev pub fault : Text → List Text → Fault
fault name arguments = record { named = name; arguments = arguments }

-- the text of the path of a module, such as `package::a::b`
abbrev pub path_text : ModulePath → Text
path_text p = to_text (path_view p)

-- what is told of a fault of a condition: its own name, and the flag where it carries one
abbrev pub fault_of_condition : CondCompError → Fault
fault_of_condition (cond.InvalidFeatureFlag name) = fault (codes "InvalidFeatureFlag") (string_bytes name ∷ [])
fault_of_condition (cond.UnexpectedFeatureFlag name) = fault (codes "UnexpectedFeatureFlag") (string_bytes name ∷ [])
fault_of_condition cond.InvalidExpression = fault (codes "InvalidExpression") []
fault_of_condition cond.NoPrecedingIf = fault (codes "NoPrecedingIf") []
fault_of_condition cond.DuplicateIf = fault (codes "DuplicateIf") []

-- what is told of a fault of validation: its own name, and the names that it carries, with counts in decimal
abbrev pub fault_of_validation : ValidateError → Fault
fault_of_validation (invalid.UndefinedSymbol name) = fault (codes "UndefinedSymbol") (string_bytes name ∷ [])
fault_of_validation (invalid.ParamCount name expected got) = fault (codes "ParamCount") (string_bytes name ∷ decimal expected ∷ decimal got ∷ [])
fault_of_validation (invalid.NotCallable name) = fault (codes "NotCallable") (string_bytes name ∷ [])
fault_of_validation (invalid.Duplicate name) = fault (codes "Duplicate") (string_bytes name ∷ [])
fault_of_validation (invalid.Cycle name via) = fault (codes "Cycle") (string_bytes name ∷ string_bytes via ∷ [])

abbrev mutual
  -- what is told of an error: where it holds another what is told of that, and else its own name, with the limit in decimal or
  -- the place, where it carries one
  pub fault_of : error.Error → Fault
  fault_of (error.CondComp e) = fault_of_condition e
  fault_of (error.Import e) = fault_of_import e
  fault_of (error.Resolve e) = fault_of_resolver e
  fault_of (error.Validate e) = fault_of_validation e
  fault_of (error.ModuleLimit limit) = fault (codes "ModuleLimit") (decimal limit ∷ [])
  fault_of error.NotNormalType = fault (codes "NotNormalType") []
  fault_of error.NotJson = fault (codes "NotJson") []
  fault_of (error.BadTree place) = fault (codes "BadTree") (string_bytes place ∷ [])
  fault_of (error.BadBundle place) = fault (codes "BadBundle") (string_bytes place ∷ [])
  fault_of error.Memory = fault (codes "Memory") []

  -- what is told of a fault of imports: where it holds the refusal of a resolver what is told of that, and else its own name,
  -- with the names and paths that it carries
  pub fault_of_import : import_error.ImportError → Fault
  fault_of_import (import_error.DuplicateSymbol name) = fault (codes "DuplicateSymbol") (string_bytes name ∷ [])
  fault_of_import (import_error.ResolveError e) = fault_of_resolver e
  fault_of_import (import_error.MissingDecl p name) = fault (codes "MissingDecl") (path_text p ∷ string_bytes name ∷ [])
  fault_of_import (import_error.Private name p) = fault (codes "Private") (string_bytes name ∷ path_text p ∷ [])
  fault_of_import (import_error.AmbiguousSymbol name) = fault (codes "AmbiguousSymbol") (string_bytes name ∷ [])
  fault_of_import (import_error.TooManyFlags p) = fault (codes "TooManyFlags") (path_text p ∷ [])

  -- what is told of the refusal of a resolver: where it holds an error what is told of that, and else its own name, with the
  -- file or the path and what was said of it
  pub fault_of_resolver : resolve_error.ResolveError → Fault
  fault_of_resolver (resolve_error.FileNotFound file message) = fault (codes "FileNotFound") (string_bytes file ∷ string_bytes message ∷ [])
  fault_of_resolver (resolve_error.ModuleNotFound p message) = fault (codes "ModuleNotFound") (path_text p ∷ string_bytes message ∷ [])
  fault_of_resolver (resolve_error.Error' p inner declaration place display span source) = fault_of inner
  fault_of_resolver resolve_error.Memory = fault (codes "Memory") []
