-- What an error says: of a diagnostic its error counts, of a path and a text what they spell.
use Rattle.std.specs.Prelude.{◌≡◌, ℕ, Bool, true, false, ◌==◌, ◌&&◌, if◌then◌else◌, List, ◌⊎◌, Option, Some, None, string_bytes, Box, box_value}
use Rattle.std.specs.declared.alloc.Global.{Global}
use Rattle.wesl_tree_base.specs.declared.span.Span.{Span}
use Rattle.wesl_tree_names.specs.Path.{Path, path_view}
use Rattle.wesl_tree_names.specs.declared.errors.Error as error
use Rattle.wesl_tree_names.specs.declared.errors.ResolveError as resolve_error
use Rattle.wesl_tree_names.specs.declared.errors.ImportError as import_error
use Rattle.wesl_tree_names.specs.declared.errors.Diagnostic as diagnostic

-- the module is not there, told by this message
abbrev pub IsModuleNotFound : Path → List ℕ → resolve_error.ResolveError → Type 0
IsModuleNotFound p message (resolve_error.ModuleNotFound q text) = (path_view q ≡ p) × (string_bytes text ≡ message)
IsModuleNotFound p message _ = ⊥

-- the module was refused with such an error; nothing is said of where
abbrev pub IsRefusedWith : (error.Error → Type 0) → resolve_error.ResolveError → Type 0
IsRefusedWith P (resolve_error.Error' p fault declaration place display span source) = P fault
IsRefusedWith P _ = ⊥

abbrev mutual
  -- whether an error is want of memory: as it stands, or as what an error holds that somebody wrapped it in, which is the refusal
  -- of a resolver, a fault of an import, or the diagnostic of a module, one in another as deep as it goes
  pub is_memory : error.Error → Bool
  is_memory error.Memory = true
  is_memory (error.Resolve e) = resolver_is_memory e
  is_memory (error.Import e) = import_is_memory e
  is_memory _ = false

  -- whether the refusal of a resolver is want of memory: as it stands, or as the error of its diagnostic
  pub resolver_is_memory : resolve_error.ResolveError → Bool
  resolver_is_memory resolve_error.Memory = true
  resolver_is_memory (resolve_error.Error' p fault declaration place display span source) = is_memory fault
  resolver_is_memory _ = false

  -- whether a fault of an import is want of memory: as the refusal that it holds
  pub import_is_memory : import_error.ImportError → Bool
  import_is_memory (import_error.ResolveError e) = resolver_is_memory e
  import_is_memory _ = false

-- the module was refused with such an error, which is not want of memory, nor holds it: that is never wrapped
abbrev pub IsRefusedFor : (error.Error → Type 0) → resolve_error.ResolveError → Type 0
IsRefusedFor P = IsRefusedWith (λ fault. P fault × (is_memory fault ≡ false))

-- memory was refused, or P holds
abbrev pub OrMemory : (resolve_error.ResolveError → Type 0) → resolve_error.ResolveError → Type 0
OrMemory P e = (e ≡ resolve_error.Memory) ⊎ P e

-- what the refusal of a resolver becomes as an error: want of memory is told as that, and any other is held as it is
abbrev pub error_of_refusal : resolve_error.ResolveError → error.Error
error_of_refusal fault = if resolver_is_memory fault then error.Memory else error.Resolve fault

-- what a fault of an import becomes as an error: want of memory is told as that, and any other is held as it is
abbrev pub error_of_import : import_error.ImportError → error.Error
error_of_import fault = if import_is_memory fault then error.Memory else error.Import fault

-- what the diagnostic of a module becomes as a refusal: want of memory is told as that, and any other is held with its place
abbrev pub refusal_of_diagnostic : Box diagnostic.Diagnostic Global → resolve_error.ResolveError
refusal_of_diagnostic d = if is_memory (diagnostic.out-Diagnostic (box_value d)).error then resolve_error.Memory else resolve_error.Error d

-- what a resolver's refusal becomes in a link: want of memory is told as that, and any other is a fault of an import
abbrev pub error_of_resolve : resolve_error.ResolveError → error.Error
error_of_resolve fault = error_of_import (import_error.ResolveError fault)

-- a diagnostic of this error that tells no place
abbrev pub IsBare : error.Error → diagnostic.Diagnostic → Type 0
IsBare e d = diagnostic.out-Diagnostic d ≡ record { error = e; declaration = None; «module» = None; display = None; span = None; source = None }

-- the place that a diagnostic tells: a node whose span is empty at the beginning has none
abbrev pub span_told : Span → Option Span
span_told s = if (s.start == 0) && (s.end == 0) then None else Some s

-- a diagnostic of this error, which tells the place alone
abbrev pub IsPlaced : error.Error → Span → diagnostic.Diagnostic → Type 0
IsPlaced e s d = diagnostic.out-Diagnostic d ≡ record { error = e; declaration = None; «module» = None; display = None; span = span_told s; source = None }
