-- A link in which no fault can stand but the resolver's want of memory is refused for want of memory alone.
use Rattle.std.proofs.Common.{◌≡◌, true≢false, refl, sym, ◌∙◌}
use Rattle.wesl_tree_names.specs.Path.{Text, Path}
use Rattle.wesl_tree_names.specs.declared.errors.Diagnostic.{Diagnostic, out-Diagnostic}
use Rattle.wesl_tree_names.specs.declared.errors.Error as error
use Rattle.wesl_tree_names.specs.declared.errors.ImportError as import_error
use Rattle.wesl_tree_names.specs.declared.errors.ResolveError.{ResolveError}
use Rattle.wesl_link_reach.specs.Faults.{Fault}
use Rattle.wesl_link_engine.specs.Linking.{TellsMemory}
use Rattle.wesl_link_engine.specs.Worlds.{IsWantOfMemory}
use Rattle.wesl_link_engine.specs.Refusal.{TellsOf, TellsOfImport, TellsFault}
use Rattle.wesl_link_engine.proofs.Refusing.{error_told}

module _ (P : Fault Path Text ResolveError → Type 0) (none : (f : Fault Path Text ResolveError) → P f → IsWantOfMemory f) where
  no_import : (e : import_error.ImportError) → TellsOfImport P e → ⊥
  no_import (import_error.DuplicateSymbol n) (p, h) = let never = none _ h in never
  no_import (import_error.ResolveError e) (unwrapped, h) = let memory = none _ h in true≢false (sym memory ∙ unwrapped)
  no_import (import_error.MissingDecl p n) h = let never = none _ h in never
  no_import (import_error.Private n p) h = let never = none _ h in never
  no_import (import_error.AmbiguousSymbol n) h = let never = none _ h in never
  no_import (import_error.TooManyFlags p) h = let never = none _ h in never

  no_fault : (e : error.Error) → TellsOf P e → e ≡ error.Memory
  no_fault (error.Import e) h = absurd (no_import e h)
  no_fault (error.ModuleLimit k) h = let never = none _ h in absurd never
  no_fault error.Memory h = refl
  no_fault (error.CondComp e) h = absurd h
  no_fault (error.Resolve e) h = absurd h
  no_fault (error.Validate e) h = absurd h
  no_fault error.NotNormalType h = absurd h
  no_fault error.NotJson h = absurd h
  no_fault (error.BadTree place) h = absurd h
  no_fault (error.BadBundle place) h = absurd h

  pub only_memory : (d : Diagnostic) → TellsFault P d → TellsMemory d
  only_memory d h = no_fault (out-Diagnostic d).error (error_told P d h)
