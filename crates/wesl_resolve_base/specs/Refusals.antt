-- What the refusal of a module tells beside its error.
use Rattle.std.specs.Prelude.{◌≡◌, Option, Some, None, option_map, string_bytes}
use Rattle.wesl_tree_names.specs.Path.{Text, Path, path_view}
use Rattle.wesl_tree_names.specs.Errors.{IsRefusedFor}
use Rattle.wesl_tree_names.specs.declared.errors.Error.{Error}
use Rattle.wesl_tree_names.specs.declared.errors.Diagnostic.{Diagnostic, out-Diagnostic}
use Rattle.wesl_tree_names.specs.declared.errors.ResolveError as resolve_error

-- it holds the diagnostic: the same error and the same place
abbrev pub HoldsDiagnostic : Diagnostic → resolve_error.ResolveError → Type 0
HoldsDiagnostic d (resolve_error.Error' at fault declaration place display span text) =
    (fault ≡ (out-Diagnostic d).error) × (declaration ≡ (out-Diagnostic d).declaration) × (place ≡ (out-Diagnostic d).«module»)
    × (display ≡ (out-Diagnostic d).display) × (span ≡ (out-Diagnostic d).span) × (text ≡ (out-Diagnostic d).source)
HoldsDiagnostic d _ = ⊥

-- it tells the path of the module, the name by which the module is shown, if it has one, and the source, if one is told; it names
-- no declaration and no place
abbrev pub TellsModule : Path → Option Text → Option Text → resolve_error.ResolveError → Type 0
TellsModule p shown source (resolve_error.Error' at fault declaration place display span text) =
    (option_map path_view place ≡ Some p) × (option_map string_bytes display ≡ shown) × (option_map string_bytes text ≡ source) × (declaration ≡ None) × (span ≡ None)
TellsModule p shown source _ = ⊥

-- the module was refused with such an error, and the refusal tells its path, the name by which it is shown and the source
abbrev pub IsToldRefusal : (Error → Type 0) → Path → Option Text → Option Text → resolve_error.ResolveError → Type 0
IsToldRefusal P p shown source e = IsRefusedFor P e × TellsModule p shown source e

-- the same under one of the names by which the module may be shown, without a source
abbrev pub IsShownRefusal : (Error → Type 0) → Path → (Option Text → Type 0) → resolve_error.ResolveError → Type 0
IsShownRefusal P p shows e = (shown : Option Text) × shows shown × IsToldRefusal P p shown None e
