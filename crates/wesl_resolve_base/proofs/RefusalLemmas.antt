-- What a refusal tells of a fault, told by another way to say the fault.
use Rattle.std.proofs.Common.{◌≡◌, ◌⊎◌, true, false, Option, Some, None, IfSome, option_map, String, string_bytes, subst, sym, ap, ◌∙◌, ⊎_elim, inl, inr, true≢false}
use Rattle.std.specs.Option.{is_some}
use Rattle.std.specs.declared.alloc.Global.{Global}
use Rattle.wesl_tree_names.specs.Path.{Text, Path, path_view}
use Rattle.wesl_tree_names.specs.Errors.{is_memory, OrMemory, IsRefusedFor}
use Rattle.wesl_tree_names.specs.declared.path.ModulePath.{ModulePath}
use Rattle.wesl_tree_names.specs.declared.errors.Error as error
use Rattle.wesl_tree_names.specs.declared.errors.Diagnostic.{Diagnostic, out-Diagnostic}
use Rattle.wesl_tree_names.specs.declared.errors.ResolveError as resolve_error
use Rattle.wesl_resolve_base.specs.Refusals.{HoldsDiagnostic, TellsModule, IsToldRefusal, IsShownRefusal}
use Rattle.wesl_resolve_base.proofs.ResultLemmas.{OrMemory-to}

told-path : (p : Path) (told : Option ModulePath) → IfSome told (λ m. path_view m ≡ p) → true ≡ is_some told → option_map path_view told ≡ Some p
told-path p (Some m) h is = ap Some h
told-path p None h is = absurd (true≢false is)

not_memory : (fault : error.Error) (told : Option ModulePath) → IfSome told (λ _. is_memory fault ≡ false) → true ≡ is_some told → is_memory fault ≡ false
not_memory fault (Some p) h is = h
not_memory fault None h is = absurd (true≢false is)

-- the error of the diagnostic that is held, which is not want of memory
error-held : (d : Diagnostic) (fault : error.Error) → (out-Diagnostic d).error ≡ fault → is_memory fault ≡ false → (e : resolve_error.ResolveError) → HoldsDiagnostic d e → IsRefusedFor (λ x. x ≡ fault) e
error-held d fault is not (resolve_error.FileNotFound a b) h = absurd h
error-held d fault is not (resolve_error.ModuleNotFound a b) h = absurd h
error-held d fault is not (resolve_error.Error' at x declaration place display span text) h = (h.0 ∙ is, ap is_memory (h.0 ∙ is) ∙ not)
error-held d fault is not resolve_error.Memory h = absurd h

-- what else the diagnostic that is held tells
place-held : (d : Diagnostic) (p : Path) (shown source : Option Text) → (out-Diagnostic d).declaration ≡ None → option_map path_view (out-Diagnostic d).«module» ≡ Some p → option_map string_bytes (out-Diagnostic d).display ≡ shown
    → (out-Diagnostic d).span ≡ None → option_map string_bytes (out-Diagnostic d).source ≡ source → (e : resolve_error.ResolveError) → HoldsDiagnostic d e → TellsModule p shown source e
place-held d p shown source undeclared is named nowhere says (resolve_error.FileNotFound a b) h = absurd h
place-held d p shown source undeclared is named nowhere says (resolve_error.ModuleNotFound a b) h = absurd h
place-held d p shown source undeclared is named nowhere says (resolve_error.Error' at x declaration place display span text) h =
    (ap (option_map path_view) h.2 ∙ is, ap (option_map string_bytes) h.3 ∙ named, ap (option_map string_bytes) h.5 ∙ says, h.1 ∙ undeclared, h.4 ∙ nowhere)
place-held d p shown source undeclared is named nowhere says resolve_error.Memory h = absurd h

-- the refusal of a fault, by the path that is told of it
pub error-told : (d : Diagnostic) (fault : error.Error) (told : Option ModulePath) → (out-Diagnostic d).error ≡ fault → IfSome told (λ _. is_memory fault ≡ false) → true ≡ is_some told
    → (e : resolve_error.ResolveError) → OrMemory (HoldsDiagnostic d) e → OrMemory (IsRefusedFor (λ x. x ≡ fault)) e
error-told d fault told is may told_is = OrMemory-to (HoldsDiagnostic d) (IsRefusedFor (λ x. x ≡ fault)) (error-held d fault is (not_memory fault told may told_is))

-- what else it tells
pub place-told : (d : Diagnostic) (p : Path) (told : Option ModulePath) (display source : Option (String Global)) → (out-Diagnostic d).declaration ≡ None → (out-Diagnostic d).«module» ≡ told → (out-Diagnostic d).display ≡ display
    → (out-Diagnostic d).span ≡ None → (out-Diagnostic d).source ≡ source → IfSome told (λ m. path_view m ≡ p) → true ≡ is_some told
    → (e : resolve_error.ResolveError) → OrMemory (HoldsDiagnostic d) e → OrMemory (TellsModule p (option_map string_bytes display) (option_map string_bytes source)) e
place-told d p told display source undeclared is named nowhere says same told_is =
    OrMemory-to (HoldsDiagnostic d) (TellsModule p (option_map string_bytes display) (option_map string_bytes source))
    (place-held d p _ _ undeclared (ap (option_map path_view) is ∙ told-path p told same told_is) (ap (option_map string_bytes) named) nowhere (ap (option_map string_bytes) says))

-- both facts of one refusal
both-told : (P Q : resolve_error.ResolveError → Type 0) (e : resolve_error.ResolveError) → OrMemory P e → OrMemory Q e → OrMemory (λ x. P x × Q x) e
both-told P Q e (inl h) k = inl h
both-told P Q e (inr h) (inl k) = inl k
both-told P Q e (inr h) (inr k) = inr (h, k)

as-of : (P : error.Error → Type 0) (fault : error.Error) → (fault ≡ error.Memory) ⊎ P fault → (e : resolve_error.ResolveError) → IsRefusedFor (λ x. x ≡ fault) e → IsRefusedFor P e
as-of P fault may (resolve_error.FileNotFound a b) h = h
as-of P fault may (resolve_error.ModuleNotFound a b) h = h
as-of P fault may (resolve_error.Error' p x declaration place display span source) h =
    (⊎_elim (λ memory. absurd (true≢false (ap is_memory (sym (h.0 ∙ memory)) ∙ h.1))) (λ here. subst P (sym h.0) here) may, h.1)
as-of P fault may resolve_error.Memory h = h

-- the refusal of what is read, by the fault that was told
pub refused-as : (P : error.Error → Type 0) (fault : error.Error) (p : Path) (shown source : Option Text) → (fault ≡ error.Memory) ⊎ P fault
    → (e : resolve_error.ResolveError) → OrMemory (IsToldRefusal (λ x. x ≡ fault) p shown source) e → OrMemory (IsToldRefusal P p shown source) e
refused-as P fault p shown source may = OrMemory-to _ (IsToldRefusal P p shown source) (λ e h. (as-of P fault may e h.0, h.1))

-- the refusal of a module, with what is told of it
pub refusal-told : (P : error.Error → Type 0) (p : Path) (shown source : Option Text) (e : resolve_error.ResolveError) → OrMemory (IsRefusedFor P) e → OrMemory (TellsModule p shown source) e → OrMemory (IsToldRefusal P p shown source) e
refusal-told P p shown source e = both-told (IsRefusedFor P) (TellsModule p shown source) e

-- the name that is told is one by which the module is shown
pub refusal-shown : (P : error.Error → Type 0) (p : Path) (shows : Option Text → Type 0) (name : Option Text) → shows name → (e : resolve_error.ResolveError) → OrMemory (IsRefusedFor P) e → OrMemory (TellsModule p name None) e
    → OrMemory (IsShownRefusal P p shows) e
refusal-shown P p shows name is e h k = OrMemory-to _ (IsShownRefusal P p shows) (λ x told. (name, is, told)) e (both-told (IsRefusedFor P) (TellsModule p name None) e h k)
