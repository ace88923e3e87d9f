-- Diagnostics that tell findings.
use Rattle.std.proofs.Common.{◌≡◌, ◌↔◌, ℕ, ◌<◌, ◌≤◌, ◌+◌, List, [], ◌∷◌, ◌++◌, length, get_or, take, take_all, add-one, suc, zero, refl, sym, ap, ◌∙◌, subst, arith, string_bytes}
use Rattle.std.specs.Prelude.{Option, Some}
use Rattle.std.specs.List.{AllZip}
use Rattle.wesl_tree_base.specs.declared.faults.ValidateError.{ValidateError}
use Rattle.wesl_tree_base.specs.declared.faults.ValidateError.TheVariants as fault
use Rattle.wesl_tree_names.specs.Path.{Text}
use Rattle.wesl_tree_names.specs.declared.errors.Diagnostic.{Diagnostic}
use Rattle.wesl_tree_names.specs.declared.errors.Error as error
use Rattle.wesl_tree_syntax.specs.Unit.{UnitView}
use Rattle.wesl_validate_builtins.specs.Builtins.{BuiltinNames}
use Rattle.wesl_validate_rules.specs.Faults.{IsUndefined, IsDuplicate, IsCycle, IsMiscounted, IsNotCallable, IsWeslFault, IsWgslFault, TellsAsError}
use Rattle.wesl_validate_faults.specs.Findings.{Finding, undefined, duplicate, cycle, miscounted, not_callable, holder, IsFound, IsFoundWgsl}
use Rattle.wesl_validate_faults.specs.Gathered.{finding_view, findings_view}
use Rattle.wesl_validate_faults.specs.Laws.{TellsRefusals, TellsRefusalsWgsl}
use Rattle.wesl_validate_faults.specs.Telling.{IsErrorOf, Says, TellsFinding}
use Rattle.wesl_validate_faults.specs.declared.finding.Finding as code

module _ (u : UnitView) (b : BuiltinNames) where
  faulted : (f : Finding) (within : Option Text) (e : ValidateError) → IsFound u b f → within ≡ holder f → IsErrorOf f e → IsWeslFault u b within e
  faulted (undefined d n) within (fault.UndefinedSymbol m) h w e = subst (IsUndefined u b within) (sym e) (subst (λ o. IsUndefined u b o n) (sym w) h)
  faulted (duplicate n) within (fault.Duplicate m) h w e = (subst (IsDuplicate u) (sym e) h, w ∙ ap (λ x. Some x) (sym e))
  faulted (cycle n v) within (fault.Cycle m k) h w e = (subst (IsCycle u (string_bytes m)) (sym e.1) (subst (λ x. IsCycle u x v) (sym e.0) h), w ∙ ap (λ x. Some x) (sym e.0))
  faulted (undefined d n) within (fault.ParamCount m x y) h w e = absurd e
  faulted (undefined d n) within (fault.NotCallable m) h w e = absurd e
  faulted (undefined d n) within (fault.Duplicate m) h w e = absurd e
  faulted (undefined d n) within (fault.Cycle m k) h w e = absurd e
  faulted (duplicate n) within (fault.UndefinedSymbol m) h w e = absurd e
  faulted (duplicate n) within (fault.ParamCount m x y) h w e = absurd e
  faulted (duplicate n) within (fault.NotCallable m) h w e = absurd e
  faulted (duplicate n) within (fault.Cycle m k) h w e = absurd e
  faulted (cycle n v) within (fault.UndefinedSymbol m) h w e = absurd e
  faulted (cycle n v) within (fault.ParamCount m x y) h w e = absurd e
  faulted (cycle n v) within (fault.NotCallable m) h w e = absurd e
  faulted (cycle n v) within (fault.Duplicate m) h w e = absurd e
  faulted (miscounted d n x g) within e h w s = absurd h
  faulted (not_callable d n) within e h w s = absurd h

  wider : (within : Option Text) (e : ValidateError) → IsWeslFault u b within e → IsWgslFault u b within e
  wider within (fault.UndefinedSymbol n) h = h
  wider within (fault.Duplicate n) h = h
  wider within (fault.Cycle n v) h = h
  wider within (fault.ParamCount n x g) h = absurd h
  wider within (fault.NotCallable n) h = absurd h

  faulted_wgsl : (f : Finding) (within : Option Text) (e : ValidateError) → IsFoundWgsl u b f → within ≡ holder f → IsErrorOf f e → IsWgslFault u b within e
  faulted_wgsl (undefined d n) within e h w s = wider within e (faulted (undefined d n) within e h w s)
  faulted_wgsl (duplicate n) within e h w s = wider within e (faulted (duplicate n) within e h w s)
  faulted_wgsl (cycle n v) within e h w s = wider within e (faulted (cycle n v) within e h w s)
  faulted_wgsl (miscounted d n x g) within (fault.ParamCount m y k) h w (same, expected, got) =
      subst (λ z. IsMiscounted u b within z y k) (sym same)
      (subst (λ z. IsMiscounted u b within n z k) (sym expected) (subst (λ z. IsMiscounted u b within n x z) (sym got) (subst (λ o. IsMiscounted u b o n x g) (sym w) h)))
  faulted_wgsl (not_callable d n) within (fault.NotCallable m) h w e = subst (IsNotCallable u b within) (sym e) (subst (λ o. IsNotCallable u b o n) (sym w) h)
  faulted_wgsl (miscounted d n x g) within (fault.UndefinedSymbol m) h w e = absurd e
  faulted_wgsl (miscounted d n x g) within (fault.NotCallable m) h w e = absurd e
  faulted_wgsl (miscounted d n x g) within (fault.Duplicate m) h w e = absurd e
  faulted_wgsl (miscounted d n x g) within (fault.Cycle m k) h w e = absurd e
  faulted_wgsl (not_callable d n) within (fault.UndefinedSymbol m) h w e = absurd e
  faulted_wgsl (not_callable d n) within (fault.ParamCount m y k) h w e = absurd e
  faulted_wgsl (not_callable d n) within (fault.Duplicate m) h w e = absurd e
  faulted_wgsl (not_callable d n) within (fault.Cycle m k) h w e = absurd e

refused : (F : Option Text → ValidateError → Type 0) (f : Finding) (within : Option Text) (e : error.Error) → ((v : ValidateError) → IsErrorOf f v → F within v) → Says f e → TellsAsError F within e
refused F f within (error.Validate e) h s = h e s
refused F f within error.Memory h s = absurd s
refused F f within (error.CondComp e) h s = absurd s
refused F f within (error.Import e) h s = absurd s
refused F f within (error.Resolve e) h s = absurd s
refused F f within (error.ModuleLimit n) h s = absurd s
refused F f within error.NotNormalType h s = absurd s
refused F f within error.NotJson h s = absurd s
refused F f within (error.BadTree n) h s = absurd s
refused F f within (error.BadBundle n) h s = absurd s

pub tells_refusals : TellsRefusals
tells_refusals u b f d h t = record {
  tells = refused (IsWeslFault u b) f _ d.error (λ e s. faulted u b f _ e h t.held s) t.says;
  no_module = t.no_module;
  no_display = t.no_display;
  no_span = t.no_span;
  no_source = t.no_source;
}

pub tells_refusals_wgsl : TellsRefusalsWgsl
tells_refusals_wgsl u b f d h t = record {
  tells = refused (IsWgslFault u b) f _ d.error (λ e s. faulted_wgsl u b f _ e h t.held s) t.says;
  no_module = t.no_module;
  no_display = t.no_display;
  no_span = t.no_span;
  no_source = t.no_source;
}

-- ---- one after the other
abbrev pub TellEach : List code.Finding → List Diagnostic → Type 0
TellEach fs ds = AllZip TellsFinding (findings_view fs) ds

tell_suc : (fs : List code.Finding) (ds : List Diagnostic) (i : ℕ) (f e : code.Finding) (d : Diagnostic) → i < length fs → f ≡ get_or fs i e → TellEach (take i fs) ds → TellsFinding (finding_view f) d → TellEach (take (suc i) fs) (ds ++ d ∷ [])
tell_suc [] ds i f e d l is h t = absurd (omega (arith, l))
tell_suc (g ∷ fs) [] zero f e d l is h t = (subst (λ x. TellsFinding (finding_view x) d) is t, tt)
tell_suc (g ∷ fs) (c ∷ ds) zero f e d l is h t = absurd h
tell_suc (g ∷ fs) [] (suc i) f e d l is h t = absurd h
tell_suc (g ∷ fs) (c ∷ ds) (suc i) f e d l is h t = (h.0, tell_suc fs ds i f e d (omega (arith, l)) is h.1 t)

pub tell_next : (fs : List code.Finding) (ds : List Diagnostic) (i : ℕ) (f e : code.Finding) (d : Diagnostic) → i < length fs → f ≡ get_or fs i e → TellEach (take i fs) ds → TellsFinding (finding_view f) d → TellEach (take (i + 1) fs) (ds ++ d ∷ [])
tell_next fs ds i f e d l is h t = rw add-one (tell_suc fs ds i f e d l is h t)

pub tell_all : (fs : List code.Finding) (ds : List Diagnostic) (i : ℕ) → length fs ≤ i → TellEach (take i fs) ds → TellEach fs ds
tell_all fs ds i l h = subst (λ xs. TellEach xs ds) (take_all i fs l) h

-- no diagnostic where nothing is found, and the other way round
pub none_each : (fs : List Finding) (ds : List Diagnostic) → AllZip TellsFinding fs ds → (ds ≡ []) ↔ (fs ≡ [])
none_each [] [] h = (λ e. refl, λ e. refl)
none_each [] (d ∷ ds) h = absurd h
none_each (f ∷ fs) [] h = absurd h
none_each (f ∷ fs) (d ∷ ds) h = (λ e. cc, λ e. cc)
