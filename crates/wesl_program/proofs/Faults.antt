-- The fault of a module that is refused is none of the bundle that holds it.
use Rattle.std.specs.Option.{option_map}
use Rattle.std.specs.Prelude.{if◌then◌else◌, string_bytes}
use Rattle.std.proofs.Common.{◌≡◌, ◌⊎◌, ℕ, List, Bool, true, false, true≢false, Option, Some, None, Result, Ok, Err, bytes_eq, codes, refl, sym, ap, ◌∙◌, subst, inl, inr}
use Rattle.serde_json.specs.Data.{Data}
use Rattle.wesl_tree_syntax.specs.Unit.{UnitOf}
use Rattle.wesl_tree_names.specs.Path.{Text, Path}
use Rattle.wesl_tree_names.specs.Errors.{IsModuleNotFound, IsRefusedWith, OrMemory, error_of_resolve, is_memory, resolver_is_memory}
use Rattle.wesl_tree_names.specs.declared.errors.Diagnostic.{Diagnostic, out-Diagnostic}
use Rattle.wesl_tree_names.specs.declared.errors.Error as error
use Rattle.wesl_tree_base.specs.declared.faults.CondCompError.{CondCompError}
use Rattle.wesl_tree_base.specs.declared.faults.CondCompError.TheVariants as cond
use Rattle.wesl_tree_names.specs.declared.errors.ResolveError as resolve_error
use Rattle.wesl_tree_names.specs.declared.errors.ImportError as import_error
use Rattle.wesl_cond_chains.specs.FormulaFaults.{Fault, Tells}
use Rattle.wesl_cond_features.specs.declared.features.Features.{Features}
use Rattle.wesl_tree.specs.Translation.{unit_view}
use Rattle.wesl_tree.specs.declared.unit.TranslationUnit.{TranslationUnit}
use Rattle.wesl_json.specs.UnitTexts.{IsTreeFault}
use Rattle.wesl_json_read.specs.Faults.{place_of}
use Rattle.wesl_cond.specs.Conditioned.{IsHandedOn, IsRefusedBy}
use Rattle.wesl_cond.proofs.HandedOn.{refused_tells}
use Rattle.wesl_link.specs.Conditions.{RefusesLeft}
use Rattle.wesl_link.specs.Linking.{RefusesLink, hands_left, refuses_left}
use Rattle.wesl_program.specs.Fault as told
use Rattle.wesl_program.specs.Fault.{fault_of, fault_of_condition, fault_of_resolver, fault_of_validation}
use Rattle.wesl_program.specs.Hands.{IsRefused, found}
use Rattle.wesl_program.specs.Linking.{AreFeatures, LinksTo, handed, refused, handed_left, refused_left}
use Rattle.wesl_program.specs.Validity.{RefusesUnit, built_in}
use Rattle.wesl_validate_rules.specs.Faults as valid
use Rattle.wesl_tree_syntax.specs.Unit.{UnitView}
use Rattle.wesl_tree_base.specs.declared.faults.ValidateError.{ValidateError}
use Rattle.wesl_tree_base.specs.declared.faults.ValidateError.TheVariants as invalid
use Rattle.wesl_program_bundle.specs.Builtins as said
use Rattle.wesl_program_bundle.specs.Bundle.{Bundle}
use Rattle.wesl_program.specs.Line.{memory, IsBundleOf, IsOfModules, IsRefusal, IsUnread}
use Rattle.wesl_program.specs.Refused.{IsLinkFault}
use Rattle.wesl_link_reach.specs.World.{Task}
use Rattle.wesl_link_reach.specs.Faults as standing
use Rattle.wesl_link_engine.specs.Refusal.{TellsOfImport, TellsOf}
use Rattle.wesl_link_engine.proofs.Refusing.{error_told}
use Rattle.wesl_link_engine.specs.Worlds as worlds

-- memory was refused, or a module is at fault and not the bundle
abbrev IsModuleFault : error.Error → Type 0
IsModuleFault e = (fault_of e ≡ memory) ⊎ IsOfModules (fault_of e)

-- texts that a test tells apart
apart : (s t : Text) → bytes_eq s t ≡ false → bytes_eq t t ≡ true → s ≡ t → ⊥
apart s t differ same e = true≢false (sym same ∙ sym (ap (λ x. bytes_eq x t) e) ∙ differ)

of_modules : (f : told.Fault) → bytes_eq f.named (codes "NotJson") ≡ false → bytes_eq f.named (codes "BadBundle") ≡ false → IsOfModules f
of_modules f a b = (apart f.named (codes "NotJson") a refl, apart f.named (codes "BadBundle") b refl)

not_found : (p : Path) (message : Text) (e : resolve_error.ResolveError) → IsModuleNotFound p message e → IsOfModules (fault_of_resolver e)
not_found p message (resolve_error.ModuleNotFound q text) h = of_modules (fault_of_resolver (resolve_error.ModuleNotFound q text)) refl refl
not_found p message (resolve_error.FileNotFound file text) h = absurd h
not_found p message (resolve_error.Error' at inner declaration place display span source) h = absurd h
not_found p message resolve_error.Memory h = absurd h

-- a refusal with an error of modules
refused-with : (P : error.Error → Type 0) → ((fault : error.Error) → P fault → IsOfModules (fault_of fault)) → (e : resolve_error.ResolveError) → IsRefusedWith P e → IsOfModules (fault_of_resolver e)
refused-with P of (resolve_error.Error' at inner declaration place display span source) h = of inner h
refused-with P of (resolve_error.ModuleNotFound q text) h = absurd h
refused-with P of (resolve_error.FileNotFound file text) h = absurd h
refused-with P of resolve_error.Memory h = absurd h

bad_tree : (e : error.Error) (place : Text) → place_of e ≡ Some place → IsOfModules (fault_of e)
bad_tree (error.BadTree s) place is = of_modules (fault_of (error.BadTree s)) refl refl
bad_tree (error.CondComp c) place is = cc
bad_tree (error.Import i) place is = cc
bad_tree (error.Resolve r) place is = cc
bad_tree (error.Validate v) place is = cc
bad_tree (error.ModuleLimit k) place is = cc
bad_tree error.NotNormalType place is = cc
bad_tree error.NotJson place is = cc
bad_tree (error.BadBundle s) place is = cc
bad_tree error.Memory place is = cc

-- what the modules and packages of a bundle refuse
refused_found : (p : Path) (found : Result Data Text) (e : resolve_error.ResolveError) → IsRefused p found e → IsOfModules (fault_of_resolver e)
refused_found p (Ok d) e h = refused-with (IsTreeFault d) (λ fault f. bad_tree fault f.0 f.1) e h
refused_found p (Err message) e h = not_found p message e h

of-condition : (c : CondCompError) → IsOfModules (fault_of_condition c)
of-condition (cond.InvalidFeatureFlag name) = of_modules (fault_of_condition (cond.InvalidFeatureFlag name)) refl refl
of-condition (cond.UnexpectedFeatureFlag name) = of_modules (fault_of_condition (cond.UnexpectedFeatureFlag name)) refl refl
of-condition cond.InvalidExpression = of_modules (fault_of_condition cond.InvalidExpression) refl refl
of-condition cond.NoPrecedingIf = of_modules (fault_of_condition cond.NoPrecedingIf) refl refl
of-condition cond.DuplicateIf = of_modules (fault_of_condition cond.DuplicateIf) refl refl

tells-condition : (names : List Text) (e : error.Error) (f : Fault ℕ) → Tells names e f → IsOfModules (fault_of e)
tells-condition names (error.CondComp c) f h = of-condition c
tells-condition names (error.Import e) f h = absurd h
tells-condition names (error.Resolve e) f h = absurd h
tells-condition names (error.Validate e) f h = absurd h
tells-condition names (error.ModuleLimit k) f h = absurd h
tells-condition names error.NotNormalType f h = absurd h
tells-condition names error.NotJson f h = absurd h
tells-condition names (error.BadTree place) f h = absurd h
tells-condition names (error.BadBundle place) f h = absurd h
tells-condition names error.Memory f h = absurd h

refused-by : (features : Option Features) (given : TranslationUnit) (e : error.Error) → IsRefusedBy features (unit_view given) e → is_memory e ≡ false → IsOfModules (fault_of e)
refused-by features given e h other = elim (refused_tells features (unit_view given) e h) [
  | inl memory ↦ absurd (true≢false (sym (ap is_memory memory) ∙ other))
  | inr told ↦ tells-condition told.0 e told.1 told.2
]

-- one refusal deeper, as a fault of a condition is handed on
handed-on : (features : Option Features) (given : TranslationUnit) (e : error.Error) → IsHandedOn (IsRefusedBy features (unit_view given)) e → is_memory e ≡ false → IsOfModules (fault_of e)
handed-on features given e (fault, by, inl memory) other = absurd (true≢false (sym (ap is_memory memory) ∙ other))
handed-on features given e (fault, by, inr held) other =
    subst (λ x. IsOfModules (fault_of x)) (sym held.1) (refused-with _ (λ inner f. refused-by features given inner (subst (IsRefusedBy features (unit_view given)) (sym f.0) by) f.1) held.0 held.2)

left : (features : Option Features) (hands : UnitOf Text → Type 0) (p : Path) (e : resolve_error.ResolveError) → RefusesLeft features hands p e → IsOfModules (fault_of_resolver e)
left features hands p e h = refused-with _ (λ fault f. handed-on features h.0 fault f.0 f.1) e h.2.2.0

wrapped-unless : (is_wanting : Bool) (e : resolve_error.ResolveError) → IsOfModules (fault_of_resolver e) → IsModuleFault (if is_wanting then error.Memory else error.Import (import_error.ResolveError e))
wrapped-unless true e h = inl refl
wrapped-unless false e h = inr h

wrapped : (e : resolve_error.ResolveError) → IsOfModules (fault_of_resolver e) → IsModuleFault (error_of_resolve e)
wrapped e h = wrapped-unless (resolver_is_memory e) e h

or-memory : (P : resolve_error.ResolveError → Type 0) → ((e : resolve_error.ResolveError) → P e → IsOfModules (fault_of_resolver e)) → (e : resolve_error.ResolveError) → OrMemory P e → IsModuleFault (error_of_resolve e)
or-memory P of e (inl is) = subst (λ x. IsModuleFault (error_of_resolve x)) (sym is) (inl refl)
or-memory P of e (inr h) = wrapped e (of e h)

-- what a link of refusals of modules is refused with
module _ (hands : Path → UnitOf Text → Type 0) (refuses : Path → resolve_error.ResolveError → Type 0) (of : (p : Path) (e : resolve_error.ResolveError) → refuses p e → IsOfModules (fault_of_resolver e))
    (root : worlds.Module) (task : Task Path Text) (limit : ℕ) where
  abbrev IsStanding : standing.Fault Path Text resolve_error.ResolveError → Type 0
  IsStanding = worlds.IsRefused hands refuses root task limit

  import-is-of-modules : (e : import_error.ImportError) → TellsOfImport IsStanding e → IsModuleFault (error.Import e)
  import-is-of-modules (import_error.DuplicateSymbol n) h = inr (of_modules (fault_of (error.Import (import_error.DuplicateSymbol n))) refl refl)
  import-is-of-modules (import_error.ResolveError r) (unwrapped, (w, is_world, (p, entered, absent, h))) = inr (of p r h)
  import-is-of-modules (import_error.MissingDecl p n) h = inr (of_modules (fault_of (error.Import (import_error.MissingDecl p n))) refl refl)
  import-is-of-modules (import_error.Private n p) h = inr (of_modules (fault_of (error.Import (import_error.Private n p))) refl refl)
  import-is-of-modules (import_error.AmbiguousSymbol n) h = inr (of_modules (fault_of (error.Import (import_error.AmbiguousSymbol n))) refl refl)
  import-is-of-modules (import_error.TooManyFlags p) h = inr (of_modules (fault_of (error.Import (import_error.TooManyFlags p))) refl refl)

  standing-is-of-modules : (e : error.Error) → TellsOf IsStanding e → IsModuleFault e
  standing-is-of-modules (error.Import e) h = import-is-of-modules e h
  standing-is-of-modules (error.ModuleLimit k) h = inr (of_modules (fault_of (error.ModuleLimit k)) refl refl)
  standing-is-of-modules error.Memory h = inl refl
  standing-is-of-modules (error.CondComp e) h = absurd h
  standing-is-of-modules (error.Resolve e) h = absurd h
  standing-is-of-modules (error.Validate e) h = absurd h
  standing-is-of-modules error.NotNormalType h = absurd h
  standing-is-of-modules error.NotJson h = absurd h
  standing-is-of-modules (error.BadTree place) h = absurd h
  standing-is-of-modules (error.BadBundle place) h = absurd h

module _ (hands : Path → UnitOf Text → Type 0) (refuses : Path → resolve_error.ResolveError → Type 0) (features : Option Features) (of : (p : Path) (e : resolve_error.ResolveError) → refuses p e → IsOfModules (fault_of_resolver e)) where
  either : (p : Path) (e : resolve_error.ResolveError) → refuses p e ⊎ RefusesLeft features (hands p) p e → IsOfModules (fault_of_resolver e)
  either p e (inl h) = of p e h
  either p e (inr h) = left features (hands p) p e h

  link-is-of-modules : (p : Path) (keep : List Text) (is_eager : Bool) (limit : ℕ) (d : Diagnostic) → RefusesLink (hands_left hands refuses features) (refuses_left hands refuses features) p keep is_eager limit d
      → IsModuleFault (out-Diagnostic d).error
  link-is-of-modules p keep is_eager limit d (inl h) = subst IsModuleFault (sym (ap (λ r. r.error) h.2)) (or-memory _ (either p) h.0 h.1)
  link-is-of-modules p keep is_eager limit d (inr h) = standing-is-of-modules _ _ either h.0 _ limit (out-Diagnostic d).error (error_told _ d h.2)

-- a fault of a link of a bundle
pub bundle-fault : (b : Bundle) (features : Option Features) → AreFeatures b features → (d : Diagnostic)
    → RefusesLink (handed_left b features) (refused_left b features) b.root b.keep b.options.eager b.options.max_modules d → IsLinkFault b (out-Diagnostic d).error
bundle-fault b features are d h =
    by (link-is-of-modules (handed b) (refused b) features (λ p x. refused_found p (found b.packages b.modules p) x) b.root b.keep b.options.eager b.options.max_modules d h)
  where
    by : IsModuleFault (out-Diagnostic d).error → IsLinkFault b (out-Diagnostic d).error
    by (inl is) = inl is
    by (inr of) = inr (of, ((out-Diagnostic d).error, inl (features, are, (d, refl, h)), refl))

-- ---- faults of a unit

of-validation : (v : ValidateError) → IsOfModules (fault_of_validation v)
of-validation (invalid.UndefinedSymbol n) = of_modules (fault_of_validation (invalid.UndefinedSymbol n)) refl refl
of-validation (invalid.ParamCount n expected got) = of_modules (fault_of_validation (invalid.ParamCount n expected got)) refl refl
of-validation (invalid.NotCallable n) = of_modules (fault_of_validation (invalid.NotCallable n)) refl refl
of-validation (invalid.Duplicate n) = of_modules (fault_of_validation (invalid.Duplicate n)) refl refl
of-validation (invalid.Cycle n via) = of_modules (fault_of_validation (invalid.Cycle n via)) refl refl

-- what a validator tells
tells-validation : (IsFault : Option Text → ValidateError → Type 0) (within : Option Text) (e : error.Error) → valid.TellsAsError IsFault within e → IsModuleFault e
tells-validation IsFault within (error.Validate v) h = inr (of-validation v)
tells-validation IsFault within error.Memory h = inl refl
tells-validation IsFault within (error.CondComp c) h = absurd h
tells-validation IsFault within (error.Import i) h = absurd h
tells-validation IsFault within (error.Resolve r) h = absurd h
tells-validation IsFault within (error.ModuleLimit k) h = absurd h
tells-validation IsFault within error.NotNormalType h = absurd h
tells-validation IsFault within error.NotJson h = absurd h
tells-validation IsFault within (error.BadTree place) h = absurd h
tells-validation IsFault within (error.BadBundle place) h = absurd h

refused-unit : (o : Option said.Builtins) (u : UnitView) (e : error.Error) → RefusesUnit o u e → IsModuleFault e
refused-unit None u e h = absurd h
refused-unit (Some b) u e (d, r, is) = subst IsModuleFault is (tells-validation (valid.IsWgslFault u (built_in b)) (option_map string_bytes d.declaration) d.error r.tells)

-- a fault of the unit to which a bundle links
pub unit-fault : (b : Bundle) (w : List worlds.Module) (u : UnitView) (e : error.Error) → LinksTo b w u → RefusesUnit b.builtins u e → IsLinkFault b e
unit-fault b w u e links h = by (refused-unit b.builtins u e h)
  where
    by : IsModuleFault e → IsLinkFault b e
    by (inl is) = inl is
    by (inr of) = inr (of, (e, inr (w, u, links, h), refl))

-- the same, of one of the worlds that a link may find
pub found-fault : (b : Bundle) (same : List worlds.Module → Type 0) (u : UnitView) (e : error.Error) → (w : List worlds.Module) × LinksTo b w u × same w → RefusesUnit b.builtins u e → IsLinkFault b e
found-fault b same u e (w, links, is) h = unit-fault b w u e links h

-- a fault of the link of the bundle that bytes are
pub bundle-refusal : (bytes : List ℕ) (b : Bundle) (e : error.Error) → IsBundleOf bytes b → IsLinkFault b e → IsRefusal bytes e
bundle-refusal bytes b e is (inl h) = inl h
bundle-refusal bytes b e is (inr h) = inr (inr (b, is, h.0, h.1))

-- bytes that are no bundle
pub unread-refusal : (bytes : List ℕ) (e : error.Error) → IsUnread bytes e → IsRefusal bytes e
unread-refusal bytes e (inl memory) = inl (ap fault_of memory)
unread-refusal bytes e (inr no_bundle) = inr (inl no_bundle)
