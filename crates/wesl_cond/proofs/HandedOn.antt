-- A fault that is handed on in a refusal.
use Rattle.std.proofs.Common.{◌≡◌, ◌⊎◌, ◌∙◌, ℕ, List, Option, Some, None, inl, inr, ap, subst, sym}
use Rattle.wesl_cond_chains.specs.Evaluation.{TellsOrLacks}
use Rattle.wesl_cond_chains.specs.FormulaFaults.{Fault, Tells}
use Rattle.wesl_cond_chains.specs.Places.{Place}
use Rattle.wesl_cond_features.specs.declared.features.Features.{Features}
use Rattle.wesl_cond.specs.Conditioned.{IsHandedOn, IsRefusedBy}
use Rattle.wesl_tree_names.specs.Path.{Text}
use Rattle.wesl_tree_names.specs.declared.errors.Diagnostic.{Diagnostic, out-Diagnostic}
use Rattle.wesl_tree_names.specs.declared.errors.Error as error
use Rattle.wesl_tree_syntax.specs.Unit.{UnitView}

pub handed_as : (P : error.Error → Type 0) (told e : error.Error) → P told → IsHandedOn (λ f. f ≡ told) e → IsHandedOn P e
handed_as P told e by h = (h.0, subst P (sym h.1) by, h.2)

-- The error of a diagnostic that tells a fault tells it too.
abbrev pub TellsAny : error.Error → Type 0
TellsAny e = (names : List Text) × (f : Fault ℕ) × Tells names e f

error_tells : (names : List Text) (p : Place ℕ) (told : Diagnostic) (e : error.Error) → TellsOrLacks names p told → (out-Diagnostic told).error ≡ e → (e ≡ error.Memory) ⊎ TellsAny e
error_tells names p told e (inl h) is = inr (names, p.fault, subst (λ g. Tells names g p.fault) is h.0)
error_tells names p told e (inr h) is = inl (sym is ∙ ap (λ r. r.error) h)

pub refused_tells : (features : Option Features) (u : UnitView) (e : error.Error) → IsRefusedBy features u e → (e ≡ error.Memory) ⊎ TellsAny e
refused_tells None u e h = absurd h
refused_tells (Some features) u e h = error_tells u.names h.1.0 h.0 e h.1.2 h.2
