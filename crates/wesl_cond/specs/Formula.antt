-- What features leave of one formula, and its faults.
use Rattle.std.specs.Prelude.{◌≡◌, ℕ, List, [], ◌⊎◌}
use Rattle.wesl_cond_chains.specs.Evaluation.{Refuses}
use Rattle.wesl_cond_chains.specs.FormulaResidual.{residual}
use Rattle.wesl_cond_chains.specs.Formulas.{written}
use Rattle.wesl_cond_chains.specs.Nodes.{answers, replies}
use Rattle.wesl_cond_chains.specs.Places.{Place, formula_places}
use Rattle.wesl_cond_chains.specs.Step.{form_of}
use Rattle.wesl_cond_features.specs.declared.features.Features.{Features}
use Rattle.wesl_tree_names.specs.Errors.{IsBare}
use Rattle.wesl_tree_names.specs.Path.{Text}
use Rattle.wesl_tree_names.specs.declared.errors.Diagnostic.{Diagnostic}
use Rattle.wesl_tree_names.specs.declared.errors.Error as error
use Rattle.wesl_tree_syntax.specs.Tree.{Tree}
use Rattle.wesl_tree_syntax.specs.declared.expression.Expression.{Expression}
use Rattle.wesl_tree_syntax.specs.declared.span.Spanned.{Spanned}

-- what the features leave of a formula over the names of a table
abbrev pub left_of_formula : List Text → Features → Spanned Expression → Tree
left_of_formula names features formula = written (residual (answers names features) (form_of formula.node))

-- the faults of a formula, each with the span of the expression at fault
abbrev pub faults_of_formula : List Text → Features → Spanned Expression → List (Place ℕ)
faults_of_formula names features formula = formula_places (replies names features) formula.span (form_of formula.node)

-- A diagnostic tells one of these faults with its span, or that memory is wanting to tell it; where there is none, it tells
-- that memory is wanting for the copy, and no place.
abbrev pub RefusesFormula : List Text → Features → Spanned Expression → Diagnostic → Type 0
RefusesFormula names features formula told =
    let faults = faults_of_formula names features formula in
    Refuses names faults told ⊎ ((faults ≡ []) × IsBare error.Memory told)
