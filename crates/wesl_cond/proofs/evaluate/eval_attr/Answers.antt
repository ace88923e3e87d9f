use Rattle.std.proofs.Common.{rules, inl, inr, ◌∙◌, ap}
use Rattle.wesl_tree_syntax.specs.View.{expression_view}
use Rattle.wesl_tree_copies.proofs.Kept.{equal_copy}
use Rattle.wesl_cond_chains.specs.Formulas.{form, written}
use Rattle.wesl_cond_chains.specs.FormulaResidual.{residual}
use Rattle.wesl_cond_chains.specs.Nodes.{answers}
use Rattle.wesl_cond.proofs.evaluate.eval_attr.Goals as goal

-- what is left of an equal copy
pub returns-clause-left : goal.returns-clause-left
returns-clause-left c =
    c.simplify.ensures
    ∙ ap (λ t. written (residual (answers c.args.names.now c.args.features.now) (form t)))
    (ap expression_view c.in_ok-left.ensures.given ∙ equal_copy c.of-copying.ensures.keeps c.expression-copy.ensures c.in_ok-left.ensures.noted)

pub returns-clause-faultless : goal.returns-clause-faultless
returns-clause-faultless c = search rules
