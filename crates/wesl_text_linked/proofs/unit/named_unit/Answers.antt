use Rattle.std.proofs.Common.{inl, inr, rules}
use Rattle.std.proofs.lemmas.Result.{IfErr-weaker}
use Rattle.wesl_tree.specs.Translation.{unit_view}
use Rattle.wesl_tree_names.specs.Errors.{IsBare}
use Rattle.wesl_tree_names.specs.declared.errors.Error as error
use Rattle.wesl_source_map.specs.BasicView.{items}
use Rattle.wesl_text_linked.proofs.unit.named_unit.Goals as goal

pub returns-in-Err-clause-refused : goal.returns-in-Err-clause-refused
returns-in-Err-clause-refused g c =
    let made = c.in_ok-made.made in
    inr (unit_view made.unit, items made.map, c.in_ok-made.ensures.named, c.in-Err.ensures.refused)

pub returns-in_err-made-clause-refused : goal.returns-in_err-made-clause-refused
returns-in_err-made-clause-refused g c = IfErr-weaker c.from_residual.result (IsBare error.Memory) _ (λ d is. inl is) (search rules)

pub returns-in_err-clash-clause-refused : goal.returns-in_err-clash-clause-refused
returns-in_err-clash-clause-refused g c = IfErr-weaker c.from_residual-in_err-clash.result (IsBare error.Memory) _ (λ d is. inl is) (search rules)
