use Rattle.std.proofs.Common.{◌≡◌, ap, subst, inl, rules}
use Rattle.std.proofs.lemmas.Result.{IfErr-weaker}
use Rattle.std.specs.Prelude.{option_map}
use Rattle.wesl_json_form.specs.Units.{written_as}
use Rattle.wesl_tree_names.specs.declared.errors.Error as error
use Rattle.wesl_tree.specs.Translation.{unit_view}
use Rattle.wesl_program_bundle.specs.Views.{builtins_view}
use Rattle.wesl_source_map_entries.specs.Records.{SameItems}
use Rattle.wesl_source_map.specs.BasicView.{items}
use Rattle.wesl_program.specs.Fault.{fault_of}
use Rattle.wesl_program.specs.Linking.{recorded_for}
use Rattle.wesl_program.specs.Validity.{IsValidUnder, RefusesUnit}
use Rattle.wesl_program.proofs.Faults.{found-fault}
use Rattle.wesl_program.proofs.Mapped.{made-of-found}
use Rattle.wesl_program.proofs.Maps.{answer-of}
use Rattle.wesl_program.proofs.linking.linked.Goals as goal

pub returns-in-Err-clause-refused : goal.returns-in-Err-clause-refused
returns-in-Err-clause-refused c =
    let made = c.in_ok-made in
    let u = unit_view made.made.unit in
    λ b is. found-fault b (λ w. SameItems (recorded_for b w) (items made.made.map)) u c.in-Err.diagnostic.error
    (made-of-found b c.args.found made.made is made.ensures.named made.ensures.recorded)
    (subst (λ o. RefusesUnit o u c.in-Err.diagnostic.error) is.listed c.in-Err.ensures.refused)

pub returns-clause-linked : goal.returns-clause-linked
returns-clause-linked c =
    let made = c.in_ok-made in
    let u = unit_view made.made.unit in
    let valid : IsValidUnder (option_map builtins_view c.args.found.builtins) u = search rules in
    λ b is map shown. answer-of b u (items made.made.map) c.in_ok-clash.clash map (written_as c.args.found.spans u)
    (made-of-found b c.args.found made.made is made.ensures.named made.ensures.recorded)
    (subst (λ o. IsValidUnder o u) is.listed valid) c.in_ok-clash.ensures.exact shown (ap (λ s. written_as s u) is.spanned)

pub returns-in_err-made-clause-refused : goal.returns-in_err-made-clause-refused
returns-in_err-made-clause-refused c =
    IfErr-weaker c.from_residual.result (λ d. d.error ≡ error.Memory) _ (λ d is b found. inl (ap fault_of is)) (search rules)

pub returns-in_err-clash-clause-refused : goal.returns-in_err-clash-clause-refused
returns-in_err-clash-clause-refused c =
    IfErr-weaker c.from_residual-in_err-clash.result (λ d. d.error ≡ error.Memory) _ (λ d is b found. inl (ap fault_of is)) (search rules)
