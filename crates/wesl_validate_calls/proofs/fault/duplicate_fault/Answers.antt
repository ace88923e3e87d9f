use Rattle.std.proofs.Common.{◌≡◌, ◌∙◌, Some, sym, ap, subst, string_bytes}
use Rattle.wesl_tree_syntax.specs.Unit.{name_in}
use Rattle.wesl_tree.specs.Translation.{unit_view}
use Rattle.wesl_validate_rules.specs.Valid.{spelling}
use Rattle.wesl_validate_rules.specs.Faults.{IsDuplicate}
use Rattle.wesl_validate_calls.proofs.Misfitting.{some_of}
use Rattle.wesl_validate_calls.proofs.fault.duplicate_fault.Goals as goal

pub returns-in_ok-name_of-in-Some-clause-fault : goal.returns-in_ok-name_of-in-Some-clause-fault
returns-in_ok-name_of-in-Some-clause-fault c =
    let u = unit_view c.args.unit.now in
    let number = c.in-Some.number in
    let first : string_bytes c.in_ok-name-in-Some.name ≡ spelling u number = c.in_ok-name-in-Some.ensures ∙ ap (λ ns. name_in ns number) c.names.ensures.names in
    let second = c.in_ok-name_of-in-Some.ensures ∙ ap (λ ns. name_in ns number) c.names-in-Some.ensures.names in
    let twice : IsDuplicate u (spelling u number) = some_of c.in_ok-duplicate.field-0 (λ m. IsDuplicate u (spelling u m)) number c.in-Some.is c.in_ok-duplicate.ensures.duplicate in
    (subst (IsDuplicate u) (sym first) twice, ap Some (second ∙ sym first))
