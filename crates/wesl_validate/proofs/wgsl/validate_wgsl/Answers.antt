use Rattle.std.proofs.Common.{rules}
use Rattle.std.specs.Prelude.{string_bytes}
use Rattle.std.specs.Option.{option_map}
use Rattle.wesl_tree.specs.Translation.{unit_view}
use Rattle.wesl_validate_builtins.specs.Builtins.{builtins_view}
use Rattle.wesl_validate_rules.specs.Faults.{IsWgslFault}
use Rattle.wesl_validate_calls.specs.CallFaults.{IsCallFault}
use Rattle.wesl_validate_calls.proofs.Misfitting.{call_of_wgsl, some_of}
use Rattle.wesl_validate.proofs.wgsl.validate_wgsl.Goals as goal

pub returns-in-None-clause-valid : goal.returns-in-None-clause-valid
returns-in-None-clause-valid c = search rules

pub returns-in-Some-clause-refused : goal.returns-in-Some-clause-refused
returns-in-Some-clause-refused c =
    let u = unit_view c.args.unit.now in
    let b = builtins_view c.args.builtins.now in
    let f = c.in-Some.fault in
    let call : IsCallFault u b f = some_of c.in_ok-call_fault.field-0 (IsCallFault u b) f c.in-Some.is c.in_ok-call_fault.ensures.fault in
    let is : IsWgslFault u b (option_map string_bytes f.declaration) f.error = call_of_wgsl u b (option_map string_bytes f.declaration) f.error call in
    search (rules, is)
