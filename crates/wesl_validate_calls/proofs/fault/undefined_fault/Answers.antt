use Rattle.std.proofs.Common.{string_bytes}
use Rattle.std.specs.Option.{option_map}
use Rattle.wesl_tree_syntax.specs.Unit.{UnitView}
use Rattle.wesl_validate_builtins.specs.Builtins.{builtins_view}
use Rattle.wesl_validate_rules.specs.Known.{IsNamedBy, IsUndefinedAt}
use Rattle.wesl_validate_calls.proofs.Misfitting.{some_of}
use Rattle.wesl_validate_calls.proofs.Telling.{undefined_told}
use Rattle.wesl_validate_calls.proofs.fault.undefined_fault.Goals as goal

pub returns-in_ok-declaration-in-Some-clause-fault : goal.returns-in_ok-declaration-in-Some-clause-fault
returns-in_ok-declaration-in-Some-clause-fault c =
    let found = c.args.found.now in
    let names = c.args.names.now in
    let builtins = builtins_view c.args.builtins.now in
    let number = c.in-Some.number in
    let declaration = c.in-Some.declaration in
    let n = string_bytes c.in_ok-name-in-Some.name in
    let within = option_map string_bytes c.in_ok-declaration-in-Some.declaration in
    let place : (u : UnitView) → IsNamedBy u names found → IsUndefinedAt u builtins number declaration =
    some_of c.in_ok-undefined.field-0 (λ p. (u : UnitView) → IsNamedBy u names found → IsUndefinedAt u builtins p.0 p.1) (number, declaration) c.in-Some.is c.in_ok-undefined.ensures.undefined in
    λ u by. undefined_told u builtins names by.same_names number declaration n within (place u by) c.in_ok-name-in-Some.ensures (c.in_ok-declaration-in-Some.ensures u by)
