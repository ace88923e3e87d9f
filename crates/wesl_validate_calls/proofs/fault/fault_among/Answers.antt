use Rattle.wesl_tree_syntax.specs.Unit.{UnitView}
use Rattle.wesl_tree.specs.Translation.{unit_view}
use Rattle.wesl_validate_builtins.specs.Builtins.{builtins_view}
use Rattle.wesl_validate_rules.specs.Known.{IsNamedBy}
use Rattle.wesl_validate_rules.specs.Valid.{IsDefined, AreDistinct, IsAcyclic, IsValidWesl}
use Rattle.wesl_validate_calls.specs.Found.{IsFault}
use Rattle.wesl_validate_calls.proofs.fault.fault_among.Goals as goal
use Rattle.wesl_validate_rules.proofs.Stepping.{on_none, on_some}
use Rattle.wesl_validate_rules.proofs.Turns.{nothing_found}

pub returns-clause-fault : goal.returns-clause-fault
returns-clause-fault c =
    let u = unit_view c.args.unit.now in
    let b = builtins_view c.args.builtins.now in
    let found = c.args.found.now in
    let names = c.names-2.result.now in
    let named : IsNamedBy u names found = record { same_names = c.names-2.ensures.names; same_identifiers = c.requires.known } in
    on_some c.cycle_fault.result (λ f. (v : UnitView) → IsNamedBy v names found → IsFault v b f) (IsFault u b) (λ f h. h u named) c.cycle_fault.ensures.fault

pub returns-clause-none : goal.returns-clause-none
returns-clause-none c =
    let u = unit_view c.args.unit.now in
    let b = builtins_view c.args.builtins.now in
    let found = c.args.found.now in
    let first = c.names.result.now in
    let names = c.names-2.result.now in
    let named_first : IsNamedBy u first found = record { same_names = c.names.ensures.names; same_identifiers = c.requires.known } in
    let named : IsNamedBy u names found = record { same_names = c.names-2.ensures.names; same_identifiers = c.requires.known } in
    let defined : IsDefined u b = nothing_found c.in_ok-fault.field-0 ((v : UnitView) → IsNamedBy v first found → IsDefined v b) c.in_default.is c.in_ok-fault.ensures.none u named_first in
    let distinct : AreDistinct u = nothing_found c.in_ok-fault-2.field-0 (AreDistinct u) c.in_default-2.is c.in_ok-fault-2.ensures.none in
    on_none c.cycle_fault.result ((v : UnitView) → IsNamedBy v names found → IsAcyclic v) (IsValidWesl u b)
    (λ h. record { defined = defined; distinct = distinct; acyclic = h u named }) c.cycle_fault.ensures.none
