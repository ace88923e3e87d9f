use Rattle.std.proofs.Common.{sym, subst}
use Rattle.std.specs.Prelude.{List}
use Rattle.wesl_tree_names.specs.Path.{Text}
use Rattle.wesl_tree.specs.Translation.{unit_view}
use Rattle.wesl_validate_builtins.specs.Builtins.{builtins_view}
use Rattle.wesl_validate_rules.specs.Known.{IsNamedBy}
use Rattle.wesl_validate_calls.specs.Misfits.{MissesIn}
use Rattle.wesl_validate_calls.specs.CallFaults.{TellsMisfit}
use Rattle.wesl_validate_rules.specs.Valid.{IsFitting}
use Rattle.wesl_validate_calls.proofs.Misfitting.{is_fault, some_of}
use Rattle.wesl_validate_calls.proofs.misfit_fault.misfit_among.Goals as goal
use Rattle.wesl_validate_rules.proofs.Turns.{nothing_found}

pub returns-in_ok-error-in-Some-clause-fault : goal.returns-in_ok-error-in-Some-clause-fault
returns-in_ok-error-in-Some-clause-fault c =
    let u = unit_view c.args.unit.now in
    let b = builtins_view c.args.builtins.now in
    let j = c.in-Some.place in
    let m = c.in-Some.misfit in
    let e = c.in_ok-error-in-Some.error in
    let named : IsNamedBy u c.names.result.now c.args.found.now = record { same_names = c.names.ensures.names; same_identifiers = c.requires.known } in
    let misses : MissesIn u b j m = some_of c.in_ok-first_misfit.field-0 (λ p. MissesIn u b p.0 p.1) (j, m) c.in-Some.is c.in_ok-first_misfit.ensures.misfit in
    let told : TellsMisfit u.names m e = subst (λ (ns : List Text). TellsMisfit ns m e) c.names-in-Some.ensures.names c.in_ok-error-in-Some.ensures in
    is_fault u b _ j (sym (c.in_ok-declaration-in-Some.ensures u named)) m e misses told

pub returns-in-None-clause-none : goal.returns-in-None-clause-none
returns-in-None-clause-none c =
    nothing_found c.in_ok-first_misfit.field-0 (IsFitting (unit_view c.args.unit.now) (builtins_view c.args.builtins.now)) c.in-None.is c.in_ok-first_misfit.ensures.none
