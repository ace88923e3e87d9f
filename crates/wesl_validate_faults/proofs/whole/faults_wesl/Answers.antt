use Rattle.wesl_tree.specs.Translation.{unit_view}
use Rattle.wesl_validate_builtins.specs.Builtins.{builtins_view}
use Rattle.wesl_validate_faults.specs.Gathered.{findings_view}
use Rattle.wesl_validate_faults.proofs.Standing.{none_is_valid}
use Rattle.wesl_validate_faults.proofs.Telling.{none_each}
use Rattle.wesl_validate_faults.proofs.whole.faults_wesl.Goals as goal

pub returns-clause-told : goal.returns-clause-told
returns-clause-told c = record { findings = findings_view c.in_ok-findings.findings.items; are_all = c.in_ok-findings.ensures; each = c.in_ok-told.ensures }

pub returns-clause-none : goal.returns-clause-none
returns-clause-none c =
    let fs = findings_view c.in_ok-findings.findings.items in
    let told = none_each fs c.in_ok-told.told.items c.in_ok-told.ensures in
    let valid = none_is_valid (unit_view c.args.unit.now) (builtins_view c.args.builtins.now) fs c.in_ok-findings.ensures in
    (λ e. valid.0 (told.0 e), λ v. told.1 (valid.1 v))
