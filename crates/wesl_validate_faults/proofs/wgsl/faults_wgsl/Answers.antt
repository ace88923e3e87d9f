use Rattle.std.proofs.Common.{◌∙◌, ap}
use Rattle.wesl_tree.specs.Translation.{unit_view}
use Rattle.wesl_validate_builtins.specs.Builtins.{builtins_view}
use Rattle.wesl_validate_faults.specs.Calls.{AreFindingsWgsl}
use Rattle.wesl_validate_faults.specs.Gathered.{findings_view}
use Rattle.wesl_validate_faults.proofs.Fitting.{none_is_valid_wgsl}
use Rattle.wesl_validate_faults.proofs.Collecting.{view_append}
use Rattle.wesl_validate_faults.proofs.Telling.{none_each}
use Rattle.wesl_validate_faults.proofs.wgsl.faults_wgsl.Goals as goal

pub returns-clause-told : goal.returns-clause-told
returns-clause-told c = record {
  findings = findings_view c.append.new.self.items;
  are_all = record {
    names = findings_view c.in_ok-findings.findings.items;
    calls = findings_view c.in_ok-calls.calls.items;
    are_names = c.in_ok-findings.ensures;
    are_calls = c.in_ok-calls.ensures.calls;
    listed = ap findings_view c.in_ok-append.ensures.items ∙ view_append c.in_ok-findings.findings.items c.in_ok-calls.calls.items;
  };
  each = c.in_ok-told.ensures;
}

pub returns-clause-none : goal.returns-clause-none
returns-clause-none c =
    let fs = findings_view c.append.new.self.items in
    let all : AreFindingsWgsl (unit_view c.args.unit.now) (builtins_view c.args.builtins.now) fs = record {
      names = findings_view c.in_ok-findings.findings.items;
      calls = findings_view c.in_ok-calls.calls.items;
      are_names = c.in_ok-findings.ensures;
      are_calls = c.in_ok-calls.ensures.calls;
      listed = ap findings_view c.in_ok-append.ensures.items ∙ view_append c.in_ok-findings.findings.items c.in_ok-calls.calls.items;
    } in
    let told = none_each fs c.in_ok-told.told.items c.in_ok-told.ensures in
    let valid = none_is_valid_wgsl (unit_view c.args.unit.now) (builtins_view c.args.builtins.now) fs all in
    (λ e. valid.0 (told.0 e), λ v. told.1 (valid.1 v))
