use Rattle.std.proofs.Common.{◌≡◌, ◌++◌, [], map, drop}
use Rattle.wesl_tree_base.specs.Borrowed.{texts}
use Rattle.wesl_tree_syntax.specs.Unit.{name_in}
use Rattle.wesl_validate_faults.specs.Findings.{duplicate}
use Rattle.wesl_validate_faults.specs.Gathered.{findings_view}
use Rattle.wesl_validate_faults.specs.Listed.{repeated_after}
use Rattle.wesl_validate_faults.proofs.duplicates.add_all_repeated.Given as goal

abbrev pub invariant-loop-number : goal.invariant-loop-number
invariant-loop-number l =
    findings_view l.findings.items ++ map duplicate (repeated_after (texts l.seen.keys) (map (name_in l.names) (drop l.number-index l.numbers.items)))
    ≡ findings_view l.initial.findings.items ++ map duplicate (repeated_after [] (map (name_in l.names) l.numbers.items))
