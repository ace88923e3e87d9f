use Rattle.std.proofs.Common.{ap, map}
use Rattle.wesl_validate_calls.specs.Made.{call_told}
use Rattle.wesl_validate_calls.proofs.Gathering.{all_gathered}
use Rattle.wesl_validate_calls.proofs.calls.calls_of.Goals as goal

pub returns-clause-calls : goal.returns-clause-calls
returns-clause-calls c =
    all_gathered c.args.declaration.now _ _ (map call_told c.new-calls.result.items) (map call_told c.add_expressions.new.calls.items) (map call_told c.add_statements.new.calls.items)
    (ap (map call_told) c.new-calls.ensures.items) c.in_ok-expressions.ensures.listed c.in_ok-statements.ensures.listed c.in_ok-add_expressions.ensures c.in_ok-add_statements.ensures
