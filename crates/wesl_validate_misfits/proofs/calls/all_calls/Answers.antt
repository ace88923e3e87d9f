use Rattle.std.proofs.Common.{◌<◌, ◌≤◌, length, map, arith, ap}
use Rattle.wesl_tree.specs.Translation.{unit_view}
use Rattle.wesl_validate_calls.specs.Made.{call_told}
use Rattle.wesl_validate_misfits.specs.Placed.{calls_view}
use Rattle.wesl_validate_misfits.proofs.Gathered.{next_declaration, all_declarations}
use Rattle.wesl_validate_misfits.proofs.calls.all_calls.Goals as goal

pub loop-j-init : goal.loop-j-init
loop-j-init c = record { inside = omega arith; calls = ap calls_view c.new-calls.ensures.items }

pub loop-j-preserved : goal.loop-j-preserved
loop-j-preserved c =
    let v = c.global_declarations-declarations.result.now in
    let d = c.index.result.now in
    let inside : c.loop-j.j < length v.items = omega (arith, c.loop-j-test.true, c.len-j-end.ensures) in
    record {
      inside = omega (arith, inside);
      calls = next_declaration (unit_view c.args.unit.now) v c.global_declarations-declarations.ensures.declarations c.loop-j.j d (calls_view c.loop-j.calls.items) (calls_view c.add_calls.new.calls.items) (map call_told c.in_ok-found.found.items) inside c.index.ensures c.in_ok-found.ensures.calls c.loop-j.invariant.calls c.in_ok-add_calls.ensures;
    }

pub returns-clause-calls : goal.returns-clause-calls
returns-clause-calls c =
    let v = c.global_declarations-declarations.result.now in
    let over : length v.items ≤ c.loop-j.j = omega (arith, c.loop-j-test.false, c.len-j-end.ensures) in
    all_declarations (unit_view c.args.unit.now) v c.global_declarations-declarations.ensures.declarations c.loop-j.j (calls_view c.loop-j.calls.items) over c.loop-j.invariant.inside c.loop-j.invariant.calls
