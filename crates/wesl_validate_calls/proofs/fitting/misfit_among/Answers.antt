use Rattle.std.proofs.Common.{◌<◌, ◌≤◌, length, map, subst, arith}
use Rattle.std.specs.List.{All}
use Rattle.std.proofs.lemmas.List.{take_all}
use Rattle.wesl_tree.specs.Translation.{unit_view}
use Rattle.wesl_validate_builtins.specs.Builtins.{builtins_view}
use Rattle.wesl_validate_calls.specs.Made.{call_told}
use Rattle.wesl_validate_calls.specs.Misfits.{Passes}
use Rattle.wesl_validate_calls.specs.Verdicts.{IsVerdict}
use Rattle.wesl_validate_calls.proofs.Gathering.{among, passed_next}
use Rattle.wesl_validate_calls.proofs.fitting.misfit_among.Goals as goal

pub returns-in-Some-clause-misfit : goal.returns-in-Some-clause-misfit
returns-in-Some-clause-misfit c =
    let u = unit_view c.args.unit.now in
    let b = builtins_view c.args.callables.now.builtins.now in
    let xs = c.args.calls.now.items in
    let call = c.call_at-call.result in
    let inside : c.loop-place.place < length xs = omega (arith, c.loop-place-test.true, c.len-place-end.ensures) in
    let told = subst (IsVerdict u b (call_told call)) c.in-Some.is c.verdict.ensures in
    among u b xs c.loop-place.place call c.in-Some.misfit inside c.call_at-call.ensures told.0

pub loop-place-preserved : goal.loop-place-preserved
loop-place-preserved c =
    let u = unit_view c.args.unit.now in
    let b = builtins_view c.args.callables.now.builtins.now in
    let xs = c.args.calls.now.items in
    let call = c.call_at-call.result in
    let inside : c.loop-place.place < length xs = omega (arith, c.loop-place-test.true, c.len-place-end.ensures) in
    passed_next (Passes u b) xs c.loop-place.place call inside c.call_at-call.ensures c.loop-place.invariant
    (subst (IsVerdict u b (call_told call)) c.in-None.is c.verdict.ensures)

pub returns-clause-none : goal.returns-clause-none
returns-clause-none c =
    let xs = c.args.calls.now.items in
    let over : length xs ≤ c.loop-place.place = omega (arith, c.loop-place-test.false, c.len-place-end.ensures) in
    subst (λ ys. All (Passes (unit_view c.args.unit.now) (builtins_view c.args.callables.now.builtins.now)) (map call_told ys)) (take_all c.loop-place.place xs over) c.loop-place.invariant
