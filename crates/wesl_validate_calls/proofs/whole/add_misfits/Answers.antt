use Rattle.std.proofs.Common.{◌≤◌, ◌<◌, length, map, sym, subst, arith}
use Rattle.std.proofs.lemmas.List.{take_all}
use Rattle.wesl_tree.specs.Translation.{unit_view}
use Rattle.wesl_validate_builtins.specs.Builtins.{builtins_view}
use Rattle.wesl_validate_calls.specs.Made.{call_told}
use Rattle.wesl_validate_calls.specs.Verdicts.{AddsMisfits, numbered}
use Rattle.wesl_validate_calls.proofs.Adding.{adds_none, adds_one, call_next}
use Rattle.wesl_validate_calls.proofs.whole.add_misfits.Goals as goal

pub loop-place-init : goal.loop-place-init
loop-place-init c = adds_none (unit_view c.args.unit.now) (builtins_view c.args.callables.now.builtins.now) c.args.misfits.now.items

pub loop-place-preserved : goal.loop-place-preserved
loop-place-preserved c =
    let u = unit_view c.args.unit.now in
    let b = builtins_view c.args.callables.now.builtins.now in
    let xs = c.args.calls.now.items in
    let i = c.loop-place.place in
    let j = c.args.declaration in
    let call = c.call_at-call.result in
    let inside : i < length xs = omega (arith, c.loop-place-test.true, c.len-place-end.ensures) in
    subst (λ cs. AddsMisfits u b cs c.args.misfits.now.items c.add.new.misfits.items) (sym (call_next j xs i call inside c.call_at-call.ensures))
    (adds_one u b _ j (call_told call) c.verdict-misfit.result c.args.misfits.now.items c.loop-place.misfits.items c.add.new.misfits.items c.loop-place.invariant c.verdict-misfit.ensures c.in_ok-add.ensures)

pub returns : goal.returns
returns c =
    let xs = c.args.calls.now.items in
    let over : length xs ≤ c.loop-place.place = omega (arith, c.loop-place-test.false, c.len-place-end.ensures) in
    subst
    (λ ys. AddsMisfits (unit_view c.args.unit.now) (builtins_view c.args.callables.now.builtins.now) (numbered c.args.declaration (map call_told ys)) c.args.misfits.now.items c.loop-place.misfits.items)
    (take_all c.loop-place.place xs over) c.loop-place.invariant
