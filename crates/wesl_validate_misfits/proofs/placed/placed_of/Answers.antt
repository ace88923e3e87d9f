use Rattle.std.proofs.Common.{◌≡◌, ◌<◌, ◌≤◌, ℕ, length, get_or, take_all, ap, subst}
use Rattle.wesl_tree.specs.Translation.{unit_view}
use Rattle.wesl_validate_builtins.specs.Builtins.{builtins_view}
use Rattle.wesl_validate_rules.specs.Calls.{CallOf}
use Rattle.wesl_validate_calls.specs.Made.{call_told}
use Rattle.wesl_validate_calls.specs.Verdicts.{IsVerdict}
use Rattle.wesl_validate_calls.specs.declared.calls.Call.{Call}
use Rattle.wesl_validate_misfits.specs.Placed.{ArePlacedAmong, calls_view}
use Rattle.wesl_validate_misfits.proofs.Gathered.{next_call}
use Rattle.wesl_validate_misfits.proofs.placed.placed_of.Goals as goal

-- what the list is read by past its end
abbrev none : ℕ × Call
none = (0, record { callee = 0; arguments = 0 })

-- a call with its declaration, as the code keeps it
abbrev entry : ℕ × Call → ℕ × CallOf ℕ
entry x = (x.0, call_told x.1)

pub loop-entry-preserved : goal.loop-entry-preserved
loop-entry-preserved c =
    let u = unit_view c.args.unit.now in
    let b = builtins_view c.args.callables.now.builtins.now in
    let all = c.args.calls.now.items in
    let i = c.loop-entry.entry-index in
    let same : c.deref-entry-items.result.now ≡ all = c.deref-entry-items.ensures.value in
    let inside : i < length all = subst (λ xs. i < length xs) same c.loop-entry-test.true in
    next_call u b c.args.numbers.now.items all i none (entry (get_or c.deref-entry-items.result.now i none)) c.verdict-misfit.result c.loop-entry.misfits.items c.add_placed.new.misfits.items inside
    (ap (λ xs. entry (get_or xs i none)) same) c.loop-entry.invariant
    (subst (λ k. IsVerdict u b k c.verdict-misfit.result) c.call_there.ensures c.verdict-misfit.ensures) c.in_ok-add_placed.ensures

pub returns : goal.returns
returns c =
    let all = c.args.calls.now.items in
    let i = c.loop-entry.entry-index in
    let past : length all ≤ i = subst (λ xs. length xs ≤ i) c.deref-entry-items.ensures.value c.loop-entry-test.false in
    subst (λ xs. ArePlacedAmong (unit_view c.args.unit.now) (builtins_view c.args.callables.now.builtins.now) c.args.numbers.now.items (calls_view xs) c.loop-entry.misfits.items) (take_all i all past) c.loop-entry.invariant
