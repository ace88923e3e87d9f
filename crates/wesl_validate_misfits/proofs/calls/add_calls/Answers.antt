use Rattle.std.proofs.Common.{◌≡◌, ◌∙◌, ◌++◌, ◌∷◌, [], ◌<◌, ◌≤◌, length, get_or, map, take_all, ap, sym, subst, append-nil}
use Rattle.wesl_validate_calls.specs.Made.{call_told}
use Rattle.wesl_validate_calls.specs.Verdicts.{numbered}
use Rattle.wesl_validate_calls.specs.declared.calls.Call.{Call}
use Rattle.wesl_validate_misfits.specs.Placed.{calls_view}
use Rattle.wesl_validate_misfits.proofs.Gathered.{more_calls}
use Rattle.wesl_validate_misfits.proofs.calls.add_calls.Goals as goal

-- what the list is read by past its end
abbrev none : Call
none = record { callee = 0; arguments = 0 }

pub loop-call-init : goal.loop-call-init
loop-call-init c = sym (append-nil (calls_view c.args.calls.now.items))

pub loop-call-preserved : goal.loop-call-preserved
loop-call-preserved c =
    let all = c.args.found.now.items in
    let i = c.loop-call.call-index in
    let same : c.deref-call-items.result.now ≡ all = c.deref-call-items.ensures.value in
    let inside : i < length all = subst (λ xs. i < length xs) same c.loop-call-test.true in
    ap calls_view (c.in_ok-push.ensures.items ∙ ap (λ xs. c.loop-call.calls.items ++ (c.args.declaration, get_or xs i none) ∷ []) same)
    ∙ more_calls c.args.declaration all i none c.args.calls.now.items c.loop-call.calls.items inside c.loop-call.invariant

pub returns : goal.returns
returns c =
    let all = c.args.found.now.items in
    let i = c.loop-call.call-index in
    let past : length all ≤ i = subst (λ xs. length xs ≤ i) c.deref-call-items.ensures.value c.loop-call-test.false in
    c.loop-call.invariant ∙ ap (λ xs. calls_view c.args.calls.now.items ++ numbered c.args.declaration (map call_told xs)) (take_all i all past)
