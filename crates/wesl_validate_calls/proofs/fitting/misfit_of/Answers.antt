use Rattle.std.proofs.Common.{◌<◌, ◌≤◌, length, subst, arith}
use Rattle.std.specs.Prelude.{IfSome, IfNone}
use Rattle.std.specs.List.{All}
use Rattle.wesl_tree_syntax.specs.Tree.{before, end}
use Rattle.wesl_tree_syntax.specs.View.{global_view}
use Rattle.wesl_tree.specs.Translation.{unit_view}
use Rattle.wesl_validate_builtins.specs.Builtins.{builtins_view}
use Rattle.wesl_validate_rules.specs.Calls.{calls_in}
use Rattle.wesl_validate_calls.specs.Misfits.{MissesAmong, Passes}
use Rattle.wesl_validate_calls.proofs.Gathering.{misses_in, pass_next, all_pass}
use Rattle.wesl_validate_calls.proofs.fitting.misfit_of.Goals as goal

pub returns-in-Some-clause-misfit : goal.returns-in-Some-clause-misfit
returns-in-Some-clause-misfit c =
    let u = unit_view c.args.unit.now in
    let b = builtins_view c.args.callables.now.builtins.now in
    let v = c.global_declarations-declarations.result.now in
    let d = c.index-declaration.result.now in
    let inside : c.loop-j.j < length v.items = omega (arith, c.loop-j-test.true, c.len-j-end.ensures) in
    misses_in u b v c.global_declarations-declarations.ensures.declarations c.loop-j.j d c.in-Some.misfit inside c.index-declaration.ensures
    (subst (λ r. IfSome r (MissesAmong u b (calls_in (before (global_view d.node) end)))) c.in-Some.is c.in_ok-misfit.ensures.misfit)

pub loop-j-preserved : goal.loop-j-preserved
loop-j-preserved c =
    let u = unit_view c.args.unit.now in
    let b = builtins_view c.args.callables.now.builtins.now in
    let v = c.global_declarations-declarations.result.now in
    let d = c.index-declaration.result.now in
    let inside : c.loop-j.j < length v.items = omega (arith, c.loop-j-test.true, c.len-j-end.ensures) in
    pass_next u b v c.global_declarations-declarations.ensures.declarations c.loop-j.j d inside c.index-declaration.ensures c.loop-j.invariant
    (subst (λ r. IfNone r (All (Passes u b) (calls_in (before (global_view d.node) end)))) c.in-None.is c.in_ok-misfit.ensures.none)

pub returns-clause-none : goal.returns-clause-none
returns-clause-none c =
    let v = c.global_declarations-declarations.result.now in
    let over : length v.items ≤ c.loop-j.j = omega (arith, c.loop-j-test.false, c.len-j-end.ensures) in
    all_pass (unit_view c.args.unit.now) (builtins_view c.args.callables.now.builtins.now) v c.global_declarations-declarations.ensures.declarations c.loop-j.j over c.loop-j.invariant
