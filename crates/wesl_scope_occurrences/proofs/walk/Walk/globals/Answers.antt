use Rattle.std.proofs.Common.{◌<◌, ◌≤◌, arith, length}
use Rattle.wesl_scope_occurrences.specs.Views.{here_view}
use Rattle.wesl_scope_occurrences.proofs.Steps.{all_begun, lawful, next_begun, none_begun}
use Rattle.wesl_scope_occurrences.proofs.walk.Walk.globals.Goals as goal

pub loop-i-init : goal.loop-i-init
loop-i-init g c =
    let l = lawful g.met.H.Handler.none g.met.H.Handler.more in
    none_begun l (here_view c.args.here.now)

pub loop-i-preserved : goal.loop-i-preserved
loop-i-preserved g c =
    let l = lawful g.met.H.Handler.none g.met.H.Handler.more in
    let xs = c.args.declarations.now.items in
    let bound : c.loop-i.i < length xs = omega (arith, c.loop-i-test.true, c.len-i-end.ensures, c.args.declarations.now.ok.0) in
    next_begun l (here_view c.args.here.now) c.index.result.now bound c.index.ensures c.loop-i.invariant c.numbered.ensures

pub returns : goal.returns
returns g c =
    let done : length c.args.declarations.now.items ≤ c.loop-i.i = omega (arith, c.loop-i-test.false, c.len-i-end.ensures, c.args.declarations.now.ok.0) in
    all_begun (here_view c.args.here.now) c.args.declarations.now done c.loop-i.invariant
