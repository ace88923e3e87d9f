use Rattle.std.proofs.Common.{refl}
use Rattle.wesl_tree_syntax.specs.Tree.{member_node}
use Rattle.wesl_tree_syntax.specs.View.{member_view, placed}
use Rattle.wesl_scope_occurrences.specs.Views.{here_view}
use Rattle.wesl_scope_occurrences.proofs.Steps.{all_passed, begun, gone_on, lawful, inside}
use Rattle.wesl_scope_occurrences.proofs.walk.Walk.members.Goals as goal

pub loop-member-init : goal.loop-member-init
loop-member-init g c =
    let l = lawful g.met.H.Handler.none g.met.H.Handler.more in
    begun l (placed member_view member_node) (here_view c.args.here.now)

pub loop-member-preserved : goal.loop-member-preserved
loop-member-preserved g c =
    let l = lawful g.met.H.Handler.none g.met.H.Handler.more in
    gone_on l (placed member_view member_node) (here_view c.args.here.now) c.member-item.result c.loop-member-test.true c.member-item.is c.loop-member.invariant (inside (here_view c.args.here.now) c.member.ensures refl refl)

pub returns : goal.returns
returns g c = all_passed (placed member_view member_node) (here_view c.args.here.now) c.loop-member-test.false c.deref-member-items.ensures.value refl c.loop-member.invariant
