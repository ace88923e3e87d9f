use Rattle.std.proofs.Common.{refl}
use Rattle.wesl_tree_syntax.specs.View.{entry_view}
use Rattle.wesl_cond_alive.specs.Walk.{leaf}
use Rattle.wesl_cond_alive.specs.Views.{spot_view}
use Rattle.wesl_cond_alive.proofs.Nodes.{stepped}
use Rattle.wesl_cond_alive.proofs.Steps.{all_passed, begun, gone_on, inside_of}
use Rattle.wesl_cond_alive.proofs.walk.Walk.+imports.Goals as goal
use Rattle.wesl_tree_syntax.proofs.Views.{view_entry}

pub entries-loop-entry-init : goal.entries-loop-entry-init
entries-loop-entry-init t c = begun entry_view (spot_view c.args.here.now)

pub entries-loop-entry-preserved : goal.entries-loop-entry-preserved
entries-loop-entry-preserved t c = gone_on entry_view (spot_view c.args.here.now) c.entry-item.result c.loop-entry-test.true c.entry-item.is c.loop-entry.invariant refl
    (stepped (inside_of {outer = leaf} (spot_view c.args.here.now) c.content.ensures (view_entry c.entry-item.result) refl) refl)

pub entries-returns : goal.entries-returns
entries-returns t c = all_passed entry_view (spot_view c.args.here.now) c.loop-entry-test.false c.deref-entry-items.ensures.value refl c.loop-entry.invariant
