use Rattle.std.proofs.Common.{refl}
use Rattle.wesl_tree_syntax.specs.Tree.{import_node}
use Rattle.wesl_tree_syntax.specs.View.{import_view, placed}
use Rattle.wesl_scope_occurrences.specs.Views.{here_view}
use Rattle.wesl_scope_occurrences.proofs.Steps.{all_passed, begun, gone_on, lawful, inside}
use Rattle.wesl_scope_occurrences.proofs.walk.Walk.imports.Goals as goal

pub loop-import-init : goal.loop-import-init
loop-import-init g c =
    let l = lawful g.met.H.Handler.none g.met.H.Handler.more in
    begun l (placed import_view import_node) (here_view c.args.here.now)

pub loop-import-preserved : goal.loop-import-preserved
loop-import-preserved g c =
    let l = lawful g.met.H.Handler.none g.met.H.Handler.more in
    gone_on l (placed import_view import_node) (here_view c.args.here.now) c.import-item.result c.loop-import-test.true c.import-item.is c.loop-import.invariant (inside (here_view c.args.here.now) c.import.ensures refl refl)

pub returns : goal.returns
returns g c = all_passed (placed import_view import_node) (here_view c.args.here.now) c.loop-import-test.false c.deref-import-items.ensures.value refl c.loop-import.invariant
