use Rattle.std.proofs.Common.{refl, ap}
use Rattle.wesl_scope_occurrences.specs.Views.{here_view}
use Rattle.wesl_scope_occurrences.proofs.Steps.{lawful, next, none, over}
use Rattle.wesl_tree_syntax.specs.View.{attribute_view}
use Rattle.wesl_scope_occurrences.proofs.walk.Walk.attribute.Goals as goal

pub returns-in-WorkgroupSize : goal.returns-in-WorkgroupSize
returns-in-WorkgroupSize g c =
    let l = lawful g.met.H.Handler.none g.met.H.Handler.more in
    over (here_view c.args.here.now) (next l (next l (next l (none l c.args.self.now) c.node.ensures) c.optional_node.ensures) c.optional_node-in-WorkgroupSize.ensures) (ap attribute_view c.in-WorkgroupSize.is) refl

pub returns-in-Custom : goal.returns-in-Custom
returns-in-Custom g c =
    let l = lawful g.met.H.Handler.none g.met.H.Handler.more in
    over (here_view c.args.here.now) (next l (none l c.args.self.now) c.optional_nodes.ensures) (ap attribute_view c.in-Custom.is) refl
