use Rattle.std.proofs.Common.{refl, ap}
use Rattle.wesl_scope_occurrences.specs.Views.{here_view}
use Rattle.wesl_scope_occurrences.proofs.Steps.{lawful, next, none, over}
use Rattle.wesl_tree_syntax.specs.View.{selector_view}
use Rattle.wesl_scope_occurrences.proofs.walk.Walk.selector.Goals as goal

pub returns-in-Default : goal.returns-in-Default
returns-in-Default g c =
    let l = lawful g.met.H.Handler.none g.met.H.Handler.more in
    over (here_view c.args.here.now) (none l c.args.self.now) (ap selector_view c.in-Default.is) refl

pub returns-in-Expression : goal.returns-in-Expression
returns-in-Expression g c =
    let l = lawful g.met.H.Handler.none g.met.H.Handler.more in
    over (here_view c.args.here.now) (next l (none l c.args.self.now) c.node.ensures) (ap selector_view c.in-Expression.is) refl
