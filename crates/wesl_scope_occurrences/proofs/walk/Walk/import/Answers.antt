use Rattle.std.proofs.Common.{refl}
use Rattle.wesl_scope_occurrences.specs.Views.{here_view}
use Rattle.wesl_tree_syntax.specs.View.{content_view}
use Rattle.wesl_scope_occurrences.proofs.Nodes.{import_joined}
use Rattle.wesl_scope_occurrences.proofs.Steps.{begin, lawful, next, none, over}
use Rattle.wesl_scope_occurrences.proofs.walk.Walk.import.Goals as goal

pub returns : goal.returns
returns g c =
    let l = lawful g.met.H.Handler.none g.met.H.Handler.more in
    let i = c.args.import.now in
    over (here_view c.args.here.now) (next l (next l (none l c.args.self.now) c.attributes.ensures) c.content.ensures) refl
    (import_joined (here_view c.args.here.now) (here_view c.in_words-here.result) (begin c.args.self.now) i.attributes i.path (content_view i.content) c.in_words-here.ensures)
