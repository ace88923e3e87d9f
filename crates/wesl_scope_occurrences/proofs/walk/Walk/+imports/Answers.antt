use Rattle.std.proofs.Common.{refl, ap, sym, ◌∙◌}
use Rattle.wesl_tree_syntax.specs.View.{content_view, entry_view}
use Rattle.wesl_scope_occurrences.specs.Views.{here_view}
use Rattle.wesl_scope_occurrences.proofs.Steps.{all_passed, at, begun, gone_on, inside, lawful, next, none, over}
use Rattle.wesl_scope_occurrences.proofs.walk.Walk.+imports.Goals as goal
use Rattle.wesl_tree_syntax.proofs.Views.{view_collection, view_entry, view_item}

pub entries-loop-entry-init : goal.entries-loop-entry-init
entries-loop-entry-init g t c =
    let l = lawful g.met.H.Handler.none g.met.H.Handler.more in
    begun l entry_view (here_view c.args.here.now)

pub entries-loop-entry-preserved : goal.entries-loop-entry-preserved
entries-loop-entry-preserved g t c =
    let l = lawful g.met.H.Handler.none g.met.H.Handler.more in
    gone_on l entry_view (here_view c.args.here.now) c.entry-item.result c.loop-entry-test.true c.entry-item.is c.loop-entry.invariant (inside (here_view c.args.here.now) c.content.ensures (view_entry c.entry-item.result) refl)

pub entries-returns : goal.entries-returns
entries-returns g t c = all_passed entry_view (here_view c.args.here.now) c.loop-entry-test.false c.deref-entry-items.ensures.value refl c.loop-entry.invariant

pub content-returns-in-Item : goal.content-returns-in-Item
content-returns-in-Item g t c =
    at content_view (sym c.in-Item.is) (at (λ z. z) (sym (view_item c.in-Item.item)) c.item.ensures)

pub content-returns-in-Collection : goal.content-returns-in-Collection
content-returns-in-Collection g t c =
    let l = lawful g.met.H.Handler.none g.met.H.Handler.more in
    over (here_view c.args.here.now) (next l (none l c.args.self.now) c.entries.ensures) (ap content_view c.in-Collection.is ∙ view_collection c.in-Collection.entries) refl
