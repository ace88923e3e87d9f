use Rattle.std.proofs.Common.{◌≡◌, ◌∙◌, sym, arith, false, List, Some, get_or}
use Rattle.std.specs.Prelude.{slice_get}
use Rattle.wesl_cond_choices.specs.declared.place.Place.TheVariants.{Always}
use Rattle.wesl_tree_base.specs.declared.ids.NameId.{NameId}
use Rattle.wesl_link_symbols.specs.declared.ids.PathId.{PathId}
use Rattle.wesl_link_split.specs.SightView.{sight_view}
use Rattle.wesl_link_split.specs.Split.{Binder}
use Rattle.wesl_link_split.proofs.Grouping.{get_below, held_at}
use Rattle.wesl_link_split.proofs.Leads.{before_start, before_next, first_is, first_none}
use Rattle.wesl_link_split.proofs.Orders.{itself}
use Rattle.wesl_link_split.proofs.sight.Sight.first_seen.Goals as goal

-- what stands where a list has nothing
abbrev any_binder : Binder PathId NameId
any_binder = record { bound = record { 0 = 0 }; path = record { 0 = 0 }; item = record { 0 = 0 }; declares = false; stands = Always }

pub binders-init : goal.binders-init
binders-init c =
    before_start (sight_view c.args.self.now) c.args.name c.args.from c.args.is_import c.group-group.result.now c.is_split-is_split.result c.group-group.ensures c.is_split-is_split.ensures
    c.next-i.result (c.next-i.ensures.unseen c.args.name c.unions-unions.ensures)

pub binders-preserved : goal.binders-preserved
binders-preserved c =
    let bs : List (Binder PathId NameId) = c.group-group.result.now in
    let b : Binder PathId NameId = get_or bs c.binders.i any_binder in
    let at : slice_get bs c.binders.i ≡ Some b = held_at bs c.binders.i b c.binders-test.true (itself bs c.binders.i any_binder c.binders-test.true) in
    before_next (sight_view c.args.self.now) c.args.name c.args.from c.args.is_import bs c.is_split-is_split.result c.group-group.ensures c.is_split-is_split.ensures
    c.binders.i c.next-i-in-binders.result b c.binders.invariant at (sym c.counts.ensures ∙ c.if-counts.false) (c.next-i-in-binders.ensures.unseen c.args.name c.unions-unions.ensures)

pub returns-then-counts : goal.returns-then-counts
returns-then-counts c =
    let bs : List (Binder PathId NameId) = c.group-group.result.now in
    let b : Binder PathId NameId = get_or bs c.binders.i any_binder in
    let at : slice_get bs c.binders.i ≡ Some b = held_at bs c.binders.i b c.binders-test.true (itself bs c.binders.i any_binder c.binders-test.true) in
    first_is (sight_view c.args.self.now) c.args.name c.args.from c.args.is_import bs c.is_split-is_split.result c.group-group.ensures c.is_split-is_split.ensures
    c.binders.i b c.binders.invariant at (sym c.counts.ensures ∙ c.if-counts.true)

pub returns : goal.returns
returns c =
    let bs : List (Binder PathId NameId) = c.group-group.result.now in
    first_none (sight_view c.args.self.now) c.args.name c.args.from c.args.is_import bs c.is_split-is_split.result c.group-group.ensures c.is_split-is_split.ensures
    (λ k b at. c.binders.invariant k b (omega (arith, get_below bs k b at, c.binders-test.false)) at)
