use Rattle.std.proofs.Common.{◌++◌, ◌∙◌, map, get_or, refl, ap, arith}
use Rattle.std.specs.Option.{option_to_list}
use Rattle.wesl_scope_occurrences.specs.Views.{occurrence_view}
use Rattle.wesl_scope_strip.specs.Marks.{mark_at}
use Rattle.wesl_scope_clashes.specs.Clashes.{clash_view}
use Rattle.wesl_scope_clashes.specs.Sightings.{groups_view, first_in}
use Rattle.wesl_scope_clashes.proofs.Steps.{next_told, all_clashes}
use Rattle.wesl_scope_clashes.proofs.whole.clashes_by_tables.Goals as goal

pub loop-i-preserved : goal.loop-i-preserved
loop-i-preserved c =
    next_told occurrence_view c.args.means.now c.args.all.now (first_in (groups_view c.args.visible.now.of.items)) (first_in (groups_view c.args.globals.now.of.items)) (mark_at c.args.bound.now) c.args.names.now c.loop-i.i (get_or c.args.means.now c.loop-i.i 0) c.index-all-i.result
    (map clash_view c.loop-i.clashes.items) (map clash_view c.keep.new.clashes.items) _ (omega (arith, c.requires.same_length, c.loop-i-test.true)) c.loop-i-test.true refl c.index-all-i.is
    (c.in_ok-keep.ensures ∙ ap (λ o. map clash_view c.loop-i.clashes.items ++ option_to_list o) c.clash-found.ensures) c.loop-i.invariant

pub returns : goal.returns
returns c =
    all_clashes occurrence_view c.args.means.now c.args.all.now (first_in (groups_view c.args.visible.now.of.items)) (first_in (groups_view c.args.globals.now.of.items)) (mark_at c.args.bound.now) c.args.names.now c.loop-i.i (map clash_view c.loop-i.clashes.items) _
    (omega (arith, c.requires.same_length, c.loop-i-test.false)) c.loop-i-test.false c.loop-i.invariant
