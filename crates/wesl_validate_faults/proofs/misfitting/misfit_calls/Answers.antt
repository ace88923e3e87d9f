use Rattle.std.proofs.Common.{map, ap}
use Rattle.wesl_tree.specs.Translation.{unit_view}
use Rattle.wesl_scope_graph.specs.Graphs.{graph_view}
use Rattle.wesl_scope_numbers.proofs.Units.{leafy}
use Rattle.wesl_scope_occurrences.specs.Views.{occurrence_view}
use Rattle.wesl_scope_occurrences.specs.Ways.{way}
use Rattle.wesl_validate_builtins.specs.Builtins.{builtins_view}
use Rattle.wesl_validate_faults.specs.Gathered.{misfitting_view}
use Rattle.wesl_validate_faults.proofs.Listing.{misfit_is}
use Rattle.wesl_validate_faults.proofs.Misplaced.{are_misfitting, none_is_fitting, none_seen}
use Rattle.wesl_validate_faults.proofs.misfitting.misfit_calls.Goals as goal

pub returns-clause-told : goal.returns-clause-told
returns-clause-told c =
    let u = unit_view c.args.unit.now in
    let found = c.in_ok-found.found in
    let names = c.names.result.now in
    let holders = graph_view c.in_ok-holders.holders.items in
    are_misfitting u (unit_view c.in_ok-copy.copy) (builtins_view c.args.builtins.now) c.in_ok-given.given.items c.in_ok-misfits.misfits.items (misfitting_view c.in_ok-calls.calls.items) names holders
    c.in_ok-copy.ensures.placed (c.in_ok-given.ensures u c.in_ok-found.ensures.all) c.in_ok-misfits.ensures.misfits c.in_ok-calls.ensures
    (misfit_is u (way found.outer.items) (map occurrence_view found.all.items) c.in_ok-found.ensures.all names holders c.names.ensures.names c.in_ok-holders.ensures)

pub returns-clause-none : goal.returns-clause-none
returns-clause-none c =
    let law = none_is_fitting (unit_view c.args.unit.now) (builtins_view c.args.builtins.now) (leafy c.args.unit.now) (misfitting_view c.in_ok-calls.calls.items) (returns-clause-told c) in
    (λ e. law.0 (ap misfitting_view e), λ f. none_seen c.in_ok-calls.calls.items (law.1 f))
