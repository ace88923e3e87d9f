use Rattle.std.proofs.Common.{◌∙◌, map, ap}
use Rattle.wesl_tree.specs.Translation.{unit_view}
use Rattle.wesl_scope_graph.specs.Graphs.{graph_view}
use Rattle.wesl_scope_occurrences.specs.Views.{occurrence_view}
use Rattle.wesl_scope_occurrences.specs.Ways.{way}
use Rattle.wesl_validate_faults.specs.Listed.{each_once}
use Rattle.wesl_validate_faults.proofs.Listing.{misfits_are}
use Rattle.wesl_validate_faults.proofs.calls.call_findings.Goals as goal

pub returns-clause-calls : goal.returns-clause-calls
returns-clause-calls c =
    let found = c.args.found.now in
    let ms = c.in_ok-misses.misses.items in
    record {
      misfits = ms;
      are_misfits = c.in_ok-misses.ensures.misfits;
      listed = c.in_ok-each_once.ensures
          ∙ ap each_once (c.in_ok-findings.ensures
          ∙ misfits_are (unit_view c.args.unit.now) (way found.outer.items) (map occurrence_view found.all.items) c.requires.known c.names.result.now (graph_view c.in_ok-holders.holders.items) c.names.ensures.names c.in_ok-holders.ensures ms);
    }
