use Rattle.std.proofs.Common.{map}
use Rattle.wesl_tree.specs.Translation.{unit_view}
use Rattle.wesl_scope_occurrences.specs.Views.{occurrence_view}
use Rattle.wesl_scope_occurrences.specs.Ways.{way}
use Rattle.wesl_validate_calls.specs.Views.{tables_view}
use Rattle.wesl_validate_calls.proofs.Tabling.{are_tables}
use Rattle.wesl_validate_calls.proofs.tables.tables_of.Goals as goal

pub returns : goal.returns
returns c =
    are_tables (unit_view c.args.unit.now) (way c.args.found.now.outer.items) (map occurrence_view c.args.found.now.all.items) c.requires
    c.global_declarations.result.now c.global_declarations.ensures.declarations
    (tables_view (record { shapes = c.in_ok-shapes.shapes; declarers = c.in_ok-declarers.declarers; aliases = c.in_ok-aliases.aliases; bound = c.in_ok-bound.bound }))
    c.in_ok-shapes.ensures c.in_ok-declarers.ensures c.in_ok-aliases.ensures.edges c.in_ok-aliases.ensures.closed c.in_ok-bound.ensures
