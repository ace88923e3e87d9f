use Rattle.std.proofs.Common.{sym, map, length, ◌<◌}
use Rattle.wesl_scope_occurrences.specs.Views.{occurrence_view}
use Rattle.wesl_scope_occurrences.specs.Walk.{Found}
use Rattle.wesl_scope_occurrences.specs.Ways.{way}
use Rattle.wesl_validate_builtins.specs.Builtins.{builtins_view}
use Rattle.wesl_validate_rules.proofs.Finding.{none_undefined, one_undefined, all_mapped}
use Rattle.wesl_validate_rules.proofs.unknown.undefined.Goals as goal

pub returns-in-None-clause-none : goal.returns-in-None-clause-none
returns-in-None-clause-none c = λ u n.
    let found = c.args.found.now in
    none_undefined u (builtins_view c.args.builtins.now) c.args.names.now (way found.outer.items) (map occurrence_view found.all.items) c.in_ok-known.known.items n.same_identifiers n.same_names
    (all_mapped occurrence_view (λ (o : Found). o.name < length c.args.names.now) found.all.items c.requires.within) c.in_ok-known.ensures (sym c.in-None.ensures)

pub returns-clause-undefined : goal.returns-clause-undefined
returns-clause-undefined c = λ u n.
    let found = c.args.found.now in
    one_undefined u (builtins_view c.args.builtins.now) c.args.names.now (way found.outer.items) (map occurrence_view found.all.items) c.in_ok-known.known.items n.same_identifiers n.same_names
    (all_mapped occurrence_view (λ (o : Found). o.name < length c.args.names.now) found.all.items c.requires.within) c.in_ok-known.ensures (occurrence_view c.in-Some.occurrence.now) (sym c.in-Some.ensures)
