use Rattle.std.proofs.Common.{◌∙◌, sym, ap, map, Some}
use Rattle.std.specs.Option.{option_map}
use Rattle.wesl_tree_syntax.specs.Unit.{name_in}
use Rattle.wesl_scope_occurrences.specs.Views.{occurrence_view}
use Rattle.wesl_scope_occurrences.specs.Walk.{Found}
use Rattle.wesl_scope_occurrences.specs.Ways.{way}
use Rattle.wesl_validate_rules.specs.Faults.{name_round}
use Rattle.wesl_validate_calls.proofs.Telling.{round_is}
use Rattle.wesl_validate_calls.proofs.told.name_round.Goals as goal

pub returns-in-None : goal.returns-in-None
returns-in-None c = λ u n.
    let found = c.args.found.now in
    let names = c.args.names.now in
    sym (ap (name_round u) c.in-Some.is
    ∙ (round_is u names (way found.outer.items) (map occurrence_view found.all.items) n.same_identifiers n.same_names c.in-Some.declaration
    ∙ ap (option_map (λ (o : Found). name_in names o.name)) (sym c.in-None.ensures)))

pub returns-in_ok-name_of-in-Some-declared : goal.returns-in_ok-name_of-in-Some-declared
returns-in_ok-name_of-in-Some-declared c = λ u n.
    let found = c.args.found.now in
    let names = c.args.names.now in
    ap Some c.in_ok-name_of-in-Some-declared.ensures
    ∙ sym (ap (name_round u) c.in-Some.is
    ∙ (round_is u names (way found.outer.items) (map occurrence_view found.all.items) n.same_identifiers n.same_names c.in-Some.declaration
    ∙ ap (option_map (λ (o : Found). name_in names o.name)) (sym c.in-Some-declared.ensures)))
