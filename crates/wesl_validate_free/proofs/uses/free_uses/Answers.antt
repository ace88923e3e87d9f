use Rattle.std.proofs.Common.{◌≡◌, ◌∙◌, ◌<◌, length, map, ap, sym, subst}
use Rattle.std.specs.List.{All}
use Rattle.wesl_tree.specs.Translation.{unit_view}
use Rattle.wesl_scope_occurrences.specs.Views.{occurrence_view}
use Rattle.wesl_scope_occurrences.specs.Walk.{Found}
use Rattle.wesl_scope_occurrences.specs.Ways.{way}
use Rattle.wesl_validate_builtins.specs.Builtins.{builtins_view}
use Rattle.wesl_validate_rules.proofs.Finding.{all_mapped}
use Rattle.wesl_validate_free.specs.Gathered.{uses_view}
use Rattle.wesl_validate_free.specs.Uses.{free_uses}
use Rattle.wesl_validate_free.proofs.Used.{none_seen, uses_are}
use Rattle.wesl_validate_free.proofs.uses.free_uses.Goals as goal

pub returns-clause-told : goal.returns-clause-told
returns-clause-told c =
    let found = c.in_ok-found.found in
    let names = c.names-names.result.now in
    c.in_ok-uses.ensures
    ∙ uses_are (unit_view c.args.unit.now) (builtins_view c.args.builtins.now) names (way found.outer.items) (map occurrence_view found.all.items) c.in_ok-known.known.items c.in_ok-found.ensures.all c.names-names.ensures.names
    (all_mapped occurrence_view (λ (o : Found). o.name < length names) found.all.items (subst (λ ns. All (λ o. o.ident.0 < length ns) found.all.items) (sym c.names-names.ensures.names) c.in_ok-found.ensures.names))
    c.in_ok-known.ensures

pub returns-clause-none : goal.returns-clause-none
returns-clause-none c =
    let u = unit_view c.args.unit.now in
    let b = builtins_view c.args.builtins.now in
    let law = c.law_of_free_uses.ensures.none u b in
    let told : uses_view c.in_ok-uses.uses.items ≡ free_uses u b = returns-clause-told c in
    (λ e. law.0 (sym told ∙ ap uses_view e), λ d. none_seen c.in_ok-uses.uses.items (told ∙ law.1 d))
