use Rattle.std.proofs.Common.{◌≡◌, ◌++◌, ◌<◌, ◌≤◌, length, get_or, map, take, take_all, ap, sym, subst, ◌∙◌}
use Rattle.std.specs.Prelude.{flat_map}
use Rattle.wesl_scope_graph.specs.Graphs.{graph_view}
use Rattle.wesl_scope_occurrences.specs.Views.{occurrence_view}
use Rattle.wesl_scope_occurrences.specs.Walk.{Found}
use Rattle.wesl_scope_occurrences.specs.Ways.{way}
use Rattle.wesl_validate_builtins.specs.Builtins.{builtins_view}
use Rattle.wesl_validate_rules.proofs.Finding.{all_mapped}
use Rattle.wesl_validate_rules.proofs.Stepping.{joined_next}
use Rattle.wesl_validate_faults.specs.Gathered.{findings_view, undefined_here}
use Rattle.wesl_validate_faults.proofs.Listing.{added_next, undefineds_are}
use Rattle.wesl_validate_faults.proofs.undefined.add_undefineds.Goals as goal

pub loop-occurrence-preserved : goal.loop-occurrence-preserved
loop-occurrence-preserved c =
    let found = c.args.found.now.all.items in
    let i = c.loop-occurrence.occurrence-index in
    let same : c.deref-occurrence-items.result.now ≡ found = c.deref-occurrence-items.ensures.value in
    let inside : i < length found = subst (λ xs. i < length xs) same c.loop-occurrence-test.true in
    let item = c.occurrence-item.result in
    let is : item ≡ get_or found i item = c.occurrence-item.is ∙ ap (λ xs. get_or xs i item) same in
    let here = undefined_here c.args.names.now c.in_ok-known.known.items (graph_view c.in_ok-holders.holders.items) in
    added_next (findings_view c.args.findings.now.items) (findings_view c.loop-occurrence.findings.items) (findings_view c.add_undefined.new.findings.items) (flat_map here (map occurrence_view (take i found))) (here (occurrence_view item)) _
    c.in_ok-add_undefined.ensures c.loop-occurrence.invariant (joined_next occurrence_view here found i item inside is)

pub returns : goal.returns
returns c =
    let found = c.args.found.now in
    let all = found.all.items in
    let names = c.args.names.now in
    let b = builtins_view c.args.builtins.now in
    let i = c.loop-occurrence.occurrence-index in
    let past : length all ≤ i = subst (λ xs. length xs ≤ i) c.deref-occurrence-items.ensures.value c.loop-occurrence-test.false in
    let here = undefined_here names c.in_ok-known.known.items (graph_view c.in_ok-holders.holders.items) in
    λ u n.
    c.loop-occurrence.invariant
    ∙ ap (λ fs. findings_view c.args.findings.now.items ++ fs)
    (ap (λ ys. flat_map here (map occurrence_view ys)) (take_all i all past)
    ∙ sym (undefineds_are u (way found.outer.items) (map occurrence_view all) n.same_identifiers b names c.in_ok-known.known.items (graph_view c.in_ok-holders.holders.items) n.same_names
    (all_mapped occurrence_view (λ (o : Found). o.name < length names) all c.requires) c.in_ok-known.ensures c.in_ok-holders.ensures))
