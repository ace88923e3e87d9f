use Rattle.std.proofs.Common.{◌≡◌, ◌∙◌, ap, refl, sym, subst, map}
use Rattle.wesl_tree_names.specs.Path.{path_view}
use Rattle.wesl_tree_syntax.specs.Unit.{trees_of}
use Rattle.wesl_tree.specs.Translation.{unit_view}
use Rattle.wesl_scope_occurrences.specs.Collected.{nothing, collected}
use Rattle.wesl_scope_occurrences.specs.Events.{events}
use Rattle.wesl_scope_occurrences.specs.Shown.{Collects}
use Rattle.wesl_scope_occurrences.specs.declared.collector.Collector.{Collector}
use Rattle.wesl_scope_occurrences.specs.Views.{occurrence_view}
use Rattle.wesl_scope_occurrences.proofs.Gathered.{all_gathered, blocks_gathered, nested_gathered, names_gathered}
use Rattle.wesl_scope_occurrences.proofs.Patching.{collected_paths}
use Rattle.wesl_scope_occurrences.proofs.Starting.{collected_starts}
use Rattle.wesl_scope_occurrences.proofs.beside.occurrences_beside.Goals as goal

pub returns-clause-all : goal.returns-clause-all
returns-clause-all g c =
    let v = unit_view c.args.unit.now in
    let u = trees_of v in
    let w = c.in_ok-walked.walked in
    let shown = (subst (λ (k : Collector). Collects (events u) c.new.result k) (sym c.into_parts-collector.ensures.collector) c.in_ok-walked.ensures.told.collects).shown c.if-collector.false nothing c.new.ensures in
    let found : map occurrence_view c.with_paths.result.items ≡ (collected nothing (events u)).found =
    c.with_paths.ensures (collected nothing (events u)).found shown.found (c.deref.ensures.value ∙ shown.qualified)
    (ap (map (λ p. path_view p.now)) c.deref-2.ensures.value ∙ (c.in_ok-walked.ensures.paths ∙ sym (collected_paths (events u) nothing))) in
    all_gathered v c.with_paths.result.items w.outer.items found c.in_ok-walked.ensures.outer

pub returns-clause-blocks : goal.returns-clause-blocks
returns-clause-blocks g c =
    let v = unit_view c.args.unit.now in
    let u = trees_of v in
    let w = c.in_ok-walked.walked in
    let shown = (subst (λ (k : Collector). Collects (events u) c.new.result k) (sym c.into_parts-collector.ensures.collector) c.in_ok-walked.ensures.told.collects).shown c.if-collector.false nothing c.new.ensures in
    let found : map occurrence_view c.with_paths.result.items ≡ (collected nothing (events u)).found =
    c.with_paths.ensures (collected nothing (events u)).found shown.found (c.deref.ensures.value ∙ shown.qualified)
    (ap (map (λ p. path_view p.now)) c.deref-2.ensures.value ∙ (c.in_ok-walked.ensures.paths ∙ sym (collected_paths (events u) nothing))) in
    blocks_gathered v c.with_paths.result.items w.outer.items found c.in_ok-walked.ensures.outer

pub returns-clause-nested : goal.returns-clause-nested
returns-clause-nested g c =
    let v = unit_view c.args.unit.now in
    let u = trees_of v in
    let w = c.in_ok-walked.walked in
    let shown = (subst (λ (k : Collector). Collects (events u) c.new.result k) (sym c.into_parts-collector.ensures.collector) c.in_ok-walked.ensures.told.collects).shown c.if-collector.false nothing c.new.ensures in
    let found : map occurrence_view c.with_paths.result.items ≡ (collected nothing (events u)).found =
    c.with_paths.ensures (collected nothing (events u)).found shown.found (c.deref.ensures.value ∙ shown.qualified)
    (ap (map (λ p. path_view p.now)) c.deref-2.ensures.value ∙ (c.in_ok-walked.ensures.paths ∙ sym (collected_paths (events u) nothing))) in
    nested_gathered v c.with_paths.result.items w.outer.items found c.in_ok-walked.ensures.outer

pub returns-clause-names : goal.returns-clause-names
returns-clause-names g c =
    let v = unit_view c.args.unit.now in
    let u = trees_of v in
    let w = c.in_ok-walked.walked in
    let shown = (subst (λ (k : Collector). Collects (events u) c.new.result k) (sym c.into_parts-collector.ensures.collector) c.in_ok-walked.ensures.told.collects).shown c.if-collector.false nothing c.new.ensures in
    let found : map occurrence_view c.with_paths.result.items ≡ (collected nothing (events u)).found =
    c.with_paths.ensures (collected nothing (events u)).found shown.found (c.deref.ensures.value ∙ shown.qualified)
    (ap (map (λ p. path_view p.now)) c.deref-2.ensures.value ∙ (c.in_ok-walked.ensures.paths ∙ sym (collected_paths (events u) nothing))) in
    names_gathered v c.with_paths.result.items w.outer.items found c.in_ok-walked.ensures.outer c.in_ok-walked.ensures.named

pub returns-clause-starts : goal.returns-clause-starts
returns-clause-starts g c =
    let u = trees_of (unit_view c.args.unit.now) in
    let shown = (subst (λ (k : Collector). Collects (events u) c.new.result k) (sym c.into_parts-collector.ensures.collector) c.in_ok-walked.ensures.told.collects).shown c.if-collector.false nothing c.new.ensures in
    shown.starts ∙ collected_starts u refl

pub returns-clause-told : goal.returns-clause-told
returns-clause-told g c =
    let u = trees_of (unit_view c.args.unit.now) in
    subst (λ h. g.H.Handler.after (events u) c.args.handler h) (sym c.into_parts-collector.ensures.other) c.in_ok-walked.ensures.told.told
