use Rattle.std.proofs.Common.{◌≡◌, ◌∙◌, ap, refl, sym, subst, length, map}
use Rattle.wesl_tree_names.specs.Path.{path_view}
use Rattle.wesl_tree_syntax.specs.Unit.{forest_of_unit, trees_of}
use Rattle.wesl_tree.specs.Translation.{unit_view}
use Rattle.wesl_scope_occurrences.specs.Collected.{nothing, collected}
use Rattle.wesl_scope_occurrences.specs.Events.{events}
use Rattle.wesl_scope_occurrences.specs.Views.{occurrence_view}
use Rattle.wesl_scope_occurrences.specs.Walk.{walk, all_of, outermost, start}
use Rattle.wesl_scope_occurrences.specs.Ways.{AreNested, told, way}
use Rattle.wesl_scope_occurrences.proofs.Bounds.{NameBelow, names_below, names_there, module_node}
use Rattle.wesl_scope_occurrences.proofs.Joined.{Each, InBlocks, whole_joined, blocks_there}
use Rattle.wesl_scope_occurrences.proofs.Module.{module_state, state_with}
use Rattle.wesl_scope_occurrences.proofs.Patching.{collected_paths}
use Rattle.wesl_scope_occurrences.proofs.Starting.{collected_starts}
use Rattle.wesl_scope_occurrences.proofs.whole.occurrences.Goals as goal

pub returns-clause-all : goal.returns-clause-all
returns-clause-all c =
    let u = trees_of (unit_view c.args.unit.now) in
    let w = c.in_ok-walked.walked in
    let shown = c.in_ok-walked.ensures.told.shown c.if-collector.false nothing c.new.ensures in
    let found : map occurrence_view c.with_paths.result.items ≡ (collected nothing (events u)).found =
    c.with_paths.ensures (collected nothing (events u)).found shown.found (c.deref.ensures.value ∙ shown.qualified)
    (ap (map (λ p. path_view p.now)) c.deref-2.ensures.value ∙ (c.in_ok-walked.ensures.paths ∙ sym (collected_paths (events u) nothing))) in
    let e : state_with (map occurrence_view c.with_paths.result.items) w.outer.items ≡ walk (all_of outermost) start (forest_of_unit u) = module_state _ _ u found c.in_ok-walked.ensures.outer in
    ap (λ s. map (told (way s.outer)) s.found) e ∙ (whole_joined (forest_of_unit u)).found_is

pub returns-clause-blocks : goal.returns-clause-blocks
returns-clause-blocks c =
    let u = trees_of (unit_view c.args.unit.now) in
    let w = c.in_ok-walked.walked in
    let shown = c.in_ok-walked.ensures.told.shown c.if-collector.false nothing c.new.ensures in
    let found : map occurrence_view c.with_paths.result.items ≡ (collected nothing (events u)).found =
    c.with_paths.ensures (collected nothing (events u)).found shown.found (c.deref.ensures.value ∙ shown.qualified)
    (ap (map (λ p. path_view p.now)) c.deref-2.ensures.value ∙ (c.in_ok-walked.ensures.paths ∙ sym (collected_paths (events u) nothing))) in
    let e : state_with (map occurrence_view c.with_paths.result.items) w.outer.items ≡ walk (all_of outermost) start (forest_of_unit u) = module_state _ _ u found c.in_ok-walked.ensures.outer in
    blocks_there (length w.outer.items) c.with_paths.result.items (subst (λ s. Each (InBlocks (length s.outer)) s.found) (sym e) (whole_joined (forest_of_unit u)).inside)

pub returns-clause-nested : goal.returns-clause-nested
returns-clause-nested c =
    let u = trees_of (unit_view c.args.unit.now) in
    let w = c.in_ok-walked.walked in
    let shown = c.in_ok-walked.ensures.told.shown c.if-collector.false nothing c.new.ensures in
    let found : map occurrence_view c.with_paths.result.items ≡ (collected nothing (events u)).found =
    c.with_paths.ensures (collected nothing (events u)).found shown.found (c.deref.ensures.value ∙ shown.qualified)
    (ap (map (λ p. path_view p.now)) c.deref-2.ensures.value ∙ (c.in_ok-walked.ensures.paths ∙ sym (collected_paths (events u) nothing))) in
    let e : state_with (map occurrence_view c.with_paths.result.items) w.outer.items ≡ walk (all_of outermost) start (forest_of_unit u) = module_state _ _ u found c.in_ok-walked.ensures.outer in
    subst (λ s. AreNested s.outer) (sym e) (whole_joined (forest_of_unit u)).nested

pub returns-clause-outer : goal.returns-clause-outer
returns-clause-outer c = c.in_ok-walked.ensures.outer

pub returns-clause-starts : goal.returns-clause-starts
returns-clause-starts c =
    let u = trees_of (unit_view c.args.unit.now) in
    let shown = c.in_ok-walked.ensures.told.shown c.if-collector.false nothing c.new.ensures in
    shown.starts ∙ collected_starts u refl

pub returns-clause-names : goal.returns-clause-names
returns-clause-names c =
    let u = unit_view c.args.unit.now in
    let n = length u.names in
    names_there n (way c.in_ok-walked.walked.outer.items) c.with_paths.result.items
    (subst (Each (NameBelow n)) (sym (returns-clause-all c)) (names_below n (forest_of_unit (trees_of u)) module_node 0 1 c.in_ok-walked.ensures.named))
