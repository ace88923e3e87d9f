use Rattle.std.proofs.Common.{◌≡◌, ◌∙◌, ◌<◌, ◌≤◌, ◌↔◌, ◌++◌, ℕ, map, take, ap, sym, subst, length, arith, true, length-append}
use Rattle.std.specs.Prelude.{not, bytes_eq}
use Rattle.std.specs.List.{All, list_any}
use Rattle.wesl_tree_syntax.specs.Unit.{name_in}
use Rattle.std.proofs.lemmas.List.{with_items_is, length-take-le}
use Rattle.wesl_tree_syntax.specs.Tree.{trees, declaration_node}
use Rattle.wesl_tree_syntax.specs.View.{global_view, placed}
use Rattle.wesl_tree.specs.Translation.{unit_view}
use Rattle.wesl_scope_graph.specs.Graphs.{graph_view, Leads, Reached}
use Rattle.wesl_scope_occurrences.specs.Views.{occurrence_view}
use Rattle.wesl_scope_occurrences.specs.Ways.{way}
use Rattle.wesl_scope_strip.specs.Declarations.{count, IsKept}
use Rattle.wesl_scope_strip.specs.Marks.{mark_at, has_name}
use Rattle.wesl_scope_strip.specs.Steps.{IsStepOf}
use Rattle.wesl_scope_strip.proofs.Keeping.{least_taken, names_within, trees_count}
use Rattle.wesl_scope_strip.proofs.kept.kept_declarations.Goals as goal

pub returns-clause-all : goal.returns-clause-all
returns-clause-all c =
    let g = c.global_declarations in
    let k = c.in_ok-marks.marks.items in
    let w = c.in_ok-wanted.wanted.items in
    let both = c.extend_from_slice.new.self in
    let n = c.len-count.result in
    let marks = c.reach.new.marks in
    let counts : count (unit_view c.args.unit.now) ≡ length g.result.now.items =
    sym (ap (λ t. length (trees t.children)) g.ensures.declarations) ∙ trees_count (placed global_view declaration_node) g.result.now.items in
    let total : n ≡ count (unit_view c.args.unit.now) = omega (arith, c.len-count.ensures, g.result.now.ok.0, counts) in
    let joined : both.items ≡ k ++ w = c.in_ok-extend_from_slice.ensures.items ∙ ap (λ ys. k ++ ys) c.deref-2.ensures.value in
    let same = ap length c.deref_mut.ensures.value in
    let sized : length marks ≡ both.len = omega (arith, c.reach.auto.marks, same, both.ok.0) in
    let taken : c.truncate.new.self.items ≡ take n marks = c.truncate.ensures.items ∙ ap (take n) (with_items_is both marks sized) in
    let inside : n ≤ length marks = omega (arith, c.reach.auto.marks, same, ap length joined, length-append k w, c.in_ok-marks.ensures.all) in
    ap length taken ∙ (length-take-le n marks inside ∙ total)

pub returns-clause-least : goal.returns-clause-least
returns-clause-least c =
    let u = unit_view c.args.unit.now in
    let g = c.global_declarations in
    let k = c.in_ok-marks.marks.items in
    let w = c.in_ok-wanted.wanted.items in
    let both = c.extend_from_slice.new.self in
    let n = c.len-count.result in
    let marks = c.reach.new.marks in
    let found = c.in_ok-found.found in
    let os = map occurrence_view found.all.items in
    let edges = graph_view c.in_ok-graph.graph.items in
    let counts : count u ≡ length g.result.now.items = sym (ap (λ t. length (trees t.children)) g.ensures.declarations) ∙ trees_count (placed global_view declaration_node) g.result.now.items in
    let total : n ≡ count u = omega (arith, c.len-count.ensures, g.result.now.ok.0, counts) in
    let joined : both.items ≡ k ++ w = c.in_ok-extend_from_slice.ensures.items ∙ ap (λ ys. k ++ ys) c.deref-2.ensures.value in
    let same = ap length c.deref_mut.ensures.value in
    let sized : length marks ≡ both.len = omega (arith, c.reach.auto.marks, same, both.ok.0) in
    let taken : c.truncate.new.self.items ≡ take n marks = c.truncate.ensures.items ∙ ap (take n) (with_items_is both marks sized) in
    let inside : n ≤ length marks = omega (arith, c.reach.auto.marks, same, ap length joined, length-append k w, c.in_ok-marks.ensures.all) in
    let names = c.names.ensures.names in
    let wanted_length : length w ≡ length u.names = c.in_ok-wanted.ensures.all ∙ ap length names in
    let kept_is : (j : ℕ) → j < n → mark_at k j ≡ not (has_name os j) =
    λ j l. c.in_ok-marks.ensures.marked j l ∙ ap (λ xs. not (has_name (map occurrence_view xs) j)) c.deref.ensures.value in
    let wanted_is : (m : ℕ) → m < length u.names → mark_at w m ≡ list_any (λ k. bytes_eq k.now (name_in u.names m)) c.args.keep.now =
    subst (λ ns. (m : ℕ) → m < length ns → mark_at w m ≡ list_any (λ k. bytes_eq k.now (name_in ns m)) c.args.keep.now) names c.in_ok-wanted.ensures.marked in
    let within = subst (λ n. All (λ o. o.ident.0 < n) found.all.items) (sym wanted_length) c.in_ok-found.ensures.names in
    let steps : (a b : ℕ) → Leads edges a b ↔ IsStepOf n a b os =
    subst (λ xs. (a b : ℕ) → Leads edges a b ↔ IsStepOf n a b (map occurrence_view xs)) c.deref-3.ensures.value c.in_ok-graph.ensures.steps in
    let reached : (a : ℕ) → (mark_at marks a ≡ true) ↔ Reached edges (k ++ w) a =
    subst (λ ms. (a : ℕ) → (mark_at marks a ≡ true) ↔ Reached edges ms a) (c.deref_mut.ensures.value ∙ joined)
    (subst (λ xs. (a : ℕ) → (mark_at marks a ≡ true) ↔ Reached (graph_view xs) c.deref_mut.result.now a) c.deref-4.ensures.value c.in_ok-reach.ensures.reached) in
    subst (λ ks. (j : ℕ) → j < length ks → (mark_at ks j ≡ true) ↔ IsKept u (map (λ k. k.now) c.args.keep.now) j) (sym taken)
    (λ j l. least_taken (λ k. k.now) u c.args.keep.now (way found.outer.items) os edges n k w marks c.in_ok-found.ensures.all
    total c.in_ok-marks.ensures.all kept_is wanted_length wanted_is (names_within occurrence_view (length w) found.all.items within) steps reached j (omega (arith, l, length-take-le n marks inside)))
