use Rattle.std.proofs.Common.{rules, ◌≡◌, ◌≢◌, ◌<◌, ◌+◌, ℕ, List, [], length, subst, sym, ap, arith}
use Rattle.std.proofs.lemmas.List.{length-map, with_items_is}
use Rattle.wesl_validate_rules.specs.Graphs.{Graph, graph_view}
use Rattle.wesl_validate_rules.specs.Searches.{IsSearch, stage_at}
use Rattle.wesl_validate_rules.specs.declared.graph.Mark.{Mark}
use Rattle.wesl_validate_rules.specs.declared.graph.Mark.TheVariants.{New}
use Rattle.wesl_validate_rules.proofs.Turns.{begins, all_grounded, met_next, nothing_found}
use Rattle.wesl_validate_rules.proofs.graph.ring.Goals as goal

same_search : (g : Graph) (ms ns : List Mark) (ls ks : List ℕ) → ms ≡ ns → ls ≡ ks → IsSearch g ns ks [] → IsSearch g ms ls []
same_search g ms ns ls ks e f s = subst (λ xs. IsSearch g xs ls []) (sym e) (subst (λ ys. IsSearch g ns ys []) (sym f) s)

pub loop-start-init : goal.loop-start-init
loop-start-init c = record {
  search = begins c.args.graph.now c.in_ok-marks.marks.items c.in_ok-left.left.items c.in_ok-marks.ensures.all c.in_ok-marks.ensures.new c.in_ok-left.ensures;
  empty = search rules;
  met = λ a h. absurd (omega (arith, h));
}

pub loop-start-preserved : goal.loop-start-preserved
loop-start-preserved c =
    let m = c.loop-start.marks in
    let l = c.loop-start.left in
    let f = c.search_from in
    let g = graph_view c.args.graph.now in
    let same_marks = ap length c.deref_mut.ensures.value in
    let same_left = ap length c.deref_mut-in-loop-start.ensures.value in
    let all_marks : length f.new.marks ≡ m.len = omega (arith, f.auto.marks, same_marks, m.ok.0) in
    let all_left : length f.new.left ≡ l.len = omega (arith, f.auto.left, same_left, l.ok.0) in
    let met : (a : ℕ) → stage_at m.items a ≢ New → stage_at f.new.marks a ≢ New = subst (λ ms. (a : ℕ) → stage_at ms a ≢ New → stage_at f.new.marks a ≢ New) c.deref_mut.ensures.value (nothing_found c.in_ok-found.field-0 ((a : ℕ) → stage_at c.deref_mut.result.now a ≢ New → stage_at f.new.marks a ≢ New) c.in-None.is c.in_ok-found.ensures.met) in
    record {
      search = same_search g _ f.new.marks _ f.new.left (with_items_is m f.new.marks all_marks) (with_items_is l f.new.left all_left) (nothing_found c.in_ok-found.field-0 (IsSearch g f.new.marks f.new.left []) c.in-None.is c.in_ok-found.ensures.none);
      empty = nothing_found c.in_ok-found.field-0 (f.new.way.items ≡ []) c.in-None.is c.in_ok-found.ensures.emptied;
      met = subst (λ ms. (a : ℕ) → a < c.loop-start.start + 1 → stage_at ms a ≢ New) (sym (with_items_is m f.new.marks all_marks)) (met_next m.items f.new.marks c.loop-start.start c.loop-start.invariant.met met (nothing_found c.in_ok-found.field-0 (stage_at f.new.marks c.loop-start.start ≢ New) c.in-None.is c.in_ok-found.ensures.here));
    }

pub returns-clause-none : goal.returns-clause-none
returns-clause-none c =
    all_grounded (graph_view c.args.graph.now) c.loop-start.marks.items c.loop-start.left.items c.loop-start.invariant.search
    (λ a h. c.loop-start.invariant.met a (let e = length-map c.args.graph.now (λ v. v.items) in let t = c.loop-start-test.false in omega (arith, h, e, t)))

pub search_from-requires-clause-begun : goal.search_from-requires-clause-begun
search_from-requires-clause-begun c =
    same_search (graph_view c.args.graph.now) c.deref_mut.result.now _ c.deref_mut-in-loop-start.result.now _ c.deref_mut.ensures.value c.deref_mut-in-loop-start.ensures.value c.loop-start.invariant.search
