use Rattle.std.proofs.Common.{◌≡◌, ◌↔◌, ℕ, true, length, ap, sym, subst, arith}
use Rattle.std.proofs.lemmas.List.{with_items_is}
use Rattle.wesl_scope_graph.specs.Graphs.{graph_view, Reached}
use Rattle.wesl_scope_graph.specs.Marks.{mark_at}
use Rattle.wesl_validate_builtins.specs.Builtins.{builtins_view}
use Rattle.wesl_validate_calls.specs.Ends.{AreOpened}
use Rattle.wesl_validate_calls.specs.Views.{tables_view}
use Rattle.wesl_validate_calls.proofs.Ending.{opened_is}
use Rattle.wesl_validate_calls.proofs.ends.opened.Goals as goal

pub returns : goal.returns
returns c =
    let t = tables_view c.args.tables.now in
    let names = c.args.names.now in
    let b = builtins_view c.args.callables.now.builtins.now in
    let back = graph_view c.args.back.now in
    let marks = c.in_ok-marks.marks in
    let after = c.reach.new.marks in
    let reached : (a : ℕ) → (mark_at after a ≡ true) ↔ Reached back marks.items a = subst (λ ms. (a : ℕ) → (mark_at after a ≡ true) ↔ Reached back ms a) c.deref_mut.ensures.value c.in_ok-reach.ensures.reached in
    let same = ap length c.deref_mut.ensures.value in
    let sized : length after ≡ marks.len = omega (arith, c.reach.auto.marks, same, marks.ok.0) in
    subst (AreOpened t names b) (sym (with_items_is marks after sized))
    (opened_is t names b c.requires.closed back c.requires.back marks.items after c.in_ok-marks.ensures reached)
