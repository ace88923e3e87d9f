use Rattle.std.proofs.Common.{◌≡◌, inl, inr, ℕ, slice_get, Some, ap, refl, subst, sym, ◌∙◌}
use Rattle.std.proofs.lemmas.Option.{slice_get_read}
use Rattle.wesl_link_symbols.specs.declared.ids.PathId.{PathId}
use Rattle.wesl_tree_base.specs.declared.ids.NameId.{NameId}
use Rattle.wesl_link_symbols.specs.Tables.{Table}
use Rattle.wesl_link_ahead.proofs.ahead.Ahead.place_new.Goals as goal

pub loop-place-preserved : goal.loop-place-preserved
loop-place-preserved c =
    let at : slice_get c.args.linking.now.tables.now c.loop-place.place ≡ Some c.index-linking-place.result =
    slice_get_read c.args.linking.now.tables.now _ c.loop-place.place c.index-linking-place.result refl c.loop-place-test.true c.index-linking-place.is in
    record {
      placed = λ p k h. elim (c.in_ok-put.ensures.puts.only p k h) [
        | inl (same, is) ↦ (c.index-linking-place.result, subst (λ (j : ℕ). slice_get c.args.linking.now.tables.now j ≡ Some c.index-linking-place.result) (sym is) at, ap (λ (t : Table PathId NameId). t.path) c.index-linking-place.is ∙ (sym c.path.ensures ∙ sym same))
        | inr (differ, before) ↦ c.loop-place.invariant.placed p k before
      ];
      entered = c.loop-place.invariant.entered;
      reached = c.loop-place.invariant.reached;
      waiting = c.loop-place.invariant.waiting;
    }
