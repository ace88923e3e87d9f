use Rattle.std.proofs.Common.{◌≡◌, ◌∙◌, ◌++◌, ◌∷◌, [], ◌<◌, ◌≤◌, length, get_or, map, take, take_all, ap, sym, subst}
use Rattle.std.proofs.lemmas.List.{map_more, map_push}
use Rattle.wesl_scope_graph.specs.Graphs.{graph_view}
use Rattle.wesl_validate_calls.specs.declared.misfit.Misfit.TheVariants as misfit
use Rattle.wesl_validate_misfits.specs.declared.placed.PlacedMisfit.{PlacedMisfit}
use Rattle.wesl_validate_faults.specs.Gathered.{misfitting_here, misfitting_seen, misfitting_view}
use Rattle.wesl_validate_faults.proofs.misfitting.misfit_calls_of.Goals as goal

-- what the list is read by past its end
abbrev none : PlacedMisfit
none = record { place = 0; declaration = 0; misfit = misfit.ParamCount 0 0 0 }

pub loop-misfit-preserved : goal.loop-misfit-preserved
loop-misfit-preserved c =
    let all = c.args.misfits.now.items in
    let i = c.loop-misfit.misfit-index in
    let same : c.deref-misfit-items.result.now ≡ all = c.deref-misfit-items.ensures.value in
    let inside : i < length all = subst (λ xs. i < length xs) same c.loop-misfit-test.true in
    let here = misfitting_here c.args.names.now (graph_view c.args.holders.now.items) in
    ap misfitting_view c.in_ok-push.ensures.items
    ∙ (map_push misfitting_seen c.loop-misfit.calls.items c.misfit_call.result
    ∙ (ap (λ cs. cs ++ misfitting_seen c.misfit_call.result ∷ []) c.loop-misfit.invariant
    ∙ (ap (λ x. map here (take i all) ++ x ∷ []) (c.misfit_call.ensures ∙ ap (λ xs. here (get_or xs i none)) same) ∙ sym (map_more here all i none inside))))

pub returns : goal.returns
returns c =
    let all = c.args.misfits.now.items in
    let i = c.loop-misfit.misfit-index in
    let past : length all ≤ i = subst (λ xs. length xs ≤ i) c.deref-misfit-items.ensures.value c.loop-misfit-test.false in
    c.loop-misfit.invariant ∙ ap (map (misfitting_here c.args.names.now (graph_view c.args.holders.now.items))) (take_all i all past)
