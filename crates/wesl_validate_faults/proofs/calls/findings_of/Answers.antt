use Rattle.std.proofs.Common.{◌≡◌, ◌∙◌, ◌++◌, ◌∷◌, [], ℕ, ◌<◌, ◌≤◌, length, get_or, map, take, take_all, ap, sym, subst}
use Rattle.wesl_scope_graph.specs.Graphs.{graph_view}
use Rattle.wesl_validate_calls.specs.declared.misfit.Misfit.{Misfit}
use Rattle.wesl_validate_calls.specs.declared.misfit.Misfit.TheVariants as misfit
use Rattle.wesl_validate_faults.specs.Findings.{Finding}
use Rattle.wesl_validate_faults.specs.Gathered.{finding_view, findings_view, misfit_here}
use Rattle.wesl_validate_faults.proofs.Collecting.{view_push}
use Rattle.wesl_validate_faults.proofs.Listing.{taken}
use Rattle.wesl_validate_faults.proofs.calls.findings_of.Goals as goal

-- what the list is read by past its end
abbrev none : ℕ × Misfit
none = (0, misfit.ParamCount 0 0 0)

pub loop-entry-preserved : goal.loop-entry-preserved
loop-entry-preserved c =
    let all = c.args.misfits.now.items in
    let i = c.loop-entry.entry-index in
    let same : c.deref-entry-items.result.now ≡ all = c.deref-entry-items.ensures.value in
    let inside : i < length all = subst (λ xs. i < length xs) same c.loop-entry-test.true in
    let item = get_or c.deref-entry-items.result.now i none in
    let is : item ≡ get_or all i none = ap (λ xs. get_or xs i none) same in
    let here : ℕ × Misfit → Finding = λ p. misfit_here c.args.names.now (graph_view c.args.holders.now.items) p.0 p.1 in
    ap findings_view c.in_ok-push.ensures.items
    ∙ (view_push c.loop-entry.findings.items c.finding_of.result
    ∙ (ap (λ fs. fs ++ finding_view c.finding_of.result ∷ []) c.loop-entry.invariant
    ∙ (ap (λ f. map here (take i all) ++ f ∷ []) c.finding_of.ensures ∙ sym (taken here all i item none inside is))))

pub returns : goal.returns
returns c =
    let all = c.args.misfits.now.items in
    let i = c.loop-entry.entry-index in
    let past : length all ≤ i = subst (λ xs. length xs ≤ i) c.deref-entry-items.ensures.value c.loop-entry-test.false in
    c.loop-entry.invariant ∙ ap (map (λ p. misfit_here c.args.names.now (graph_view c.args.holders.now.items) p.0 p.1)) (take_all i all past)
