use Rattle.std.proofs.Common.{◌∙◌, ap}
use Rattle.std.specs.Prelude.{Some}
use Rattle.wesl_tree_syntax.specs.Unit.{name_in}
use Rattle.wesl_scope_graph.specs.Graphs.{graph_view}
use Rattle.wesl_validate_faults.specs.Gathered.{misfit_by, name_by, name_number}
use Rattle.wesl_validate_faults.specs.Misfitting.{misfitting_at}
use Rattle.wesl_validate_faults.proofs.Misplaced.{by_is}
use Rattle.wesl_validate_faults.proofs.misfitting.misfit_call.Goals as goal

pub returns : goal.returns
returns c =
    let names = c.args.names.now in
    let holders = graph_view c.args.holders.now.items in
    let m = c.args.misfit.now in
    ap (λ d. misfitting_at m.place (misfit_by d c.name_of.result.now c.counts_of.result)) c.name_round.ensures
    ∙ (ap (λ n. misfitting_at m.place (misfit_by (name_by names holders (Some m.declaration)) n c.counts_of.result)) (c.name_of.ensures ∙ ap (name_in names) c.name_number.ensures)
    ∙ (ap (λ k. misfitting_at m.place (misfit_by (name_by names holders (Some m.declaration)) (name_in names (name_number m.misfit)) k)) c.counts_of.ensures
    ∙ ap (misfitting_at m.place) (by_is names holders m.declaration m.misfit)))
