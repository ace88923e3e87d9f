use Rattle.std.proofs.Common.{List, ap, ◌∙◌, map, subst}
use Rattle.wesl_tree_syntax.specs.Unit.{UnitView}
use Rattle.wesl_tree_syntax.specs.View.{texts_of}
use Rattle.wesl_tree.specs.Translation.{unit_view}
use Rattle.wesl_link_assembly.specs.Directives.{AreThinned, all_directives}
use Rattle.wesl_link_engine.proofs.Told.{if_ok}
use Rattle.wesl_link_engine.proofs.assemble.directives_of.Goals as goal

pub returns-clause-thinned : goal.returns-clause-thinned
returns-clause-thinned c =
    let units = ap (map (λ u. unit_view u.now)) c.deref.ensures.value ∙ c.in_ok-units.ensures in
    if_ok c.thinned_directives.result
    (λ found thinned. subst (λ (us : List UnitView). AreThinned (all_directives us) found.nodes (texts_of found.words)) units thinned)
    c.thinned_directives.ensures.thinned
