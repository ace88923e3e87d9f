use Rattle.std.proofs.Common.{◌∙◌, ap₂}
use Rattle.wesl_tree_syntax.specs.Unit.{spelled}
use Rattle.wesl_tree.specs.Translation.{unit_view}
use Rattle.wesl_link_split.specs.SightView.{sight_view}
use Rattle.wesl_link_tables.specs.Split.{binders_by}
use Rattle.wesl_link_tables.proofs.Scoping.{if_both, scoped_made}
use Rattle.wesl_link_tables.proofs.table.scoped_of.Goals as goal

pub returns : goal.returns
returns c =
    let bs = c.in_ok-binders.ensures ∙ ap₂ (binders_by c.args.id) c.deref.ensures.value c.deref-2.ensures.value in
    if_both c.with_choices.result (λ s e f. scoped_made c.args.id c.args.numbered.now (spelled (unit_view c.args.unit.now)) (sight_view c.in_ok-sight.sight) c.in_ok-binders.binders.items c.in_ok-sight.ensures bs s e f) c.with_choices.ensures.scope c.with_choices.ensures.crowded
