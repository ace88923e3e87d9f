use Rattle.std.proofs.Common.{List, subst}
use Rattle.wesl_tree_base.specs.declared.ids.NameId.{NameId}
use Rattle.wesl_link_reasons.specs.Reasons.{task_from}
use Rattle.wesl_explain_world.specs.Why.{IsLink}
use Rattle.wesl_explain_world.proofs.world.link_with_reasons.Goals as goal

pub reasons_of-requires : goal.reasons_of-requires
reasons_of-requires c =
    let unbroken = c.law_of_links.ensures _ _ _ _ c.in-Ok.ensures.linked in
    rw (c.tables.ensures, c.path-path.ensures, ← c.in_ok-kept_again.ensures.items) unbroken

pub returns-in_ok-reasons-in-Ok-clause-linked : goal.returns-in_ok-reasons-in-Ok-clause-linked
returns-in_ok-reasons-in-Ok-clause-linked c =
    subst (λ (ns : List NameId). IsLink c.args.root (task_from c.args.root.path ns c.args.is_eager) c.in-Ok.linked) c.in_ok-kept_again.ensures.items (c.args.max_modules, c.in-Ok.ensures.linked)
