use Rattle.std.proofs.Common.{inl, subst}
use Rattle.std.proofs.lemmas.Result.{IfOk-weaker, IfErr-weaker}
use Rattle.wesl_tree.specs.Translation.{unit_view}
use Rattle.wesl_tree_names.specs.Errors.{IsBare}
use Rattle.wesl_source_map.specs.BasicView.{items}
use Rattle.wesl_program.specs.Naming.{named_by}
use Rattle.wesl_text_program.specs.contracts.sources.TextSourcesResolver.TheImpl.{ghosts}
use Rattle.wesl_text_program.proofs.Linked.{maps-linked, refuses-linked}
use Rattle.wesl_text_program.proofs.linking.text_of_request.Goals as goal

pub returns-in-Ok-clause-linked : goal.returns-in-Ok-clause-linked
returns-in-Ok-clause-linked c =
    IfOk-weaker c.linked_text.result _ _
    (λ t h. maps-linked _ c.args.sources (named_by c.args.mangler.naming) c.args.request.now c.in-Ok.unit c.in-Ok.ensures.handed (items t.linked.map) (unit_view t.linked.unit) h)
    c.linked_text.ensures.linked

pub returns-in-Ok-clause-refused : goal.returns-in-Ok-clause-refused
returns-in-Ok-clause-refused c =
    IfErr-weaker c.linked_text.result _ _
    (λ e h. refuses-linked ghosts c.args.sources (named_by c.args.mangler.naming) c.args.request.now c.in-Ok.unit c.in-Ok.ensures.handed e h)
    c.linked_text.ensures.refused

pub returns-in-Err-clause-refused : goal.returns-in-Err-clause-refused
returns-in-Err-clause-refused c = inl (inl (c.in-Err.refusal, c.in-Err.ensures.refused, subst (λ e. IsBare e c.of.result) c.of_resolve.ensures c.of.ensures))
