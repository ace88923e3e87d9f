use Rattle.std.proofs.Common.{refl, inl}
use Rattle.wesl_tree_names.specs.Path.{path_view}
use Rattle.wesl_resolve_base.proofs.RefusalLemmas.{error-told, place-told}
use Rattle.wesl_resolve_base.proofs.refusals.refused.Goals as goal

pub returns-then-is_told-clause-error : goal.returns-then-is_told-clause-error
returns-then-is_told-clause-error c = error-told _ c.args.fault c.path_told-module.result refl c.path_told-module.ensures.not_memory c.if-is_told.ensures c.refusal_of.result c.refusal_of.ensures

pub returns-then-is_told-clause-told : goal.returns-then-is_told-clause-told
returns-then-is_told-clause-told c =
    place-told _ (path_view c.args.path.now) c.path_told-module.result c.args.display c.args.source refl refl refl refl refl c.path_told-module.ensures.same c.if-is_told.ensures c.refusal_of.result c.refusal_of.ensures

pub returns-else-is_told-clause-error : goal.returns-else-is_told-clause-error
returns-else-is_told-clause-error c = inl refl

pub returns-else-is_told-clause-told : goal.returns-else-is_told-clause-told
returns-else-is_told-clause-told c = inl refl
