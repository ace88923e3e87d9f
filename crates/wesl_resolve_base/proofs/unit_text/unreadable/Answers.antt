use Rattle.std.proofs.Common.{◌≡◌, None, Some, refl, inl, subst}
use Rattle.wesl_tree_names.specs.Path.{Text, path_view}
use Rattle.wesl_tree_names.specs.Errors.{OrMemory, IsRefusedFor}
use Rattle.wesl_tree_names.specs.declared.errors.Error.{Error}
use Rattle.wesl_resolve_base.specs.Refusals.{TellsModule}
use Rattle.wesl_resolve_base.proofs.RefusalLemmas.{refusal-told}
use Rattle.wesl_resolve_base.proofs.unit_text.unreadable.Goals as goal

pub returns-in-Ok : goal.returns-in-Ok
returns-in-Ok c =
    let p = path_view c.args.path.now in
    let For : Error → Type 0 = λ fault. OrMemory (IsRefusedFor (λ e. e ≡ fault)) c.refused.result in
    let Says : Text → Type 0 = λ text. OrMemory (TellsModule p None (Some text)) c.refused.result in
    refusal-told _ p None (Some c.args.source.now) c.refused.result (subst For c.into_error.ensures c.refused.ensures.error) (subst Says c.in-Ok.ensures.ok c.refused.ensures.told)

pub returns-in-Err : goal.returns-in-Err
returns-in-Err c = inl refl
