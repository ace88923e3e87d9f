use Rattle.std.proofs.Common.{subst}
use Rattle.wesl_tree_names.specs.Errors.{IsRefusedWith}
use Rattle.wesl_tree_syntax.specs.Unit.{spelled}
use Rattle.wesl_tree.specs.Translation.{unit_view}
use Rattle.wesl_resolve_base.proofs.ResultLemmas.{IfOk-to, OrMemory-to, refused-to}
use Rattle.wesl_text_program.specs.Texts.{IsSaid, IsUnreadText}
use Rattle.wesl_text_program.proofs.sources.unit_of_value.Goals as goal

pub returns-in-Some-clause-said : goal.returns-in-Some-clause-said
returns-in-Some-clause-said c = IfOk-to _ _ (λ u h. subst (λ o. IsSaid o (spelled (unit_view u))) c.in-Some.ensures h) c.unit_of_text.result c.unit_of_text.ensures.said

pub returns-in-Some-clause-refused : goal.returns-in-Some-clause-refused
returns-in-Some-clause-refused c = refused-to _ _ (λ e h. subst (λ o. IsRefusedWith (IsUnreadText o) e) c.in-Some.ensures h) c.unit_of_text.result c.unit_of_text.ensures.refused

pub returns-in-None-clause-refused : goal.returns-in-None-clause-refused
returns-in-None-clause-refused c = OrMemory-to _ _ (λ e h. subst (λ o. IsRefusedWith (IsUnreadText o) e) c.in-None.ensures h) c.no_text.result c.no_text.ensures
