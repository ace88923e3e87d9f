use Rattle.std.proofs.Common.{◌≡◌, Some, false, subst, ◌∙◌}
use Rattle.wesl_tree_base.specs.declared.ids.NameId.{NameId}
use Rattle.wesl_link_split.specs.Grouped.{ids}
use Rattle.wesl_link_split.specs.ScopeView.{scope_view}
use Rattle.wesl_link_split.specs.SightView.{IsAnswered}
use Rattle.wesl_link_split.specs.Split.{is_split}
use Rattle.wesl_link_split.proofs.Anywhere.{if_ok}
use Rattle.wesl_link_split.proofs.split.Scope.answer_at.Goals as goal

pub returns-in-Some : goal.returns-in-Some
returns-in-Some c =
    let s = scope_view c.args.self.now in
    if_ok c.answer.result (λ a h n at.
    let held : Some c.in-Some.name.now ≡ Some n = c.in-Some.ensures.key ∙ at in
    let same : c.in-Some.name.now ≡ n = cc in
    subst (λ (m : NameId). is_split ids s.binders m ≡ false → IsAnswered s m a) same h) c.answer.ensures

pub returns-in-None : goal.returns-in-None
returns-in-None c = λ n at one. absurd (let held = c.in-None.ensures.key ∙ at in cc)
