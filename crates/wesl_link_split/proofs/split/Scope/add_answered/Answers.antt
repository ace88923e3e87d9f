use Rattle.wesl_link_split.specs.Grouped.{ids, one_of}
use Rattle.wesl_link_split.specs.ScopeView.{scope_view}
use Rattle.wesl_link_split.specs.Split.{is_unclear_plain, asked_plain}
use Rattle.wesl_link_split.proofs.Anywhere.{adds_answer, if_ok}
use Rattle.wesl_link_split.proofs.split.Scope.add_answered.Goals as goal

pub returns-in-Some : goal.returns-in-Some
returns-in-Some c =
    let s = scope_view c.args.self.now in
    let a = c.in-Some.answer in
    let w = c.in-Some.ensures c.args.here in
    if_ok c.add_answer.result (λ b h.
    adds_answer b a.is_unclear (is_unclear_plain ids s c.args.name c.args.here) c.args.found.now.items c.add_answer.new.found.items (one_of a.asked) (asked_plain ids s c.args.name c.args.here) h.0 w.0 h.1 w.1) c.add_answer.ensures
