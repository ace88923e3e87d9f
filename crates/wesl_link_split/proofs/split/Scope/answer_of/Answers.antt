use Rattle.std.proofs.Common.{sym, ◌∙◌}
use Rattle.wesl_link_split.proofs.Anywhere.{if_some}
use Rattle.wesl_link_split.proofs.Grouping.{name_at}
use Rattle.wesl_link_split.proofs.split.Scope.answer_of.Goals as goal

pub returns-in-Some : goal.returns-in-Some
returns-in-Some c =
    let s = c.args.self.now in
    if_some c.held_answer.result (λ a e.
    s.answers_are c.in-Some.index c.args.name a (name_at c.args.name s.sight.names.keys c.in-Some.index (sym c.in-Some.ensures.index)) (sym c.held_answer.ensures ∙ e)
    c.requires)
