use Rattle.wesl_link_split.proofs.Anywhere.{answers_none}
use Rattle.wesl_link_split.proofs.split.Scope.answers.Goals as goal

pub returns-then-not-has_split : goal.returns-then-not-has_split
returns-then-not-has_split c = answers_none c.args.self.now.sight c.new-answers.result.items c.new-answers.ensures.items
