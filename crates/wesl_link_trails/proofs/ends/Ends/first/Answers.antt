use Rattle.wesl_link_symbols.proofs.Lists.{at_contains}
use Rattle.wesl_link_trails.proofs.ends.Ends.first.Goals as goal

pub returns-in-Some : goal.returns-in-Some
returns-in-Some g c = c.requires.numbered.first c.args.question c.in-Some.first c.in-Some.ensures.found

pub returns-in-None : goal.returns-in-None
returns-in-None g c = λ k at.
    (let (n, there) = c.requires.numbered.noted c.args.question (at_contains _ k c.args.question at) in absurd (c.in-None.ensures.none n there))
