use Rattle.std.proofs.Common.{None}
use Rattle.wesl_link_flaws.proofs.Searching.{at_on}
use Rattle.wesl_link_flaws.proofs.search.Search.take_module.Goals as goal

pub returns-clause-done : goal.returns-clause-done
returns-clause-done c = record {
  asserts = at_on c.args.given.now c.take_at.new.self c.take_whole.new.self c.args.path None c.in_ok-take_whole.ensures.grows c.in_ok-take_at.ensures.done;
  whole = λ eager. c.in_ok-take_whole.ensures.whole;
}
