use Rattle.wesl_link_split.proofs.Anywhere.{answers_none}
use Rattle.wesl_link_split.proofs.split.Scope.new.Goals as goal

pub invariant_of-scope : goal.invariant_of-scope
invariant_of-scope c = record {
  aims_are = c.in_ok-add_all_aims.ensures;
  answers_are = answers_none c.in_ok-sight.sight c.new-answers.result.items c.new-answers.ensures.items;
}
