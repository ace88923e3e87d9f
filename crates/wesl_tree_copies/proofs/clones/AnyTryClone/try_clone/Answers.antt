use Rattle.wesl_tree_copies.proofs.Kept.{equal_copies}
use Rattle.wesl_tree_copies.proofs.clones.AnyTryClone.try_clone.Goals as goal

pub returns-clause-equal : goal.returns-clause-equal
returns-clause-equal g c = equal_copies g.T.Node.tree c.unless_refused.result c.of-copying.ensures.keeps c.copied-copy.ensures c.unless_refused.ensures.given c.unless_refused.ensures.noted
