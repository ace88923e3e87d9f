use Rattle.wesl_tree_copies.proofs.Parts.{of_place}
use Rattle.wesl_tree_copies.proofs.clones.places.SpannedNode.copied.Goals as goal

pub returns : goal.returns
returns g c = of_place g.T.Node.tree g.T.Placed.place c.args.self.now c.copied.result c.copied.ensures
