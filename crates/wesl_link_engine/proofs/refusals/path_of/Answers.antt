use Rattle.wesl_link_paths.specs.NumbersView.{paths_of}
use Rattle.wesl_link_paths.proofs.Lists.{held_below}
use Rattle.wesl_link_engine.proofs.refusals.path_of.Goals as goal

pub get-requires : goal.get-requires
get-requires c = let (q, at) = c.requires in record { below = held_below (paths_of c.args.numbers.now.paths) c.args.id.0 q at }
