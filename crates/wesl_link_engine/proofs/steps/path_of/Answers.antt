use Rattle.wesl_link_paths.proofs.Lists.{held_below}
use Rattle.wesl_link_engine.specs.Keeping.{all_loaded}
use Rattle.wesl_link_engine.proofs.Homes.{home_path}
use Rattle.wesl_link_engine.proofs.steps.path_of.Goals as goal

pub path_at-requires : goal.path_at-requires
path_at-requires c = let (m, at, named) = c.requires.homes.right c.args.id c.in-Some.index c.in-Some.ensures.found in held_below (all_loaded c.args.link.now) c.in-Some.index m at

pub returns : goal.returns
returns c = home_path c.args.link.now c.args.id c.in-Some.index c.path_at.result.now (c.requires.homes.right c.args.id c.in-Some.index c.in-Some.ensures.found) c.path_at.ensures

pub unreachable-requires : goal.unreachable-requires
unreachable-requires c = let (i, d) = c.requires.homes.all c.args.id c.requires.entered in c.in_default.ensures.none i d
