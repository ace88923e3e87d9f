use Rattle.std.proofs.Common.{◌≡◌, ◌<◌, length}
use Rattle.wesl_link_paths.specs.Longer.{path_in}
use Rattle.wesl_link_paths.specs.Nodes.{above}
use Rattle.wesl_link_paths.specs.NumbersView.{paths_of}
use Rattle.wesl_link_paths.proofs.numbers.PathNumbers.above.Given as goal

abbrev pub invariant-loop-level : goal.invariant-loop-level
invariant-loop-level l = record {
  below : l.at.0 < length (paths_of l.self);
  path : path_in (paths_of l.self) l.at ≡ above (path_in (paths_of l.self) l.fn.id) l._level;
}
