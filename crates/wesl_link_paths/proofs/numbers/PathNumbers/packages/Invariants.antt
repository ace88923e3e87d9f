use Rattle.std.proofs.Common.{◌≡◌, ◌<◌, true, length, reverse}
use Rattle.wesl_tree_base.specs.Borrowed.{texts}
use Rattle.wesl_link_paths.specs.Longer.{path_in}
use Rattle.wesl_link_paths.specs.Nodes.{is_root, packaged}
use Rattle.wesl_link_paths.specs.NumbersView.{paths_of}
use Rattle.wesl_link_paths.proofs.numbers.PathNumbers.packages.Given as goal

abbrev pub invariant-loop-outer : goal.invariant-loop-outer
invariant-loop-outer l = record {
  below : l.at.0 < length (paths_of l.self);
  root : is_root (path_in (paths_of l.self) l.at) ≡ true;
  found : packaged (path_in (paths_of l.self) l.at).origin (reverse (texts l.names.items)) ≡ (path_in (paths_of l.self) l.fn.root).origin;
}

abbrev pub decreases-loop-outer : goal.decreases-loop-outer
decreases-loop-outer l = l.at.0
