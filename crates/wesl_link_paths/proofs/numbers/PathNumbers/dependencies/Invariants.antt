use Rattle.std.proofs.Common.{◌≡◌, ◌<◌, true, length, drop}
use Rattle.wesl_tree_base.specs.Borrowed.{texts}
use Rattle.wesl_link_paths.specs.Longer.{IsLonger, path_in}
use Rattle.wesl_link_paths.specs.Nodes.{is_root, packaged}
use Rattle.wesl_link_paths.specs.NumbersView.{paths_of}
use Rattle.wesl_link_paths.proofs.numbers.PathNumbers.dependencies.Given as goal

abbrev pub invariant-loop-name : goal.invariant-loop-name
invariant-loop-name l = record {
  below : l.at.0 < length (paths_of l.self);
  root : is_root (path_in (paths_of l.self) l.at) ≡ true;
  origin : packaged (path_in (paths_of l.self) l.at).origin (drop l.name-index (texts l.names)) ≡ packaged (path_in (paths_of l.fn.self) l.fn.outer).origin (texts l.names);
  grows : IsLonger (paths_of l.fn.self) (paths_of l.self);
}
