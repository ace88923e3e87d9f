use Rattle.std.proofs.Common.{◌≡◌, Some, map, take, string_bytes}
use Rattle.std.specs.Prelude.{slice_get}
use Rattle.wesl_tree_names.specs.Path.{extend}
use Rattle.wesl_link_paths.specs.Longer.{IsLonger, path_in}
use Rattle.wesl_link_paths.specs.NumbersView.{paths_of}
use Rattle.wesl_link_paths.proofs.numbers.PathNumbers.extended.Given as goal

abbrev pub invariant-loop-name : goal.invariant-loop-name
invariant-loop-name l = record {
  grows : IsLonger (paths_of l.fn.self) (paths_of l.self);
  held : slice_get (paths_of l.self) l.at.0 ≡ Some (extend (path_in (paths_of l.fn.self) l.fn.id) (map string_bytes (take l.name-index l.components)));
}
