use Rattle.std.proofs.Common.{◌++◌, map, take, string_bytes}
use Rattle.std.specs.Fmt.{HasWritten, IsPlainFormatter}
use Rattle.wesl_tree_names.specs.Path.{origin_view}
use Rattle.wesl_tree_base.specs.Pieces.{joined}
use Rattle.wesl_tree_names.specs.PathText.{origin_pieces}
use Rattle.wesl_tree_names.proofs.path_text.ModulePathDisplay.fmt.Given as goal

abbrev pub invariant-loop-component : goal.invariant-loop-component
invariant-loop-component g l =
    IsPlainFormatter l.fn.f → HasWritten g.W.Write.write_str_gives l.fn.f (joined (origin_pieces (origin_view l.self.origin) ++ map string_bytes (take l.component-index l.component-items))) l.f
