use Rattle.std.proofs.Common.{◌≡◌, ◌++◌, map, take, string_bytes}
use Rattle.wesl_tree_names.specs.Path.{origin_view}
use Rattle.wesl_tree_base.specs.Pieces.{joined}
use Rattle.wesl_tree_names.specs.PathText.{origin_pieces}
use Rattle.wesl_tree_names.proofs.path.ModulePath.to_text.Given as goal

abbrev pub invariant-loop-component : goal.invariant-loop-component
invariant-loop-component l = string_bytes l.text ≡ joined (origin_pieces (origin_view l.self.origin) ++ map string_bytes (take l.component-index l.component-items))
