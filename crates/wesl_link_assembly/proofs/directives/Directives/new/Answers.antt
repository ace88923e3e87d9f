use Rattle.std.proofs.Common.{map, ap}
use Rattle.std.specs.Prelude.{string_bytes}
use Rattle.wesl_tree_syntax.specs.View.{texts_of}
use Rattle.wesl_link_assembly.proofs.Thinned.{none_yet}
use Rattle.wesl_link_assembly.proofs.directives.Directives.new.Goals as goal

pub returns : goal.returns
returns c = none_yet c.new.result (texts_of c.new-2.result) c.new.ensures.items (ap (map string_bytes) c.new-2.ensures.items)
