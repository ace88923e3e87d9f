use Rattle.std.proofs.Common.{take, map}
use Rattle.wesl_link_tables.specs.Numbering.{AreRelated, IsRelatedOption, Grows, NameAt}
use Rattle.wesl_link_tables.specs.NumbersView.{numbering}
use Rattle.wesl_link_tables.proofs.Naming.{node_name}
use Rattle.wesl_link_tables.proofs.reading.add_names.Given as goal

abbrev pub invariant-loop-node : goal.invariant-loop-node
invariant-loop-node l = record {
  numbered : AreRelated (IsRelatedOption (NameAt (numbering l.numbers))) l.found.items (map (node_name l.names) (take l.node-index l.node-items));
  grows : Grows (numbering l.initial.numbers) (numbering l.numbers);
}
