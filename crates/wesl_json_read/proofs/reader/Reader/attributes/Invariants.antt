use Rattle.wesl_json_form.specs.Schema.{an_attribute}
use Rattle.wesl_tree_syntax.specs.Tree.{attributes}
use Rattle.wesl_json_read.specs.Gives.{placed_attribute}
use Rattle.wesl_json_read.proofs.Noting.{NotesItems}
use Rattle.wesl_json_read.proofs.reader.Reader.attributes.Given as goal

abbrev pub invariant-loop-index : goal.invariant-loop-index
invariant-loop-index l = NotesItems placed_attribute attributes an_attribute l.items l.index l.attributes.items l.fn.self l.self
