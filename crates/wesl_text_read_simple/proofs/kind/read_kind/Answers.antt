use Rattle.wesl_tree_syntax.specs.View.{kind_tree}
use Rattle.wesl_text_read_simple.specs.Words.{word_text}
use Rattle.wesl_text_read_simple.proofs.Memory.{kind_begins}
use Rattle.wesl_text_read_simple.proofs.kind.read_kind.Goals as goal

pub returns-in-Some : goal.returns-in-Some
returns-in-Some c = kind_begins c.step.ensures.skips (word_text c.in-Some.word) (kind_tree c.kind_of.result) c.in-Some.ensures.text c.kind_of.ensures
