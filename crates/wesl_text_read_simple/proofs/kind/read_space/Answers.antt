use Rattle.wesl_tree_syntax.specs.View.{access_tree, optional}
use Rattle.wesl_text_read_simple.proofs.Memory.{space_begins}
use Rattle.wesl_text_read_simple.proofs.kind.read_space.Goals as goal

pub returns-in-Some : goal.returns-in-Some
returns-in-Some c = space_begins c.step.ensures.skips c.in-Some.space (optional access_tree c.optional_access.result) c.in-Some.ensures.text c.optional_access.ensures
