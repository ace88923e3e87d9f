use Rattle.wesl_scope_words.proofs.Declared.{declared}
use Rattle.wesl_scope_words.proofs.statements.in_declaration.Goals as goal

pub returns : goal.returns
returns c = declared c.args.declaration.now c.memory_of.ensures c.name.ensures
