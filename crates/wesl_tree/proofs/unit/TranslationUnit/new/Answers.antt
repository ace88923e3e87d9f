use Rattle.std.proofs.Common.{rules}
use Rattle.wesl_tree.proofs.unit.TranslationUnit.new.Goals as goal

pub returns : goal.returns
returns c = search rules
