use Rattle.std.proofs.Common.{rules}
use Rattle.wesl_tree_names.proofs.path_text.is_component.Goals as goal

pub returns-then-not-has_slash : goal.returns-then-not-has_slash
returns-then-not-has_slash c = search rules
