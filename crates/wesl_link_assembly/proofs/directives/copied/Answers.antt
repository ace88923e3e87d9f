use Rattle.wesl_tree_syntax.specs.Tree.{directive_node}
use Rattle.wesl_tree_syntax.specs.View.{directive_view, placed}
use Rattle.wesl_tree_copies.proofs.Kept.{equal_copies}
use Rattle.wesl_link_assembly.proofs.directives.copied.Goals as goal

pub returns-clause-equal : goal.returns-clause-equal
returns-clause-equal c = equal_copies (placed directive_view directive_node) c.end.result c.of-copying.ensures.keeps c.directive_node-copy.ensures c.end.ensures.given c.end.ensures.noted
