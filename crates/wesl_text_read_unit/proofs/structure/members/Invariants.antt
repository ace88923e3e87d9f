use Rattle.wesl_tree_syntax.specs.Tree.{member_node}
use Rattle.wesl_tree_syntax.specs.View.{member_view, placed}
use Rattle.wesl_text_tokens.specs.declared.symbol.Symbol.TheVariants as is
use Rattle.wesl_text_form.specs.Productions.{a_member}
use Rattle.wesl_text_read_imports.proofs.Closed.{Items}
use Rattle.wesl_text_read_unit.proofs.structure.members.Given as goal

abbrev pub invariant-members : goal.invariant-members
invariant-members l = Items (placed member_view member_node) a_member is.BraceRight l.goes_on l.room l.members.items l.fn.reader l.reader

abbrev pub decreases-members : goal.decreases-members
decreases-members l = l.room
