use Rattle.wesl_tree_syntax.specs.Tree.{member_node}
use Rattle.wesl_tree_syntax.specs.View.{member_view}
use Rattle.wesl_text_form.specs.Productions.{a_bare_member, a_member}
use Rattle.wesl_text_read.specs.Levels.{inner}
use Rattle.wesl_text_read_imports.proofs.Parts.{placed_reads, spanned-by}
use Rattle.wesl_text_read_unit.proofs.structure.member.Goals as goal

pub returns : goal.returns
returns c =
    let n = c.args.reader.now.levels in
    placed_reads member_view member_node (inner n a_member) (inner n a_bare_member) c.bare_member-node.result c.placed.result (λ ts. spanned-by member_node (inner n a_bare_member ts)) c.bare_member-node.ensures c.placed.ensures
