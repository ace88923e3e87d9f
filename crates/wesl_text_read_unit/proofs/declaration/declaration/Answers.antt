use Rattle.wesl_tree_syntax.specs.Tree.{declaration_node}
use Rattle.wesl_tree_syntax.specs.View.{global_view}
use Rattle.wesl_text_form.specs.Productions.{a_bare_declaration, a_declaration}
use Rattle.wesl_text_read.specs.Levels.{inner}
use Rattle.wesl_text_read_imports.proofs.Parts.{placed_reads, spanned-by}
use Rattle.wesl_text_read_unit.proofs.declaration.declaration.Goals as goal

pub returns : goal.returns
returns c =
    let n = c.args.reader.now.levels in
    placed_reads global_view declaration_node (inner n a_declaration) (inner n a_bare_declaration) c.bare_declaration-node.result c.placed.result (λ ts. spanned-by declaration_node (inner n a_bare_declaration ts)) c.bare_declaration-node.ensures c.placed.ensures
