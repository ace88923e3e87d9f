use Rattle.wesl_tree_syntax.specs.Tree.{import_node}
use Rattle.wesl_tree_syntax.specs.View.{import_view}
use Rattle.wesl_text_form.specs.Productions.{a_bare_import, an_import}
use Rattle.wesl_text_read.specs.Levels.{inner}
use Rattle.wesl_text_read_imports.proofs.Parts.{placed_reads, spanned-by}
use Rattle.wesl_text_read_imports.proofs.import.read_import.Goals as goal

pub returns : goal.returns
returns c =
    let n = c.args.reader.now.levels in
    placed_reads import_view import_node (inner n an_import) (inner n a_bare_import) c.bare_import-node.result c.placed.result (λ ts. spanned-by import_node (inner n a_bare_import ts)) c.bare_import-node.ensures c.placed.ensures
