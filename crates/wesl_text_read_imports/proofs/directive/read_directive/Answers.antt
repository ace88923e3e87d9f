use Rattle.wesl_tree_syntax.specs.Tree.{directive_node}
use Rattle.wesl_tree_syntax.specs.View.{directive_view}
use Rattle.wesl_text_form.specs.Productions.{a_bare_directive, a_directive}
use Rattle.wesl_text_read.specs.Levels.{inner}
use Rattle.wesl_text_read_imports.proofs.Parts.{placed_reads, spanned-by}
use Rattle.wesl_text_read_imports.proofs.directive.read_directive.Goals as goal

pub returns : goal.returns
returns c =
    let n = c.args.reader.now.levels in
    placed_reads directive_view directive_node (inner n a_directive) (inner n a_bare_directive) c.bare_directive-node.result c.placed.result (λ ts. spanned-by directive_node (inner n a_bare_directive ts)) c.bare_directive-node.ensures c.placed.ensures
