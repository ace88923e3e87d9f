use Rattle.std.proofs.Common.{codes, refl, true}
use Rattle.wesl_tree_syntax.specs.Tree.{attributes, before, end, import_statement}
use Rattle.wesl_tree_syntax.specs.View.{attributes_tree, content_view, optional as option_view, path_tree}
use Rattle.wesl_text_tokens.specs.declared.symbol.Symbol.TheVariants as is
use Rattle.wesl_text_form.specs.Productions.{a_bare_import, a_content, a_path, an_attribute, attrs, leaf, nothing, optional, own, says, sym as sign}
use Rattle.wesl_text_read.specs.Levels.{inner}
use Rattle.wesl_text_read_imports.proofs.Parts.{node_reads, reads_end, reads_optional, reads_own, reads_run, reads_says, reads_sign}
use Rattle.wesl_text_read_imports.proofs.import.bare_import.Goals as goal

pub returns : goal.returns
returns c =
    let path = option_view path_tree c.optional_package_path-path.result in
    let content = content_view c.content-content.result in
    let last = sign is.Semicolon nothing in
    let path_row = leaf (a_path true) nothing in
    let behind = optional path_row (own a_content last) in
    let trees = before path (before content end) in
    node_reads (λ n. inner n a_bare_import) import_statement (attrs (says (codes "import") behind)) (before (attributes_tree c.attributes-attributes.result) trees) (λ n ts. refl)
    (reads_run attributes an_attribute (says (codes "import") behind) (attributes_tree c.attributes-attributes.result) trees c.attributes-attributes.ensures
    (reads_says (codes "import") behind trees c.skip_word.ensures
    (reads_optional path_row (own a_content last) path (before content end) c.optional_package_path-path.ensures
    (reads_own a_content last content end c.content-content.ensures
    (reads_sign is.Semicolon nothing end c.skip_sign.ensures reads_end)))))
