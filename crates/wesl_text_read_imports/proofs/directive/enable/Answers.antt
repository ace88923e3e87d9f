use Rattle.std.proofs.Common.{codes, map, refl, string_bytes}
use Rattle.wesl_tree_syntax.specs.Tree.{attributes, before, end, enable_directive, leaf as tree_leaf, texts}
use Rattle.wesl_tree_syntax.specs.View.{attributes_tree}
use Rattle.wesl_text_tokens.specs.declared.symbol.Symbol.TheVariants as is
use Rattle.wesl_text_form.specs.Productions.{a_bare_directive, an_attribute, attrs, leaf, nothing, says, some_words, sym as sign}
use Rattle.wesl_text_read_imports.specs.Nodes.{kind_at}
use Rattle.wesl_text_read_imports.proofs.Parts.{node_reads, reads_end, reads_leaf, reads_run, reads_says, reads_sign}
use Rattle.wesl_text_read_imports.proofs.directive.enable.Goals as goal

pub returns : goal.returns
returns c =
    let label = texts (map string_bytes c.names-names.result.items) in
    let last = sign is.Semicolon nothing in
    let row = says (codes "enable") (leaf some_words last) in
    let trees = before (tree_leaf label) end in
    node_reads (λ n. kind_at n a_bare_directive enable_directive) enable_directive (attrs row) (before (attributes_tree c.attributes-attributes.result) trees) (λ n ts. refl)
    (reads_run attributes an_attribute row (attributes_tree c.attributes-attributes.result) trees c.attributes-attributes.ensures
    (reads_says (codes "enable") (leaf some_words last) trees c.skip_word.ensures
    (reads_leaf some_words last label end c.names-names.ensures
    (reads_sign is.Semicolon nothing end c.skip_sign.ensures reads_end))))
