use Rattle.std.proofs.Common.{codes, refl}
use Rattle.wesl_tree_syntax.specs.Tree.{attributes, before, binder, end, ident, leaf as tree_leaf, type_alias}
use Rattle.wesl_tree_syntax.specs.View.{attributes_tree, type_view}
use Rattle.wesl_text_tokens.specs.declared.symbol.Symbol.TheVariants as is
use Rattle.wesl_text_form.specs.Productions.{a_bare_declaration, a_type, an_attribute, an_ident, attrs, leaf, nothing, own, says, sym as sign}
use Rattle.wesl_text_read_imports.specs.Nodes.{kind_at}
use Rattle.wesl_text_read_imports.proofs.Parts.{node_reads, reads_end, reads_leaf, reads_own, reads_run, reads_says, reads_sign}
use Rattle.wesl_text_read_unit.proofs.declaration.alias.Goals as goal

pub returns : goal.returns
returns c =
    let label = ident binder c.ident-ident.result.0 in
    let ty = type_view c.type_expression-ty.result in
    let last = sign is.Semicolon nothing in
    let behind = sign is.Equal (own a_type last) in
    let row = says (codes "alias") (leaf (an_ident binder) behind) in
    let trees = before (tree_leaf label) (before ty end) in
    node_reads (λ n. kind_at n a_bare_declaration type_alias) type_alias (attrs row) (before (attributes_tree c.attributes-attributes.result) trees) (λ n ts. refl)
    (reads_run attributes an_attribute row (attributes_tree c.attributes-attributes.result) trees c.attributes-attributes.ensures
    (reads_says (codes "alias") (leaf (an_ident binder) behind) trees c.skip_word.ensures
    (reads_leaf (an_ident binder) behind label (before ty end) (c.ident-ident.ensures binder)
    (reads_sign is.Equal (own a_type last) (before ty end) c.skip_sign.ensures
    (reads_own a_type last ty end c.type_expression-ty.ensures
    (reads_sign is.Semicolon nothing end c.skip_sign-2.ensures reads_end))))))
