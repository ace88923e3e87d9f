use Rattle.std.proofs.Common.{codes, refl}
use Rattle.wesl_tree_syntax.specs.Tree.{attributes, before, binder, end, ident, leaf as tree_leaf, member_node, members, struct}
use Rattle.wesl_tree_syntax.specs.View.{attributes_tree, listed, member_view, placed}
use Rattle.wesl_text_tokens.specs.declared.symbol.Symbol.TheVariants as is
use Rattle.wesl_text_form.specs.Productions.{a_bare_declaration, a_member, an_attribute, an_ident, attrs, commas, leaf, nothing, says, sym as sign}
use Rattle.wesl_text_read_imports.specs.Nodes.{kind_at}
use Rattle.wesl_text_read_imports.proofs.Closed.{reads_closed}
use Rattle.wesl_text_read_imports.proofs.Parts.{node_reads, reads_end, reads_leaf, reads_run, reads_says, reads_sign}
use Rattle.wesl_text_read_unit.proofs.structure.structure.Goals as goal

pub returns : goal.returns
returns c =
    let label = ident binder c.ident-ident.result.0 in
    let list = listed (placed member_view member_node) members c.members-members.result in
    let closed = commas members a_member (sign is.BraceRight nothing) in
    let behind = sign is.BraceLeft closed in
    let row = says (codes "struct") (leaf (an_ident binder) behind) in
    let trees = before (tree_leaf label) (before list end) in
    node_reads (λ n. kind_at n a_bare_declaration struct) struct (attrs row) (before (attributes_tree c.attributes-attributes.result) trees) (λ n ts. refl)
    (reads_run attributes an_attribute row (attributes_tree c.attributes-attributes.result) trees c.attributes-attributes.ensures
    (reads_says (codes "struct") (leaf (an_ident binder) behind) trees c.skip_word.ensures
    (reads_leaf (an_ident binder) behind label (before list end) (c.ident-ident.ensures binder)
    (reads_sign is.BraceLeft closed (before list end) c.skip_sign.ensures
    (reads_closed members a_member is.BraceRight nothing list end c.members-members.ensures reads_end)))))
