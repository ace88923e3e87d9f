use Rattle.std.proofs.Common.{refl, string_bytes}
use Rattle.wesl_tree_syntax.specs.Tree.{attributes, before, end, leaf as tree_leaf, member, text}
use Rattle.wesl_tree_syntax.specs.View.{attributes_tree, type_view}
use Rattle.wesl_text_tokens.specs.declared.symbol.Symbol.TheVariants as is
use Rattle.wesl_text_form.specs.Productions.{a_bare_member, a_name, a_type, an_attribute, attrs, leaf, nothing, own, sym as sign}
use Rattle.wesl_text_read.specs.Levels.{inner}
use Rattle.wesl_text_read_imports.proofs.Parts.{node_reads, reads_end, reads_leaf, reads_own, reads_run, reads_sign}
use Rattle.wesl_text_read_unit.proofs.structure.bare_member.Goals as goal

pub returns : goal.returns
returns c =
    let label = text (string_bytes c.name-name.result) in
    let ty = type_view c.type_expression-ty.result in
    let behind = sign is.Colon (own a_type nothing) in
    let trees = before (tree_leaf label) (before ty end) in
    node_reads (λ n. inner n a_bare_member) member (attrs (leaf a_name behind)) (before (attributes_tree c.attributes-attributes.result) trees) (λ n ts. refl)
    (reads_run attributes an_attribute (leaf a_name behind) (attributes_tree c.attributes-attributes.result) trees c.attributes-attributes.ensures
    (reads_leaf a_name behind label (before ty end) c.name-name.ensures
    (reads_sign is.Colon (own a_type nothing) (before ty end) c.skip_sign.ensures
    (reads_own a_type nothing ty end c.type_expression-ty.ensures reads_end))))
