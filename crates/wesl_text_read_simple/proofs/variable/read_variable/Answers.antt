use Rattle.wesl_tree_syntax.specs.Tree.{attributes, before, binder, end, ident, leaf as tree_leaf}
use Rattle.wesl_tree_syntax.specs.View.{attributes_tree, expression_tree, kind_tree, optional as option_view, type_view}
use Rattle.wesl_text_tokens.specs.declared.symbol.Symbol.TheVariants as is
use Rattle.wesl_text_form.specs.Productions.{Row, a_kind, a_type, an_attribute, an_expression, an_ident, leaf, nothing, optional, own, sym as sign}
use Rattle.wesl_text_read_simple.proofs.Parted.{part_ends, part_leaf, part_optional, part_own, part_run}
use Rattle.wesl_text_read_simple.proofs.variable.read_variable.Goals as goal

abbrev value_row : Row
value_row = optional (sign is.Equal (own an_expression nothing)) nothing

abbrev typed_row : Row
typed_row = optional (sign is.Colon (own a_type nothing)) value_row

pub returns : goal.returns
returns c =
    let held = attributes_tree c.attributes-attributes.result in
    let declared = kind_tree c.read_kind-kind.result in
    let label = ident binder c.ident-ident.result.0 in
    let ty = option_view type_view c.optional_type-ty.result in
    let value = option_view expression_tree c.optional_value-initializer.result in
    part_run (own a_kind (leaf (an_ident binder) typed_row)) attributes an_attribute held (before declared (before (tree_leaf label) (before ty (before value end)))) c.attributes-attributes.ensures
    (part_own (leaf (an_ident binder) typed_row) a_kind declared (before (tree_leaf label) (before ty (before value end))) c.read_kind-kind.ensures
    (part_leaf typed_row (an_ident binder) label (before ty (before value end)) (c.ident-ident.ensures binder)
    (part_optional value_row (sign is.Colon (own a_type nothing)) ty (before value end) c.optional_type-ty.ensures
    (part_optional nothing (sign is.Equal (own an_expression nothing)) value end c.optional_value-initializer.ensures part_ends))))
