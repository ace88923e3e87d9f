use Rattle.std.proofs.Common.{codes, refl}
use Rattle.wesl_tree_syntax.specs.Tree.{attributes, before, binder, end, function, ident, leaf as tree_leaf, parameters}
use Rattle.wesl_tree_syntax.specs.View.{attributes_tree, compound_view, listed, optional as option_view, parameter_view, type_view}
use Rattle.wesl_text_tokens.specs.declared.symbol.Symbol.TheVariants as is
use Rattle.wesl_text_form.specs.Productions.{a_bare_declaration, a_parameter, an_attribute, an_ident, arrow, attrs, commas, leaf, says, sym as sign}
use Rattle.wesl_text_read_imports.specs.Nodes.{kind_at}
use Rattle.wesl_text_read_imports.proofs.Closed.{reads_closed}
use Rattle.wesl_text_read_imports.proofs.Parts.{node_reads, reads_leaf, reads_run, reads_says, reads_sign}
use Rattle.wesl_text_read_unit.proofs.Functions.{body_row, reads_result}
use Rattle.wesl_text_read_unit.proofs.function.function.Goals as goal

pub returns : goal.returns
returns c =
    let label = ident binder c.ident-ident.result.0 in
    let list = listed parameter_view parameters c.parameters-parameters.result in
    let given = attributes_tree c.function_result-return_attributes.result.0 in
    let ty = option_view type_view c.function_result-return_attributes.result.1 in
    let body = compound_view c.read_body-body.result in
    let last = arrow (attrs body_row) in
    let closed = commas parameters a_parameter (sign is.ParenRight last) in
    let behind = sign is.ParenLeft closed in
    let row = says (codes "fn") (leaf (an_ident binder) behind) in
    let results = before given (before ty (before body end)) in
    let trees = before (tree_leaf label) (before list results) in
    node_reads (λ n. kind_at n a_bare_declaration function) function (attrs row) (before (attributes_tree c.attributes-attributes.result) trees) (λ n ts. refl)
    (reads_run attributes an_attribute row (attributes_tree c.attributes-attributes.result) trees c.attributes-attributes.ensures
    (reads_says (codes "fn") (leaf (an_ident binder) behind) trees c.skip_word.ensures
    (reads_leaf (an_ident binder) behind label (before list results) (c.ident-ident.ensures binder)
    (reads_sign is.ParenLeft closed (before list results) c.skip_sign.ensures
    (reads_closed parameters a_parameter is.ParenRight last list results c.parameters-parameters.ensures
    (reads_result given ty body c.function_result-return_attributes.ensures c.read_body-body.ensures))))))
