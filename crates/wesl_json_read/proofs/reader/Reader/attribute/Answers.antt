use Rattle.wesl_json_form.specs.Schema.{an_attribute, fixed}
use Rattle.wesl_json_form.specs.View.{borrowed_view}
use Rattle.wesl_tree_syntax.specs.Tree.{attribute_node, kind}
use Rattle.wesl_tree_syntax.specs.View.{attribute_view}
use Rattle.wesl_json_read.specs.Forms.{attribute_kind, attribute_row, attribute_text}
use Rattle.wesl_json_read.proofs.Noting.{of_node}
use Rattle.wesl_json_read.proofs.Worded.{node-place, node-reads, node-span}
use Rattle.wesl_json_read.proofs.reader.Reader.attribute.Goals as goal

pub returns : goal.returns
returns c =
    let d = borrowed_view c.args.value.now in
    let w = c.attribute_word-word.result in
    of_node
    (λ spans a b word span r. node-reads spans an_attribute attribute_node (attribute_text w) (fixed (kind (attribute_kind w))) (attribute_row w) d word.0 word.1 _ _ (attribute_view c.worded_attribute.result) a b span r)
    (λ spans x word bad. node-span spans an_attribute attribute_node (attribute_text w) (fixed (kind (attribute_kind w))) (attribute_row w) d word.0 word.1 x bad)
    (λ spans x word bad. node-place spans an_attribute attribute_node (attribute_text w) (fixed (kind (attribute_kind w))) (attribute_row w) d word.0 word.1 x bad)
    c.attribute_word-word.ensures c.span.ensures c.worded_attribute.ensures
