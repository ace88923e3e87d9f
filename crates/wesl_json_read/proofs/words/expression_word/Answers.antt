use Rattle.std.proofs.Common.{ap, sym}
use Rattle.wesl_json_form.specs.Nodes.{all_expression_words}
use Rattle.wesl_json_form.specs.Schema.{look}
use Rattle.wesl_json_read.proofs.words.expression_word.Goals as goal

pub returns-in-lit-clause-node : goal.returns-in-lit-clause-node
returns-in-lit-clause-node c = ap (look (all_expression_words c.args.spans)) (sym c.in-lit.is)

pub returns-in-lit-clause-text : goal.returns-in-lit-clause-text
returns-in-lit-clause-text c = c.in-lit.is

pub returns-in-paren-clause-node : goal.returns-in-paren-clause-node
returns-in-paren-clause-node c = ap (look (all_expression_words c.args.spans)) (sym c.in-paren.is)

pub returns-in-paren-clause-text : goal.returns-in-paren-clause-text
returns-in-paren-clause-text c = c.in-paren.is

pub returns-in-field-clause-node : goal.returns-in-field-clause-node
returns-in-field-clause-node c = ap (look (all_expression_words c.args.spans)) (sym c.in-field.is)

pub returns-in-field-clause-text : goal.returns-in-field-clause-text
returns-in-field-clause-text c = c.in-field.is

pub returns-in-index-clause-node : goal.returns-in-index-clause-node
returns-in-index-clause-node c = ap (look (all_expression_words c.args.spans)) (sym c.in-index.is)

pub returns-in-index-clause-text : goal.returns-in-index-clause-text
returns-in-index-clause-text c = c.in-index.is

pub returns-in-unary-clause-node : goal.returns-in-unary-clause-node
returns-in-unary-clause-node c = ap (look (all_expression_words c.args.spans)) (sym c.in-unary.is)

pub returns-in-unary-clause-text : goal.returns-in-unary-clause-text
returns-in-unary-clause-text c = c.in-unary.is

pub returns-in-binary-clause-node : goal.returns-in-binary-clause-node
returns-in-binary-clause-node c = ap (look (all_expression_words c.args.spans)) (sym c.in-binary.is)

pub returns-in-binary-clause-text : goal.returns-in-binary-clause-text
returns-in-binary-clause-text c = c.in-binary.is

pub returns-in-call-clause-node : goal.returns-in-call-clause-node
returns-in-call-clause-node c = ap (look (all_expression_words c.args.spans)) (sym c.in-call.is)

pub returns-in-call-clause-text : goal.returns-in-call-clause-text
returns-in-call-clause-text c = c.in-call.is
