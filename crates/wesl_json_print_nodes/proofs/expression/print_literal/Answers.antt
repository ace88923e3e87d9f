use Rattle.std.proofs.Common.{rules}
use Rattle.wesl_tree_syntax.specs.Tree.{expression_node}
use Rattle.wesl_json_print_nodes.proofs.Adding.{lawful, text_is, then}
use Rattle.wesl_json_print_nodes.proofs.Parts.{span_added}
use Rattle.wesl_json_print_nodes.proofs.Expressions.{text_literal, truth_literal}
use Rattle.wesl_json_print_nodes.proofs.expression.print_literal.Goals as goal

pub returns-in-Bool : goal.returns-in-Bool
returns-in-Bool g c = truth_literal c.args.spans c.args.names.now c.args.span c.args.literal.now c.in-Bool.truth (search rules) c.print_truth.ensures

pub returns-in-Text : goal.returns-in-Text
returns-in-Text g c =
    let l = lawful g.met.S.Sink.none g.met.S.Sink.more in
    let steps = then l c.begin.ensures (then l c.text_at.ensures (then l (span_added c.args.spans expression_node c.args.span (c.span.ensures expression_node)) (then l (text_is c.as_str.ensures.value c.text_at-in-Text.ensures) c.close.ensures))) in
    text_literal c.args.spans c.args.names.now c.args.span c.args.literal.now c.in-Text.text (search rules) steps
