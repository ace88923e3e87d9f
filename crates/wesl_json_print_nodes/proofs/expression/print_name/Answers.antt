use Rattle.serde_json.specs.Data.{string}
use Rattle.std.proofs.Common.{sym, ◌∙◌}
use Rattle.wesl_tree_syntax.specs.Tree.{expression_node}
use Rattle.wesl_json_print_nodes.proofs.Adding.{lawful, then}
use Rattle.wesl_json_print_nodes.proofs.Parts.{span_added}
use Rattle.wesl_json_print_nodes.proofs.Expressions.{placed_name, unplaced}
use Rattle.wesl_json_print_nodes.proofs.expression.print_name.Goals as goal

pub returns-then-is_shown : goal.returns-then-is_shown
returns-then-is_shown g c =
    let l = lawful g.met.S.Sink.none g.met.S.Sink.more in
    let steps = then l c.begin.ensures (then l c.text_at.ensures (then l (span_added c.args.spans expression_node c.args.span (c.span.ensures expression_node)) c.close.ensures)) in
    placed_name c.args.spans c.args.span c.args.name.now (sym (c.is_shown.ensures expression_node) ∙ c.if-is_shown.true) steps

pub returns-else-is_shown : goal.returns-else-is_shown
returns-else-is_shown g c = unplaced c.args.spans c.args.span (string c.args.name.now) (sym (c.is_shown.ensures expression_node) ∙ c.if-is_shown.false) c.text.ensures
