use Rattle.std.proofs.Common.{sym, ◌∙◌}
use Rattle.wesl_tree_syntax.specs.Tree.{attribute_node}
use Rattle.wesl_json_print_nodes.proofs.Adding.{lawful, then}
use Rattle.wesl_json_print_nodes.proofs.Parts.{span_added}
use Rattle.wesl_json_print_nodes.proofs.Attributes.{bare_word, placed_word}
use Rattle.wesl_json_print_nodes.proofs.attribute.print_word.Goals as goal

pub returns-then-is_shown : goal.returns-then-is_shown
returns-then-is_shown g c =
    let l = lawful g.met.S.Sink.none g.met.S.Sink.more in
    let steps = then l c.begin.ensures (then l c.text_at.ensures (then l (span_added c.args.spans attribute_node c.args.span (c.span.ensures attribute_node)) c.close.ensures)) in
    placed_word c.args.spans c.args.span c.args.word.now (sym (c.is_shown.ensures attribute_node) ∙ c.if-is_shown.true) steps

pub returns-else-is_shown : goal.returns-else-is_shown
returns-else-is_shown g c = bare_word c.args.spans c.args.span c.args.word.now (sym (c.is_shown.ensures attribute_node) ∙ c.if-is_shown.false) c.text.ensures
