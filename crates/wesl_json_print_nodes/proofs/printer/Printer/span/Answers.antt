use Rattle.std.proofs.Common.{sym, ◌∙◌}
use Rattle.wesl_json_print_nodes.proofs.Adding.{lawful, then}
use Rattle.wesl_json_print_nodes.proofs.Parts.{span_hidden, span_shown}
use Rattle.wesl_json_print_nodes.proofs.printer.Printer.span.Goals as goal

pub returns-then-is_shown : goal.returns-then-is_shown
returns-then-is_shown g c =
    let l = lawful g.met.S.Sink.none g.met.S.Sink.more in
    let steps = then l c.key.ensures (then l c.begin_list.ensures (then l c.number.ensures (then l c.number-then-is_shown.ensures c.close_list.ensures))) in
    λ k. span_shown c.args.spans k c.args.span (sym (c.is_shown.ensures k) ∙ c.if-is_shown.true) steps

pub returns-else-is_shown : goal.returns-else-is_shown
returns-else-is_shown g c =
    let l = lawful g.met.S.Sink.none g.met.S.Sink.more in
    λ k. span_hidden c.args.spans k c.args.span l _ (sym (c.is_shown.ensures k) ∙ c.if-is_shown.false)
