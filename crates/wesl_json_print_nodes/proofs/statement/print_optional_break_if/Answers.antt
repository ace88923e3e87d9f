use Rattle.std.proofs.Common.{codes, refl, rules}
use Rattle.wesl_tree_syntax.specs.View.{break_if_view}
use Rattle.wesl_json_form.specs.Schema.{a_break_if, node}
use Rattle.wesl_json_print_nodes.proofs.Adding.{lawful, keyed}
use Rattle.wesl_json_print_nodes.proofs.Parts.{no_option, some_option}
use Rattle.wesl_json_print_nodes.proofs.statement.print_optional_break_if.Goals as goal

pub returns-in-Some : goal.returns-in-Some
returns-in-Some g c =
    let l = lawful g.met.S.Sink.none g.met.S.Sink.more in
    let steps = keyed l c.key.ensures c.print_break_if.ensures in
    some_option c.args.spans c.args.names.now (codes "break_if") (node a_break_if) break_if_view c.args.break_if.now c.in-Some.break_if _ (search rules) refl steps

pub returns-in-None : goal.returns-in-None
returns-in-None g c =
    let l = lawful g.met.S.Sink.none g.met.S.Sink.more in
    no_option c.args.spans c.args.names.now (codes "break_if") (node a_break_if) break_if_view l c.args.out.now c.args.break_if.now (search rules)
