use Rattle.wesl_json_print_nodes.proofs.Adding.{lawful}
use Rattle.std.proofs.Common.{codes, rules}
use Rattle.std.proofs.lemmas.Grind.{common_steps}
use Rattle.wesl_tree_syntax.specs.View.{selector_view}
use Rattle.wesl_json_form.specs.Schema.{a_case}
use Rattle.wesl_json_print_nodes.proofs.Lists.{no_nodes, some_nodes}
use Rattle.wesl_json_print_nodes.proofs.statement.print_cases.Goals as goal

pub returns-then-not-is_empty : goal.returns-then-not-is_empty
returns-then-not-is_empty g c =
    let l = lawful g.met.S.Sink.none g.met.S.Sink.more in
    some_nodes c.args.spans c.args.names.now a_case selector_view l c.args.selectors.now.items (codes "cases") (search (rules, common_steps)) c.key.ensures c.print_each_case.ensures

pub returns-else-not-is_empty : goal.returns-else-not-is_empty
returns-else-not-is_empty g c =
    let l = lawful g.met.S.Sink.none g.met.S.Sink.more in
    no_nodes c.args.spans c.args.names.now a_case selector_view c.args.selectors.now.items (codes "cases") l c.args.out.now (search (rules, common_steps))
