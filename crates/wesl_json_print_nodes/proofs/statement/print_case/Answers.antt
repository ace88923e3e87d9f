use Rattle.std.proofs.Common.{rules}
use Rattle.wesl_json_print_nodes.proofs.Adding.{lawful, then}
use Rattle.wesl_json_print_nodes.proofs.Statements.{default_case, expression_case}
use Rattle.wesl_json_print_nodes.proofs.statement.print_case.Goals as goal

pub returns-in-Default : goal.returns-in-Default
returns-in-Default g c =
    let l = lawful g.met.S.Sink.none g.met.S.Sink.more in
    let steps = then l c.begin.ensures (then l c.text_at.ensures c.close.ensures) in
    default_case c.args.spans c.args.names.now c.args.selector.now (search rules) steps

pub returns-in-Expression : goal.returns-in-Expression
returns-in-Expression g c = expression_case c.args.spans c.args.names.now c.args.selector.now c.in-Expression.expression (search rules) c.print_expression.ensures
