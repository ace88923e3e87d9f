use Rattle.wesl_json_print_nodes.proofs.Adding.{lawful}
use Rattle.std.proofs.Common.{rules, sym}
use Rattle.wesl_tree_syntax.specs.Tree.{expression_node}
use Rattle.wesl_tree_syntax.specs.View.{expression_tree, expression_view}
use Rattle.wesl_json_form.specs.Schema.{an_expression, node}
use Rattle.wesl_json_words.proofs.Lists.{placed-value}
use Rattle.wesl_json_print_nodes.proofs.Parts.{no_option, some_option}
use Rattle.wesl_json_print_nodes.proofs.expression.print_optional_expression.Goals as goal

pub returns-in-Some : goal.returns-in-Some
returns-in-Some g c = some_option c.args.spans c.args.names.now c.args.key.now (node an_expression) expression_tree c.args.expression.now c.in-Some.expression _ (search rules) (sym (placed-value c.args.spans c.args.names.now an_expression expression_view expression_node c.in-Some.expression)) c.print_expression_at.ensures

pub returns-in-None : goal.returns-in-None
returns-in-None g c =
    let l = lawful g.met.S.Sink.none g.met.S.Sink.more in
    no_option c.args.spans c.args.names.now c.args.key.now (node an_expression) expression_tree l c.args.out.now c.args.expression.now (search rules)
