use Rattle.wesl_json_print_nodes.proofs.Adding.{lawful}
use Rattle.std.proofs.Common.{rules}
use Rattle.std.proofs.lemmas.Grind.{common_steps}
use Rattle.wesl_tree_syntax.specs.Tree.{attribute_node}
use Rattle.wesl_tree_syntax.specs.View.{attribute_view, placed}
use Rattle.wesl_json_form.specs.Schema.{an_attribute}
use Rattle.wesl_json_print_nodes.proofs.Lists.{no_nodes, some_nodes}
use Rattle.wesl_json_print_nodes.proofs.attribute.print_attributes.Goals as goal

pub returns-then-not-is_empty : goal.returns-then-not-is_empty
returns-then-not-is_empty g c =
    let l = lawful g.met.S.Sink.none g.met.S.Sink.more in
    some_nodes c.args.spans c.args.names.now an_attribute (placed attribute_view attribute_node) l c.args.attributes.now.items c.args.key.now (search (rules, common_steps)) c.key.ensures c.print_each.ensures

pub returns-else-not-is_empty : goal.returns-else-not-is_empty
returns-else-not-is_empty g c =
    let l = lawful g.met.S.Sink.none g.met.S.Sink.more in
    no_nodes c.args.spans c.args.names.now an_attribute (placed attribute_view attribute_node) c.args.attributes.now.items c.args.key.now l c.args.out.now (search (rules, common_steps))
