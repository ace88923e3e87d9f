use Rattle.wesl_json_print_nodes.proofs.Adding.{lawful}
use Rattle.std.proofs.Common.{refl, rules}
use Rattle.wesl_tree_syntax.specs.View.{type_view}
use Rattle.wesl_json_form.specs.Schema.{a_type, node}
use Rattle.wesl_json_print_nodes.proofs.Parts.{no_option, some_option}
use Rattle.wesl_json_print_nodes.proofs.expression.print_optional_type.Goals as goal

pub returns-in-Some : goal.returns-in-Some
returns-in-Some g c = some_option c.args.spans c.args.names.now c.args.key.now (node a_type) type_view c.args.ty.now c.in-Some.ty _ (search rules) refl c.print_type_at.ensures

pub returns-in-None : goal.returns-in-None
returns-in-None g c =
    let l = lawful g.met.S.Sink.none g.met.S.Sink.more in
    no_option c.args.spans c.args.names.now c.args.key.now (node a_type) type_view l c.args.out.now c.args.ty.now (search rules)
