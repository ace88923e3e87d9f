use Rattle.std.proofs.Common.{ap, rules}
use Rattle.wesl_json_print_nodes.specs.Events.{events}
use Rattle.serde_json.specs.Data.{string}
use Rattle.wesl_tree_names.specs.Path.{path_view}
use Rattle.wesl_tree_names.specs.PathText.{to_text}
use Rattle.wesl_tree_syntax.specs.Tree.{expression_node}
use Rattle.wesl_json_print_nodes.proofs.Adding.{lawful, keyed, then, told}
use Rattle.wesl_json_print_nodes.proofs.Parts.{span_added}
use Rattle.wesl_json_print_nodes.proofs.Expressions.{pathed_name, plain_name}
use Rattle.wesl_json_print_nodes.proofs.expression.print_plain_type.Goals as goal

pub returns-in-None : goal.returns-in-None
returns-in-None g c = plain_name c.args.spans c.args.names.now c.args.span c.args.path.now c.args.ident _ (search rules) c.spelling-name.ensures c.print_name.ensures

pub returns-in-Some : goal.returns-in-Some
returns-in-Some g c =
    let l = lawful g.met.S.Sink.none g.met.S.Sink.more in
    let steps = then l c.begin.ensures (then l c.text_at.ensures (then l (keyed l c.key.ensures (told (ap (λ p. events (string (to_text (path_view p)))) c.deref.ensures) c.path.ensures)) (then l (span_added c.args.spans expression_node c.args.span (c.span.ensures expression_node)) c.close.ensures))) in
    pathed_name c.args.spans c.args.names.now c.args.span c.args.path.now c.in-Some.path c.args.ident _ (search rules) c.spelling-name.ensures steps
