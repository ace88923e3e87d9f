use Rattle.std.proofs.Common.{ap, codes, rules}
use Rattle.std.specs.Box.{box_value}
use Rattle.wesl_json_print_nodes.specs.Events.{events}
use Rattle.serde_json.specs.Data.{string}
use Rattle.wesl_tree_names.specs.Path.{path_view}
use Rattle.wesl_tree_names.specs.PathText.{to_text}
use Rattle.wesl_tree_syntax.specs.View.{boxed_path}
use Rattle.wesl_json_form.specs.Schema.{a_path, leaf}
use Rattle.wesl_json_words.proofs.Expressions.{path-value}
use Rattle.wesl_json_print_nodes.proofs.Adding.{lawful, keyed, told}
use Rattle.wesl_json_print_nodes.proofs.Parts.{no_option, some_option}
use Rattle.wesl_json_print_nodes.proofs.expression.print_optional_path.Goals as goal

pub returns-in-Some : goal.returns-in-Some
returns-in-Some g c =
    let l = lawful g.met.S.Sink.none g.met.S.Sink.more in
    let steps = keyed l c.key.ensures (told (ap (λ p. events (string (to_text (path_view p)))) c.deref.ensures) c.path.ensures) in
    some_option c.args.spans c.args.names.now (codes "path") (leaf a_path) boxed_path c.args.path.now c.in-Some.path _ (search rules) (path-value c.args.spans c.args.names.now (box_value c.in-Some.path)) steps

pub returns-in-None : goal.returns-in-None
returns-in-None g c =
    let l = lawful g.met.S.Sink.none g.met.S.Sink.more in
    no_option c.args.spans c.args.names.now (codes "path") (leaf a_path) boxed_path l c.args.out.now c.args.path.now (search rules)
