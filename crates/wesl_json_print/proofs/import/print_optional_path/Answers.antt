use Rattle.std.proofs.Common.{codes, rules}
use Rattle.wesl_tree_syntax.specs.View.{path_tree}
use Rattle.wesl_json_form.specs.Schema.{a_path, leaf}
use Rattle.wesl_json_words.proofs.Expressions.{path-value}
use Rattle.wesl_json_print_nodes.proofs.Adding.{keyed, lawful}
use Rattle.wesl_json_print_nodes.proofs.Parts.{no_option, some_option}
use Rattle.wesl_json_print.proofs.import.print_optional_path.Goals as goal

pub returns-in-Some : goal.returns-in-Some
returns-in-Some g c =
    let l = lawful g.met.S.Sink.none g.met.S.Sink.more in
    let steps = keyed l c.key.ensures c.path.ensures in
    some_option c.args.spans c.args.names.now (codes "path") (leaf a_path) path_tree c.args.path.now c.in-Some.path _ (search rules) (path-value c.args.spans c.args.names.now c.in-Some.path) steps

pub returns-in-None : goal.returns-in-None
returns-in-None g c =
    let l = lawful g.met.S.Sink.none g.met.S.Sink.more in
    no_option c.args.spans c.args.names.now (codes "path") (leaf a_path) path_tree l c.args.out.now c.args.path.now (search rules)
