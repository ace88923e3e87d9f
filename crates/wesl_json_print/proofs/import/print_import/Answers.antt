use Rattle.std.proofs.Common.{codes}
use Rattle.wesl_tree_syntax.specs.Tree.{import_node}
use Rattle.wesl_tree_syntax.specs.View.{path_tree}
use Rattle.wesl_json_form.specs.Schema.{a_path, leaf}
use Rattle.wesl_json_print_nodes.proofs.Adding.{keyed, lawful, then}
use Rattle.wesl_json_print_nodes.proofs.Parts.{option_added, span_added}
use Rattle.wesl_json_print.proofs.Imports.{import_printed}
use Rattle.wesl_json_print.proofs.import.print_import.Goals as goal

pub returns : goal.returns
returns g c =
    let l = lawful g.met.S.Sink.none g.met.S.Sink.more in
    let steps = then l c.begin.ensures (then l c.print_attributes.ensures (then l (keyed l c.key.ensures c.print_content.ensures) (then l (option_added c.args.spans c.args.names.now (codes "path") (leaf a_path) path_tree _ c.print_optional_path.ensures) (then l (span_added c.args.spans import_node c.args.span (c.span.ensures import_node)) c.close.ensures)))) in
    import_printed c.args.spans c.args.names.now c.args.span c.args.import.now steps
