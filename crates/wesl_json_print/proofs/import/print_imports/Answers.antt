use Rattle.std.proofs.Common.{codes, rules}
use Rattle.std.proofs.lemmas.Grind.{common_steps}
use Rattle.wesl_tree_syntax.specs.Tree.{import_node}
use Rattle.wesl_tree_syntax.specs.View.{import_view, placed}
use Rattle.wesl_json_form.specs.Schema.{an_import}
use Rattle.wesl_json_print_nodes.proofs.Adding.{lawful}
use Rattle.wesl_json_print_nodes.proofs.Lists.{no_nodes, some_nodes}
use Rattle.wesl_json_print.proofs.import.print_imports.Goals as goal

pub returns-then-not-is_empty : goal.returns-then-not-is_empty
returns-then-not-is_empty g c =
    let l = lawful g.met.S.Sink.none g.met.S.Sink.more in
    some_nodes c.args.spans c.args.names.now an_import (placed import_view import_node) l c.args.imports.now.items (codes "imports") (search (rules, common_steps)) c.key.ensures c.print_each.ensures

pub returns-else-not-is_empty : goal.returns-else-not-is_empty
returns-else-not-is_empty g c =
    let l = lawful g.met.S.Sink.none g.met.S.Sink.more in
    no_nodes c.args.spans c.args.names.now an_import (placed import_view import_node) c.args.imports.now.items (codes "imports") l c.args.out.now (search (rules, common_steps))
