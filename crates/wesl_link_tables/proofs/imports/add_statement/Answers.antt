use Rattle.std.proofs.Common.{◌∙◌, ◌++◌, ap, map}
use Rattle.wesl_tree_syntax.specs.View.{import_view as statement_view}
use Rattle.wesl_link_tables.specs.Imports.{statement_imports}
use Rattle.wesl_link_tables.specs.Numbering.{path_in}
use Rattle.wesl_link_tables.specs.NumbersView.{paths_of}
use Rattle.wesl_link_tables.specs.Walks.{import_view}
use Rattle.wesl_link_tables.proofs.Known.{found_same}
use Rattle.wesl_link_tables.proofs.Walked.{statement_is}
use Rattle.wesl_link_tables.proofs.imports.add_statement.Goals as goal

pub returns-clause-imports : goal.returns-clause-imports
returns-clause-imports c =
    let own = path_in (paths_of c.args.paths.now) c.args.own in
    let first = paths_of c.args.paths.now in
    let now = paths_of c.base_after.new.paths in
    let stays = found_same first now c.base_after.ensures.grows c.args.found.now.items c.requires.known in
    c.in_ok-add_content.ensures.imports
    ∙ (statement_is own c.args.statement.now c.args.stands c.is_published-published.result _ (map (import_view now) c.args.found.now.items) c.is_published-published.ensures c.in_ok-base.ensures.base
    ∙ ap (λ js. js ++ statement_imports own c.args.stands (statement_view c.args.statement.now).children) stays)
