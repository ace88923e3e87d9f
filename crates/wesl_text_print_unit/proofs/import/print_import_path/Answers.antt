use Rattle.wesl_text_print.proofs.Adding.{lawful, then, told}
use Rattle.wesl_tree_names.specs.Path.{path_view}
use Rattle.wesl_text_print_unit.proofs.Imports.{path_printed}
use Rattle.wesl_text_print_unit.proofs.import.print_import_path.Goals as goal

pub returns : goal.returns
returns g c =
    let l = lawful g.met.S.TokenSink.none g.met.S.TokenSink.more in
    told (path_printed (path_view c.args.path.now))
    (then l c.print_import_origin.ensures c.print_steps.ensures)
