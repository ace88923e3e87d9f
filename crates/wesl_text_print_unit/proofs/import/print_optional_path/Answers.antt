use Rattle.std.proofs.Common.{[], ap, sym, ◌∙◌}
use Rattle.wesl_text_print.proofs.Adding.{nothing_behind, told}
use Rattle.wesl_text_print_statements.specs.Parts.{option_in}
use Rattle.wesl_tree_syntax.specs.View.{path_tree}
use Rattle.wesl_text_print_unit.specs.Units.{import_path_row}
use Rattle.wesl_text_print_unit.proofs.import.print_optional_path.Goals as goal

pub returns-in-Some : goal.returns-in-Some
returns-in-Some g c = told (sym (nothing_behind _) ∙ ap (option_in [] import_path_row path_tree) (sym c.in-Some.is)) c.print_import_path.ensures
