use Rattle.std.proofs.Common.{ap, sym, ◌∙◌}
use Rattle.wesl_tree_names.specs.Path.{from_package}
use Rattle.wesl_text_print.proofs.Adding.{told}
use Rattle.wesl_text_print_unit.specs.Units.{import_beginning_slots}
use Rattle.wesl_text_print_unit.proofs.Imports.{origin_printed, relative_printed}
use Rattle.wesl_text_print_unit.proofs.import.print_import_origin.Goals as goal

pub returns-in-Absolute : goal.returns-in-Absolute
returns-in-Absolute g c = told (ap origin_printed (sym c.in-Absolute.is)) c.print_step.ensures

pub returns-in-Relative : goal.returns-in-Relative
returns-in-Relative g c = told (relative_printed c.in-Relative.up ∙ ap origin_printed (sym c.in-Relative.is)) c.print_relative.ensures

pub returns-in-Package : goal.returns-in-Package
returns-in-Package g c = told (ap (λ t. import_beginning_slots (from_package t)) c.as_str.ensures.value ∙ ap origin_printed (sym c.in-Package.is)) c.print_import_package.ensures
