use Rattle.std.proofs.Common.{not, ap, sym, ◌∙◌}
use Rattle.wesl_text_print.specs.Printing.{only_if}
use Rattle.wesl_text_print.proofs.Adding.{lawful, one, told}
use Rattle.wesl_text_print_statements.specs.Variables.{variable_slots}
use Rattle.wesl_text_print_unit.proofs.Declarations.{global_printed}
use Rattle.wesl_text_print_unit.proofs.declaration.print_global.Goals as goal

pub returns-then-is_let : goal.returns-then-is_let
returns-then-is_let g c =
    let l = lawful g.met.S.TokenSink.none g.met.S.TokenSink.more in
    told (ap (λ b. only_if (not b) (variable_slots c.args.names.now c.args.declaration.now)) (sym c.if-is_let.true ∙ c.is_let.ensures) ∙ global_printed c.args.names.now c.args.declaration.now) (one l c.refuse.ensures)

pub returns-else-is_let : goal.returns-else-is_let
returns-else-is_let g c =
    told (ap (λ b. only_if (not b) (variable_slots c.args.names.now c.args.declaration.now)) (sym c.if-is_let.false ∙ c.is_let.ensures) ∙ global_printed c.args.names.now c.args.declaration.now) c.print_variable.ensures
