use Rattle.std.proofs.Common.{ap, sym, ◌∙◌}
use Rattle.wesl_text_print.specs.Printing.{only_if}
use Rattle.wesl_text_print.proofs.Adding.{after_blank, lawful, none, one, then, told}
use Rattle.wesl_text_print_statements.specs.Parts.{row_below}
use Rattle.wesl_text_print_statements.specs.Variables.{variable_row}
use Rattle.wesl_text_print_statements.proofs.Variables.{variable_printed}
use Rattle.wesl_tree_syntax.specs.View.{declaration_view}
use Rattle.wesl_text_print_statements.proofs.variable.print_variable.Goals as goal

pub returns-then-has_what_it_needs : goal.returns-then-has_what_it_needs
returns-then-has_what_it_needs g c =
    let l = lawful g.met.S.TokenSink.none g.met.S.TokenSink.more in
    told (variable_printed c.args.names.now c.args.declaration.now (sym (c.has_what_it_needs.ensures c.args.names.now) ∙ c.if-has_what_it_needs.true))
    (then l c.print_attributes.ensures (then l c.print_kind.ensures (after_blank l c.space.ensures (then l c.print_name.ensures (then l c.print_typed.ensures (then l c.print_value.ensures (none l)))))))

pub returns-else-has_what_it_needs : goal.returns-else-has_what_it_needs
returns-else-has_what_it_needs g c =
    let l = lawful g.met.S.TokenSink.none g.met.S.TokenSink.more in
    told (ap (λ b. only_if b (row_below c.args.names.now variable_row (declaration_view c.args.declaration.now))) (sym c.if-has_what_it_needs.false ∙ c.has_what_it_needs.ensures c.args.names.now)) (one l c.refuse.ensures)
