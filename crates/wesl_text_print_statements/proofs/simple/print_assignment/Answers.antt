use Rattle.std.proofs.Common.{[], ◌∷◌, Some, ap, sym, ◌∙◌}
use Rattle.wesl_text_form.specs.Operators.{assignment_symbol}
use Rattle.wesl_text_form.specs.Spelling.{followed, signed}
use Rattle.wesl_text_print.specs.Printing.{expression_slots, only_if}
use Rattle.wesl_text_print.proofs.Adding.{after_blank, lawful, none, one, then, told}
use Rattle.wesl_text_print_statements.specs.Parts.{attributes_slots}
use Rattle.wesl_text_print_statements.specs.SimpleStatements.{assigned_slots}
use Rattle.wesl_text_print_statements.proofs.SimpleStatements.{assignment_printed}
use Rattle.wesl_text_print_statements.proofs.simple.print_assignment.Goals as goal

pub returns-then-are_apart : goal.returns-then-are_apart
returns-then-are_apart g c =
    let l = lawful g.met.S.TokenSink.none g.met.S.TokenSink.more in
    told (ap (λ b. only_if b (followed (attributes_slots c.args.names.now c.args.attributes.now) (followed (assigned_slots c.args.names.now c.args.operator c.args.lhs.now.node) (followed (Some (signed (assignment_symbol c.args.operator) ∷ [])) (followed (expression_slots c.args.names.now c.args.rhs.now.node) (Some [])))))) (sym c.if-are_apart.true ∙ c.are_apart.ensures c.args.names.now) ∙ assignment_printed c.args.names.now c.args.attributes.now c.args.operator c.args.lhs.now c.args.rhs.now)
    (then l c.print_attributes.ensures (then l c.print_assigned.ensures (after_blank l c.space.ensures (then l (told (ap (λ s. Some (signed s ∷ [])) c.assignment_symbol.ensures) (one l c.symbol.ensures)) (after_blank l c.space-then-are_apart.ensures (then l c.print_expression.ensures (none l)))))))

pub returns-else-are_apart : goal.returns-else-are_apart
returns-else-are_apart g c =
    let l = lawful g.met.S.TokenSink.none g.met.S.TokenSink.more in
    told (ap (λ b. only_if b (followed (attributes_slots c.args.names.now c.args.attributes.now) (followed (assigned_slots c.args.names.now c.args.operator c.args.lhs.now.node) (followed (Some (signed (assignment_symbol c.args.operator) ∷ [])) (followed (expression_slots c.args.names.now c.args.rhs.now.node) (Some [])))))) (sym c.if-are_apart.false ∙ c.are_apart.ensures c.args.names.now) ∙ assignment_printed c.args.names.now c.args.attributes.now c.args.operator c.args.lhs.now c.args.rhs.now) (one l c.refuse.ensures)
