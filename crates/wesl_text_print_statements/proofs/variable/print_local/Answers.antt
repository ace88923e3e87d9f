use Rattle.std.proofs.Common.{not, ap, sym, ◌∙◌}
use Rattle.wesl_text_form.specs.Productions.{a_bare_statement}
use Rattle.wesl_text_print.specs.Printing.{only_if}
use Rattle.wesl_text_print.proofs.Adding.{lawful, one, told}
use Rattle.wesl_text_print_statements.specs.Variables.{variable_slots}
use Rattle.wesl_text_print_statements.proofs.Variables.{local_ended, unended_is}
use Rattle.wesl_tree_syntax.specs.View.{declaration_view}
use Rattle.wesl_text_print_statements.proofs.variable.print_local.Goals as goal

pub returns-then-is_override : goal.returns-then-is_override
returns-then-is_override g c =
    let l = lawful g.met.S.TokenSink.none g.met.S.TokenSink.more in
    told (ap (λ b. only_if (not b) (variable_slots c.args.names.now c.args.declaration.now)) (sym c.if-is_override.true ∙ c.is_override.ensures) ∙ unended_is c.args.names.now a_bare_statement (declaration_view c.args.declaration.now) _ (local_ended c.args.names.now c.args.declaration.now)) (one l c.refuse.ensures)

pub returns-else-is_override : goal.returns-else-is_override
returns-else-is_override g c =
    told (ap (λ b. only_if (not b) (variable_slots c.args.names.now c.args.declaration.now)) (sym c.if-is_override.false ∙ c.is_override.ensures) ∙ unended_is c.args.names.now a_bare_statement (declaration_view c.args.declaration.now) _ (local_ended c.args.names.now c.args.declaration.now)) c.print_variable.ensures
