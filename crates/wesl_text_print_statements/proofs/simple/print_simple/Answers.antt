use Rattle.std.proofs.Common.{ap, sym, ◌∙◌}
use Rattle.wesl_text_print.proofs.Adding.{lawful, then, told}
use Rattle.wesl_text_print_statements.specs.SimpleStatements.{simple_slots}
use Rattle.wesl_text_print_statements.proofs.SimpleStatements.{assignment_unended, call_part, decrement_part, increment_part, local_part}
use Rattle.wesl_text_print_statements.proofs.simple.print_simple.Goals as goal

pub returns-in-Assignment : goal.returns-in-Assignment
returns-in-Assignment g c = told (assignment_unended c.args.names.now c.in-Assignment.attributes c.in-Assignment.operator c.in-Assignment.lhs c.in-Assignment.rhs ∙ ap (simple_slots c.args.names.now) (sym c.in-Assignment.is)) c.print_assignment.ensures

pub returns-in-Increment : goal.returns-in-Increment
returns-in-Increment g c =
    told ((increment_part c.args.names.now c.in-Increment.attributes c.in-Increment.expression).0 ∙ ap (simple_slots c.args.names.now) (sym c.in-Increment.is)) c.print_step.ensures

pub returns-in-Decrement : goal.returns-in-Decrement
returns-in-Decrement g c =
    told ((decrement_part c.args.names.now c.in-Decrement.attributes c.in-Decrement.expression).0 ∙ ap (simple_slots c.args.names.now) (sym c.in-Decrement.is)) c.print_step-in-Decrement.ensures

pub returns-in-FunctionCall : goal.returns-in-FunctionCall
returns-in-FunctionCall g c =
    let l = lawful g.met.S.TokenSink.none g.met.S.TokenSink.more in
    told ((call_part c.args.names.now c.in-FunctionCall.attributes c.in-FunctionCall.call).0 ∙ ap (simple_slots c.args.names.now) (sym c.in-FunctionCall.is)) (then l c.print_attributes.ensures c.print_call.ensures)

pub returns-in-Declaration : goal.returns-in-Declaration
returns-in-Declaration g c =
    told ((local_part c.args.names.now c.in-Declaration.declaration).0 ∙ ap (simple_slots c.args.names.now) (sym c.in-Declaration.is)) c.print_local.ensures
