use Rattle.std.proofs.Common.{◌≡◌, None, ap, rules, subst, sym}
use Rattle.wesl_tree_syntax.specs.View.{call_view}
use Rattle.wesl_text_read.specs.Leads.{Reads, ahead}
use Rattle.wesl_text_read.specs.Levels.{inner}
use Rattle.wesl_text_form.specs.Productions.{a_call}
use Rattle.wesl_text_read_simple.specs.Simple.{change_first}
use Rattle.wesl_text_read_simple.proofs.Parts.{call_again, call_faulty, call_first, place_first}
use Rattle.wesl_text_read_simple.proofs.expressed.first_part.Goals as goal
use Rattle.wesl_text_read_simple.proofs.expressed.first_part.Goals.{then-is_none, else-is_none}

pub returns-in-Some : goal.returns-in-Some
returns-in-Some c = place_first c.expression-expression.result c.expression-expression.ensures c.in-Some.change (sym c.in-Some.ensures)

pub returns-in-Some-taken_call : goal.returns-in-Some-taken_call
returns-in-Some-taken_call c =
    let none : change_first (ahead c.expression-expression.new.self) ≡ None = search rules in
    call_first c.expression-expression.result c.expression-expression.ensures none (call_view c.in-Some-taken_call.call) c.in-Some-taken_call.ensures.call

pub returns : goal.returns
returns c =
    let none : change_first (ahead c.expression-expression.new.self) ≡ None = search rules in
    let made = c.expression-expression.result in
    let tree = call_view c.call.result in
    elim c.if-is_none.branch [
      | then-is_none w ↦ call_again made c.expression-expression.ensures none tree (ap (λ z. z.fault) w.reader-is) (ap (λ z. z.names) w.reader-is) (ap (λ z. z.levels) w.reader-is) (ap ahead w.reader-is) c.call.ensures
      | else-is_none w ↦ call_faulty made c.expression-expression.ensures none tree (w.if-is_none.ensures {u = tt}) (subst (λ z. Reads (inner z.levels a_call) tree z c.call.new.self) w.reader-is c.call.ensures)
    ]
