use Rattle.std.proofs.Common.{◌≡◌, true, not, length, sym, ap, ◌∙◌, subst, true≢false, arith}
use Rattle.std.proofs.lemmas.List.{length-map}
use Rattle.wesl_tree_syntax.specs.Tree.{parameters}
use Rattle.wesl_tree_syntax.specs.View.{parameter_view}
use Rattle.wesl_text_tokens.specs.Views.{token_of}
use Rattle.wesl_text_tokens.specs.declared.symbol.Symbol.TheVariants as is
use Rattle.wesl_text_form.specs.Productions.{a_parameter}
use Rattle.wesl_text_read_imports.proofs.Closed.{Items, items_begin, items_end, items_more}
use Rattle.wesl_text_read_unit.proofs.Members.{parameters_close}
use Rattle.wesl_text_read_unit.proofs.function.parameters.Goals as goal
use Rattle.wesl_text_read_unit.proofs.function.parameters.Goals.{then-parameters-test+else-room-gt0, else-parameters-test}

pub parameters-init : goal.parameters-init
parameters-init c =
    subst (λ z. Items parameter_view a_parameter is.ParenRight (not c.begins_sign-goes_on.result) (length c.args.reader.now.rest.now) z c.args.reader.now c.args.reader.now) (sym c.new-parameters.ensures.items)
    (items_begin parameter_view a_parameter is.ParenRight (not c.begins_sign-goes_on.result) _ parameters_close (ap not c.begins_sign-goes_on.ensures) (sym (length-map c.args.reader.now.rest.now (λ p. token_of p.token))))

pub parameters-preserved : goal.parameters-preserved
parameters-preserved c =
    items_more parameter_view a_parameter is.ParenRight c.parameters.goes_on c.next_item-goes_on.result c.parameters.room _ c.parameters.parameters.items _ c.parameter-parameter.result c.parameters-test.true (omega arith) c.parameters.invariant c.parameter-parameter.ensures c.put.ensures.put c.put.ensures.keeps c.next_item-goes_on.ensures

pub returns : goal.returns
returns c =
    let none : c.parameters.goes_on ≡ true → c.parameters.room ≡ 0 = elim c.parameters-test.branch as (λ _. c.parameters.goes_on ≡ true → c.parameters.room ≡ 0) [
      | then-parameters-test+else-room-gt0 w ↦ λ h. (let few = w.if-room-gt0.false in omega arith)
      | else-parameters-test w ↦ λ h. absurd (true≢false (sym h ∙ w.parameters-test.false))
    ] in
    items_end parameter_view a_parameter is.ParenRight parameters c.parameters.goes_on c.parameters.room c.parameters.parameters.items none c.parameters.invariant c.wrong_if.ensures.refuses c.wrong_if.ensures.same c.skip_sign.ensures
