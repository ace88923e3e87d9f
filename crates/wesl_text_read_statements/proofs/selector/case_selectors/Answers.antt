use Rattle.std.proofs.Common.{◌≡◌, length, true, sym, ◌∙◌, subst, true≢false, arith}
use Rattle.std.proofs.lemmas.List.{length-map}
use Rattle.wesl_tree_syntax.specs.View.{selector_view}
use Rattle.wesl_text_tokens.specs.Views.{token_of}
use Rattle.wesl_text_form.specs.Productions.{a_selector}
use Rattle.wesl_text_read.proofs.Lists.{Lists, list_begins, list_ends, list_more}
use Rattle.wesl_text_read_statements.proofs.selector.case_selectors.Goals as goal
use Rattle.wesl_text_read_statements.proofs.selector.case_selectors.Goals.{then-selectors-test+else-room-gt0, else-selectors-test}

pub selectors-init : goal.selectors-init
selectors-init c =
    subst (λ z. Lists selector_view a_selector c.begins_expression-goes_on.result (length c.args.reader.now.rest.now) z c.args.reader.now c.args.reader.now) (sym c.new-selectors.ensures.items)
    (list_begins selector_view a_selector _ _ c.begins_expression-goes_on.ensures (sym (length-map c.args.reader.now.rest.now (λ p. token_of p.token))))

pub selectors-preserved : goal.selectors-preserved
selectors-preserved c =
    list_more selector_view a_selector c.selectors.goes_on c.next_expression-goes_on.result c.selectors.room _ c.selectors.selectors.items _ c.selector-selector.result c.selectors-test.true (omega arith) c.selectors.invariant c.selector-selector.ensures c.put.ensures.put c.put.ensures.keeps c.next_expression-goes_on.ensures

pub returns : goal.returns
returns c =
    let none : c.selectors.goes_on ≡ true → c.selectors.room ≡ 0 = elim c.selectors-test.branch as (λ _. c.selectors.goes_on ≡ true → c.selectors.room ≡ 0) [
      | then-selectors-test+else-room-gt0 w ↦ λ h. (let few = w.if-room-gt0.false in omega arith)
      | else-selectors-test w ↦ λ h. absurd (true≢false (sym h ∙ w.selectors-test.false))
    ] in
    list_ends selector_view a_selector c.selectors.goes_on c.selectors.room c.selectors.selectors.items none c.selectors.invariant c.wrong_if.ensures.refuses c.wrong_if.ensures.same
