use Rattle.std.proofs.Common.{◌≡◌, true, not, length, sym, ap, ◌∙◌, subst, true≢false, arith}
use Rattle.std.proofs.lemmas.List.{length-map}
use Rattle.wesl_tree_syntax.specs.Tree.{member_node, members}
use Rattle.wesl_tree_syntax.specs.View.{member_view, placed}
use Rattle.wesl_text_tokens.specs.Views.{token_of}
use Rattle.wesl_text_tokens.specs.declared.symbol.Symbol.TheVariants as is
use Rattle.wesl_text_form.specs.Productions.{a_member}
use Rattle.wesl_text_read_imports.proofs.Closed.{Items, items_begin, items_end, items_more}
use Rattle.wesl_text_read_unit.proofs.Members.{members_close}
use Rattle.wesl_text_read_unit.proofs.structure.members.Goals as goal
use Rattle.wesl_text_read_unit.proofs.structure.members.Goals.{then-members-test+else-room-gt0, else-members-test}

pub members-init : goal.members-init
members-init c =
    subst (λ z. Items (placed member_view member_node) a_member is.BraceRight (not c.begins_sign-goes_on.result) (length c.args.reader.now.rest.now) z c.args.reader.now c.args.reader.now) (sym c.new-members.ensures.items)
    (items_begin (placed member_view member_node) a_member is.BraceRight (not c.begins_sign-goes_on.result) _ members_close (ap not c.begins_sign-goes_on.ensures) (sym (length-map c.args.reader.now.rest.now (λ p. token_of p.token))))

pub members-preserved : goal.members-preserved
members-preserved c =
    items_more (placed member_view member_node) a_member is.BraceRight c.members.goes_on c.next_item-goes_on.result c.members.room _ c.members.members.items _ c.member-member.result c.members-test.true (omega arith) c.members.invariant c.member-member.ensures c.put.ensures.put c.put.ensures.keeps c.next_item-goes_on.ensures

pub returns : goal.returns
returns c =
    let none : c.members.goes_on ≡ true → c.members.room ≡ 0 = elim c.members-test.branch as (λ _. c.members.goes_on ≡ true → c.members.room ≡ 0) [
      | then-members-test+else-room-gt0 w ↦ λ h. (let few = w.if-room-gt0.false in omega arith)
      | else-members-test w ↦ λ h. absurd (true≢false (sym h ∙ w.members-test.false))
    ] in
    items_end (placed member_view member_node) a_member is.BraceRight members c.members.goes_on c.members.room c.members.members.items none c.members.invariant c.wrong_if.ensures.refuses c.wrong_if.ensures.same c.skip_sign.ensures
