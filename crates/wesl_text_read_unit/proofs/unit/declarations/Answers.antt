use Rattle.std.proofs.Common.{◌≡◌, true, not, length, sym, ◌∙◌, subst, true≢false, arith}
use Rattle.std.proofs.lemmas.List.{length-map}
use Rattle.wesl_tree_syntax.specs.Tree.{declaration_node, declarations}
use Rattle.wesl_tree_syntax.specs.View.{global_view, placed}
use Rattle.wesl_text_tokens.specs.Views.{token_of}
use Rattle.wesl_text_form.specs.Productions.{a_declaration, nothing}
use Rattle.wesl_text_read.specs.Leads.{ahead}
use Rattle.wesl_text_read_unit.proofs.Wholes.{Parts, declarations_go, is_left, left-told, no_look, nothing_left, parts_begin, parts_end, parts_more}
use Rattle.wesl_text_read_unit.proofs.unit.declarations.Goals as goal
use Rattle.wesl_text_read_unit.proofs.unit.declarations.Goals.{then-declarations-test+else-room-gt0, else-declarations-test}

pub declarations-init : goal.declarations-init
declarations-init c =
    let s = c.args.reader.now in
    let left : not c.is_empty-goes_on.result ≡ is_left (ahead s) = left-told s.rest.now c.is_empty-goes_on.ensures in
    record {
      parts = subst (λ z. Parts (placed global_view declaration_node) declarations a_declaration nothing (λ n. is_left) (not c.is_empty-goes_on.result) (length s.rest.now) z s s) (sym c.new-declarations.ensures.items)
          (parts_begin (placed global_view declaration_node) declarations a_declaration nothing (λ n. is_left) (not c.is_empty-goes_on.result) (length s.rest.now) (declarations_go s.levels) no_look (λ clear. left)
          (sym (length-map s.rest.now (λ p. token_of p.token))));
      left = left;
    }

pub declarations-preserved : goal.declarations-preserved
declarations-preserved c =
    let n = c.args.reader.now.levels in
    let left : not c.is_empty-goes_on-in-declarations.result ≡ is_left (ahead c.put.new.self) = left-told c.put.new.self.rest.now c.is_empty-goes_on-in-declarations.ensures in
    record {
      parts = parts_more (placed global_view declaration_node) declarations a_declaration nothing (λ n. is_left) c.declarations.goes_on (not c.is_empty-goes_on-in-declarations.result) c.declarations.room _ c.declarations.declarations.items _ c.declaration-declaration.result (declarations_go n) c.declarations-test.true (omega arith) c.declarations.invariant.parts c.declaration-declaration.ensures c.put.ensures.put c.put.ensures.keeps no_look (λ clear. left);
      left = left;
    }

pub returns-clause-declarations : goal.returns-clause-declarations
returns-clause-declarations c =
    let none : c.declarations.goes_on ≡ true → c.declarations.room ≡ 0 = elim c.declarations-test.branch as (λ _. c.declarations.goes_on ≡ true → c.declarations.room ≡ 0) [
      | then-declarations-test+else-room-gt0 w ↦ λ h. (let few = w.if-room-gt0.false in omega arith)
      | else-declarations-test w ↦ λ h. absurd (true≢false (sym h ∙ w.declarations-test.false))
    ] in
    parts_end (placed global_view declaration_node) declarations a_declaration nothing (λ n. is_left) c.declarations.goes_on c.declarations.room c.declarations.declarations.items (declarations_go c.args.reader.now.levels) none c.declarations.invariant.parts c.wrong_if.ensures.refuses c.wrong_if.ensures.same

pub returns-clause-all : goal.returns-clause-all
returns-clause-all c = nothing_left c.declarations.goes_on c.declarations.invariant.left c.wrong_if.ensures.refuses c.wrong_if.ensures.same
