use Rattle.std.proofs.Common.{◌≡◌, true, length, refl, sym, ◌∙◌, subst, true≢false, arith}
use Rattle.std.proofs.lemmas.List.{length-map}
use Rattle.wesl_tree_syntax.specs.Tree.{directive_node, directive_list}
use Rattle.wesl_tree_syntax.specs.View.{directive_view, placed}
use Rattle.wesl_text_tokens.specs.Views.{token_of}
use Rattle.wesl_text_form.specs.Productions.{a_directive}
use Rattle.wesl_text_reading.specs.FirstTokens.{begins_sort}
use Rattle.wesl_text_reading.specs.Reading.{begins_child}
use Rattle.wesl_text_read.specs.Levels.{inner}
use Rattle.wesl_text_read_unit.specs.Wholes.{declarations_row}
use Rattle.wesl_text_read_unit.proofs.Wholes.{Parts, directives_go, kept_levels, parts_begin, parts_end, parts_more, told_behind, told_looks}
use Rattle.wesl_text_read_unit.proofs.unit.directives.Goals as goal
use Rattle.wesl_text_read_unit.proofs.unit.directives.Goals.{then-directives-test+else-room-gt0, else-directives-test}

pub directives-init : goal.directives-init
directives-init c =
    let s = c.args.reader.now in
    let e = c.starts_directive-goes_on.new.reader in
    subst (λ z. Parts (placed directive_view directive_node) directive_list a_directive declarations_row (λ n. begins_child (inner n) a_directive) c.starts_directive-goes_on.result (length e.rest.now) z s e) (sym c.new-directives.ensures.items)
    (parts_begin (placed directive_view directive_node) directive_list a_directive declarations_row (λ n. begins_child (inner n) a_directive) c.starts_directive-goes_on.result (length e.rest.now) (directives_go s.levels)
    (told_looks (begins_sort a_directive) c.starts_directive-goes_on.result c.starts_directive-goes_on.ensures)
    (told_behind (begins_sort a_directive) c.starts_directive-goes_on.result c.starts_directive-goes_on.ensures s.levels refl)
    (sym (length-map e.rest.now (λ p. token_of p.token))))

pub directives-preserved : goal.directives-preserved
directives-preserved c =
    let n = c.args.reader.now.levels in
    parts_more (placed directive_view directive_node) directive_list a_directive declarations_row (λ n. begins_child (inner n) a_directive) c.directives.goes_on c.starts_directive-goes_on-in-directives.result c.directives.room _ c.directives.directives.items _ c.read_directive-directive.result (directives_go n) c.directives-test.true (omega arith) c.directives.invariant c.read_directive-directive.ensures c.put.ensures.put c.put.ensures.keeps
    (told_looks (begins_sort a_directive) c.starts_directive-goes_on-in-directives.result c.starts_directive-goes_on-in-directives.ensures)
    (told_behind (begins_sort a_directive) c.starts_directive-goes_on-in-directives.result c.starts_directive-goes_on-in-directives.ensures n (kept_levels c.put.ensures.keeps ∙ (c.read_directive-directive.ensures.levels ∙ c.directives.invariant.led.levels)))

pub returns : goal.returns
returns c =
    let none : c.directives.goes_on ≡ true → c.directives.room ≡ 0 = elim c.directives-test.branch as (λ _. c.directives.goes_on ≡ true → c.directives.room ≡ 0) [
      | then-directives-test+else-room-gt0 w ↦ λ h. (let few = w.if-room-gt0.false in omega arith)
      | else-directives-test w ↦ λ h. absurd (true≢false (sym h ∙ w.directives-test.false))
    ] in
    parts_end (placed directive_view directive_node) directive_list a_directive declarations_row (λ n. begins_child (inner n) a_directive) c.directives.goes_on c.directives.room c.directives.directives.items (directives_go c.args.reader.now.levels) none c.directives.invariant c.wrong_if.ensures.refuses c.wrong_if.ensures.same
