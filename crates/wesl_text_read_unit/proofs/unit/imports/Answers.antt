use Rattle.std.proofs.Common.{◌≡◌, true, length, refl, sym, ◌∙◌, subst, true≢false, arith}
use Rattle.std.proofs.lemmas.List.{length-map}
use Rattle.wesl_tree_syntax.specs.Tree.{import_node, imports}
use Rattle.wesl_tree_syntax.specs.View.{import_view, placed}
use Rattle.wesl_text_tokens.specs.Views.{token_of}
use Rattle.wesl_text_form.specs.Productions.{an_import}
use Rattle.wesl_text_reading.specs.FirstTokens.{begins_sort}
use Rattle.wesl_text_reading.specs.Reading.{begins_child}
use Rattle.wesl_text_read.specs.Levels.{inner}
use Rattle.wesl_text_read_unit.specs.Wholes.{directives_row}
use Rattle.wesl_text_read_unit.proofs.Wholes.{Parts, imports_go, kept_levels, parts_begin, parts_end, parts_more, told_behind, told_looks}
use Rattle.wesl_text_read_unit.proofs.unit.imports.Goals as goal
use Rattle.wesl_text_read_unit.proofs.unit.imports.Goals.{then-imports-test+else-room-gt0, else-imports-test}

pub imports-init : goal.imports-init
imports-init c =
    let s = c.args.reader.now in
    let e = c.begins_import-goes_on.new.reader in
    subst (λ z. Parts (placed import_view import_node) imports an_import directives_row (λ n. begins_child (inner n) an_import) c.begins_import-goes_on.result (length e.rest.now) z s e) (sym c.new-imports.ensures.items)
    (parts_begin (placed import_view import_node) imports an_import directives_row (λ n. begins_child (inner n) an_import) c.begins_import-goes_on.result (length e.rest.now) (imports_go s.levels)
    (told_looks (begins_sort an_import) c.begins_import-goes_on.result c.begins_import-goes_on.ensures)
    (told_behind (begins_sort an_import) c.begins_import-goes_on.result c.begins_import-goes_on.ensures s.levels refl)
    (sym (length-map e.rest.now (λ p. token_of p.token))))

pub imports-preserved : goal.imports-preserved
imports-preserved c =
    let n = c.args.reader.now.levels in
    parts_more (placed import_view import_node) imports an_import directives_row (λ n. begins_child (inner n) an_import) c.imports.goes_on c.begins_import-goes_on-in-imports.result c.imports.room _ c.imports.imports.items _ c.read_import-import.result (imports_go n) c.imports-test.true (omega arith) c.imports.invariant c.read_import-import.ensures c.put.ensures.put c.put.ensures.keeps
    (told_looks (begins_sort an_import) c.begins_import-goes_on-in-imports.result c.begins_import-goes_on-in-imports.ensures)
    (told_behind (begins_sort an_import) c.begins_import-goes_on-in-imports.result c.begins_import-goes_on-in-imports.ensures n (kept_levels c.put.ensures.keeps ∙ (c.read_import-import.ensures.levels ∙ c.imports.invariant.led.levels)))

pub returns : goal.returns
returns c =
    let none : c.imports.goes_on ≡ true → c.imports.room ≡ 0 = elim c.imports-test.branch as (λ _. c.imports.goes_on ≡ true → c.imports.room ≡ 0) [
      | then-imports-test+else-room-gt0 w ↦ λ h. (let few = w.if-room-gt0.false in omega arith)
      | else-imports-test w ↦ λ h. absurd (true≢false (sym h ∙ w.imports-test.false))
    ] in
    parts_end (placed import_view import_node) imports an_import directives_row (λ n. begins_child (inner n) an_import) c.imports.goes_on c.imports.room c.imports.imports.items (imports_go c.args.reader.now.levels) none c.imports.invariant c.wrong_if.ensures.refuses c.wrong_if.ensures.same
