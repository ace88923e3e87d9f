use Rattle.std.proofs.Common.{◌≡◌, true, false, None, refl, sym, ◌∙◌, true≢false, rules}
use Rattle.wesl_tree_syntax.specs.View.{attributes_tree}
use Rattle.wesl_text_read_statements.specs.Statements.{is_text_fault}
use Rattle.wesl_text_read_statements.proofs.Seen.{looked_in_vain, looked_over}
use Rattle.wesl_text_read_statements.proofs.behind.peek_behind.Goals as goal
use Rattle.wesl_text_read_statements.proofs.behind.peek_behind.Goals.{else-was_clear-via-then-was_clear+else-has_text_fault, else-was_clear-via-else-was_clear}

pub returns-then-has_text_fault : goal.returns-then-has_text_fault
returns-then-has_text_fault c =
    let clear : c.args.reader.now.fault ≡ None = search rules in
    let faulty : is_text_fault c.attributes-attributes.new.self.fault ≡ true = search rules in
    looked_in_vain {m = c.attributes-attributes.new.self} (attributes_tree c.attributes-attributes.result) clear faulty refl refl refl refl c.attributes-attributes.ensures

pub returns : goal.returns
returns c =
    let was : c.args.reader.now.fault ≡ None → c.is_none-was_clear.result ≡ true = search rules in
    let none : c.is_none-was_clear.result ≡ true → is_text_fault c.attributes-attributes.new.self.fault ≡ false = elim c.else-was_clear.branch as (λ _. c.is_none-was_clear.result ≡ true → is_text_fault c.attributes-attributes.new.self.fault ≡ false) [
      | else-was_clear-via-then-was_clear+else-has_text_fault w ↦ λ h. search rules
      | else-was_clear-via-else-was_clear w ↦ λ h. absurd (true≢false (sym h ∙ w.if-was_clear.false))
    ] in
    looked_over {m = c.attributes-attributes.new.self} (attributes_tree c.attributes-attributes.result) c.is_none-was_clear.result was refl refl refl refl none c.attributes-attributes.ensures
