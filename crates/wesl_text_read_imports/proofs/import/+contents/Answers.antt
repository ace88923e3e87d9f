use Rattle.std.proofs.Common.{◌≡◌, suc, ◌+◌, ◌-◌, true, not, length, map, string_bytes, refl, sym, ap, ◌∙◌, subst, true≢false, arith, rules}
use Rattle.std.proofs.lemmas.List.{length-map}
use Rattle.wesl_tree_syntax.specs.Tree.{before, end, list}
use Rattle.wesl_tree_syntax.specs.View.{content_view, entry_view, listed}
use Rattle.wesl_text_tokens.specs.Views.{token_of}
use Rattle.wesl_text_tokens.specs.declared.symbol.Symbol.TheVariants as is
use Rattle.wesl_text_form.specs.Productions.{an_entry, commas, nothing, sym as sign}
use Rattle.wesl_text_reading.specs.FirstTokens.{begins_sign}
use Rattle.wesl_text_read.specs.declared.reader.Reader.{Reader}
use Rattle.wesl_text_read.specs.First.{read_steps}
use Rattle.wesl_text_read.specs.Leads.{ReadsTexts, ahead}
use Rattle.wesl_text_read.proofs.Expressions.{viewed}
use Rattle.wesl_text_read.proofs.Leading.{levelled}
use Rattle.wesl_text_read_imports.proofs.Closed.{Items, items_begin, items_end, items_more, reads_closed}
use Rattle.wesl_text_read_imports.proofs.Imports.{collection_read, entries_close, entry_read, made_entry}
use Rattle.wesl_text_read_imports.proofs.Parts.{reads_end, reads_sign}
use Rattle.wesl_text_read_imports.proofs.import.+contents.Goals as goal
use Rattle.wesl_text_read_imports.proofs.import.+contents.Goals.{entries-then-entries-test+else-room-gt0, entries-else-entries-test}
use Rattle.wesl_tree_syntax.proofs.Views.{view_collection}

pub content-returns-then-begins_sign : goal.content-returns-then-begins_sign
content-returns-then-begins_sign t c =
    let opens : begins_sign is.BraceLeft (ahead c.args.reader.now) ≡ true = search rules in
    viewed _ _ (sym (view_collection c.collection.result)) (collection_read (listed entry_view list c.collection.result) opens c.collection.ensures)

pub collection-returns : goal.collection-returns
collection-returns t c =
    let tree = listed entry_view list c.entries.result in
    reads_sign is.BraceLeft (commas list an_entry (sign is.BraceRight nothing)) (before tree end) c.skip_sign.ensures
    (reads_closed list an_entry is.BraceRight nothing tree end c.entries.ensures reads_end)

pub entries-entries-init : goal.entries-entries-init
entries-entries-init t c =
    subst (λ z. Items entry_view an_entry is.BraceRight (not c.begins_sign-goes_on.result) (length c.args.reader.now.rest.now) z c.args.reader.now c.args.reader.now) (sym c.new-entries.ensures.items)
    (items_begin entry_view an_entry is.BraceRight (not c.begins_sign-goes_on.result) _ entries_close (ap not c.begins_sign-goes_on.ensures) (sym (length-map c.args.reader.now.rest.now (λ p. token_of p.token))))

pub entries-entries-preserved : goal.entries-entries-preserved
entries-entries-preserved t c =
    items_more entry_view an_entry is.BraceRight c.entries.goes_on c.next_item-goes_on.result c.entries.room _ c.entries.entries.items _ c.entry-entry.result c.entries-test.true (omega arith) c.entries.invariant c.entry-entry.ensures c.put.ensures.put c.put.ensures.keeps c.next_item-goes_on.ensures

pub entries-returns : goal.entries-returns
entries-returns t c =
    let none : c.entries.goes_on ≡ true → c.entries.room ≡ 0 = elim c.entries-test.branch as (λ _. c.entries.goes_on ≡ true → c.entries.room ≡ 0) [
      | entries-then-entries-test+else-room-gt0 w ↦ λ h. (let few = w.if-room-gt0.false in omega arith)
      | entries-else-entries-test w ↦ λ h. absurd (true≢false (sym h ∙ w.entries-test.false))
    ] in
    items_end entry_view an_entry is.BraceRight list c.entries.goes_on c.entries.room c.entries.entries.items none c.entries.invariant c.wrong_if.ensures.refuses c.wrong_if.ensures.same c.skip_sign.ensures

pub entry-returns : goal.entry-returns
entry-returns t c =
    let down : c.steps-path.new.reader.levels ≡ c.args.reader.now.levels - 1 = c.steps-path.ensures.levels in
    let kept : c.content-content.new.reader.levels ≡ c.steps-path.new.reader.levels = c.content-content.ensures.levels in
    let above : c.args.reader.now.levels ≡ suc (c.args.reader.now.levels - 1) = omega arith in
    let up : c.content-content.new.reader.levels + 1 ≡ c.args.reader.now.levels = omega arith in
    let below : Reader = record c.args.reader.now { levels = c.args.reader.now.levels - 1 } in
    let path : ReadsTexts read_steps (map string_bytes c.steps-path.result.items) below c.steps-path.new.reader = c.steps-path.ensures in
    viewed _ _ (sym (made_entry c.steps-path.result c.content-content.result))
    (levelled {s = below} {e = c.content-content.new.reader} refl refl refl refl refl refl up
    (entry_read {s = below} {m = c.steps-path.new.reader} {e = c.content-content.new.reader} c.args.reader.now.levels (map string_bytes c.steps-path.result.items) (content_view c.content-content.result) above path c.content-content.ensures))
