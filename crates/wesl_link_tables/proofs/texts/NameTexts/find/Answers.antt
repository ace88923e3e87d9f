use Rattle.std.proofs.Common.{◌≡◌, ◌≤◌, Some, length, true, false, refl, sym, subst, ap, ◌∙◌}
use Rattle.std.specs.Prelude.{slice_get, string_bytes}
use Rattle.std.proofs.lemmas.Option.{slice_get_read}
use Rattle.std.proofs.lemmas.Slice.Eq.{bytes_eq-Decides}
use Rattle.wesl_tree_interner.proofs.Interning.{get_map}
use Rattle.wesl_link_tables.proofs.Looked.{none_first, none_next, none_at_end}
use Rattle.wesl_link_tables.proofs.texts.NameTexts.find.Goals as goal

pub loop-place-init : goal.loop-place-init
loop-place-init c = none_first string_bytes c.args.self.now.texts.items c.args.name.now

pub returns-then-eq-clause-found : goal.returns-then-eq-clause-found
returns-then-eq-clause-found c =
    let there = subst (λ xs. slice_get xs c.loop-place.place ≡ Some c.text-item.result) c.deref-text-items.ensures.value
    (slice_get_read c.deref-text-items.result.now _ c.loop-place.place c.text-item.result refl c.loop-place-test.true c.text-item.is) in
    get_map string_bytes c.args.self.now.texts.items c.loop-place.place c.text-item.result there
    ∙ ap Some (sym c.as_str.ensures.value ∙ (bytes_eq-Decides c.as_str.result.now c.args.name.now).0 (sym c.eq.ensures ∙ c.if-eq.true))

pub loop-place-preserved : goal.loop-place-preserved
loop-place-preserved c =
    let there = subst (λ xs. slice_get xs c.loop-place.place ≡ Some c.text-item.result) c.deref-text-items.ensures.value
    (slice_get_read c.deref-text-items.result.now _ c.loop-place.place c.text-item.result refl c.loop-place-test.true c.text-item.is) in
    none_next string_bytes c.args.self.now.texts.items c.args.name.now c.loop-place.place c.text-item.result there
    (λ e. let never : true ≡ false = sym ((bytes_eq-Decides c.as_str.result.now c.args.name.now).1 (c.as_str.ensures.value ∙ e)) ∙ (sym c.eq.ensures ∙ c.if-eq.false) in absurd (cc)) c.loop-place.invariant

pub returns-clause-none : goal.returns-clause-none
returns-clause-none c = none_at_end string_bytes c.args.self.now.texts.items c.args.name.now c.loop-place.place
    (subst (λ xs. length xs ≤ c.loop-place.place) c.deref-text-items.ensures.value c.loop-place-test.false) c.loop-place.invariant
