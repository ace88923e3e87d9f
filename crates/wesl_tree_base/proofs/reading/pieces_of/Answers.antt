use Rattle.std.proofs.Common.{◌≡◌, ◌++◌, ◌+◌, sym, ap, ◌∙◌, drop, get_or, [], option_map, List, refl, Bool, true, false, if◌then◌else◌, Some, None, ◌∷◌}
use Rattle.std.proofs.lemmas.List.{at_drop_more, at_drop_all, map_push}
use Rattle.std.specs.Bool.{then_some}
use Rattle.wesl_tree_base.specs.Pieces.{paired}
use denote.Ref.{Bor}
use Rattle.wesl_tree_base.specs.Pieces.{Text}
use Rattle.wesl_tree_base.specs.Borrowed.{texts}
use Rattle.wesl_tree_base.proofs.Runs.{pieces_from, pieces_from-started, pieces_from-turn, pieces_from-stop, pieces_from-end}
use Rattle.wesl_tree_base.proofs.reading.pieces_of.Goals as goal
use Rattle.wesl_tree_base.proofs.reading.pieces_of.Goals.{then-not-after_piece+in_ok-push, else-not-after_piece}

pushed : (b : Bool) (us vs : List (Bor Text)) (p : Bor Text) → b ≡ false → vs ≡ us ++ p ∷ [] → texts vs ≡ (if b then texts us else texts us ++ p.now ∷ [])
pushed b us vs p h e = rw (h, e) (map_push (λ x. x.now) us p)

kept : (b : Bool) (us vs : List (Bor Text)) (t : Text) → b ≡ true → vs ≡ us → texts vs ≡ (if b then texts us else texts us ++ t ∷ [])
kept b us vs t h e = rw (h, e) refl

then-ends : {V : Type 0} (f : V → List Text) (b : Bool) (v : V) → option_map f (then_some b v) ≡ (if b then Some (f v) else None)
then-ends f true v = refl
then-ends f false v = refl

pub loop-part-init : goal.loop-part-init
loop-part-init c = rw c.new-pieces.ensures.items (pieces_from-started (texts c.deref-part-items.result.now))

pub loop-part-preserved : goal.loop-part-preserved
loop-part-preserved c =
    let items = c.deref-part-items.result.now in
    let i = c.loop-part.part-index in
    let us = texts c.loop-part.pieces.items in
    let d : Bor Text = record { ref_ptr = (0, 0); now = [] } in
    pieces_from-turn c.loop-part.after_piece c.is_empty.result us _ (get_or items i d).now (texts (drop (i + 1) items)) _ c.is_empty.ensures c.if-is_empty-after_piece.false
    (elim c.if-not-after_piece.branch [
      | then-not-after_piece+in_ok-push w ↦ pushed _ _ _ _ w.if-not-after_piece.true (ap (λ v. v.items) w.pieces-is ∙ w.in_ok-push.ensures.items)
      | else-not-after_piece w ↦ kept _ _ _ _ w.if-not-after_piece.false (ap (λ v. v.items) w.pieces-is)
    ])
    (sym (at_drop_more (λ xs. option_map (λ vs. us ++ vs) (pieces_from c.loop-part.after_piece (texts xs))) items i d c.loop-part-test.true) ∙ c.loop-part.invariant)

pub returns-then-is_empty-after_piece : goal.returns-then-is_empty-after_piece
returns-then-is_empty-after_piece c =
    let items = c.deref-part-items.result.now in
    let i = c.loop-part.part-index in
    let us = texts c.loop-part.pieces.items in
    let d : Bor Text = record { ref_ptr = (0, 0); now = [] } in
    pieces_from-stop c.loop-part.after_piece c.is_empty.result us (get_or items i d).now (texts (drop (i + 1) items)) _ c.is_empty.ensures c.if-is_empty-after_piece.true
    (sym (at_drop_more (λ xs. option_map (λ vs. us ++ vs) (pieces_from c.loop-part.after_piece (texts xs))) items i d c.loop-part-test.true) ∙ c.loop-part.invariant ∙ ap paired (ap texts c.deref-part-items.ensures.value ∙ c.in_ok-parts.ensures))

pub returns : goal.returns
returns c =
    let items = c.deref-part-items.result.now in
    let i = c.loop-part.part-index in
    let us = texts c.loop-part.pieces.items in
    ap (option_map (λ v. texts v.items)) c.then_some.ensures
    ∙ then-ends (λ v. texts v.items) c.loop-part.after_piece c.loop-part.pieces
    ∙ pieces_from-end c.loop-part.after_piece us _ (sym (at_drop_all (λ xs. option_map (λ vs. us ++ vs) (pieces_from c.loop-part.after_piece (texts xs))) items i c.loop-part-test.false) ∙ c.loop-part.invariant)
    ∙ ap paired (ap texts c.deref-part-items.ensures.value ∙ c.in_ok-parts.ensures)
