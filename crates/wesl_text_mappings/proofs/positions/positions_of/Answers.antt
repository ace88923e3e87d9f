use Rattle.std.proofs.Common.{◌∙◌, List, [], ◌∷◌, ◌++◌, refl, ap, sym}
use Rattle.wesl_text_mappings.specs.declared.positions.Position.{Position}
use Rattle.wesl_text_mappings.specs.Positions.{column, line, positions}
use Rattle.wesl_text_mappings.proofs.Behind.{positions_behind}
use Rattle.wesl_text_mappings.proofs.positions.positions_of.Goals as goal

pub loop-at-init : goal.loop-at-init
unfolding line column positions
loop-at-init c =
    let start : Position = record { line = 0; column = 0 } in
    (refl, c.in_ok-push.ensures.items ∙ ap (λ (l : List Position). l ++ start ∷ []) c.new-places.ensures.items)

pub loop-at-preserved : goal.loop-at-preserved
loop-at-preserved c =
    let t = c.as_bytes-bytes.result.now in
    let next = c.behind-place.result in (
      c.behind-place.ensures,
      c.in_ok-push-2.ensures.items ∙ (ap (λ (l : List Position). l ++ next ∷ []) c.loop-at.invariant.1
          ∙ (ap (λ (p : Position). positions t c.loop-at.at ++ p ∷ []) c.behind-place.ensures ∙ sym (positions_behind t c.loop-at.at))),
    )
