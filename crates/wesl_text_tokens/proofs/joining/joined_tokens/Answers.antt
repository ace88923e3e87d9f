use Rattle.std.proofs.Common.{◌≡◌, ℕ, length, ap, sym, ◌∙◌, arith}
use Rattle.std.proofs.lemmas.List.{length-map}
use Rattle.wesl_text_tokens.specs.Characters.{is_one_of}
use Rattle.wesl_text_tokens.specs.Views.{all_placed_of, known_of, piece_of, pieces_of}
use Rattle.wesl_text_tokens.proofs.Flags.{flag_there}
use Rattle.wesl_text_tokens.proofs.Joins.{joins_last, joins_on, placed_behind}
use Rattle.wesl_text_tokens.proofs.joining.joined_tokens.Goals as goal

pub loop-index-preserved : goal.loop-index-preserved
loop-index-preserved c =
    let xs = c.args.pieces.now in
    let i = c.loop-index.index in
    let k = known_of c.args.lists.now in
    let opened : c.index.result.now ≡ is_one_of k.opened i = flag_there c.as_slice.result.now c.args.lists.now.opened.items c.in_ok-opened.opened.items i c.index.result.now c.index.ensures c.in_ok-opened.ensures.flags c.as_slice.ensures.value (omega (arith, c.in_ok-opened.ensures.len)) in
    let closed : c.index-in-loop-index.result.now ≡ is_one_of k.closed i = flag_there c.as_slice-2.result.now c.args.lists.now.closed.items c.in_ok-closed.closed.items i c.index-in-loop-index.result.now c.index-in-loop-index.ensures c.in_ok-closed.ensures.flags c.as_slice-2.ensures.value (omega (arith, c.in_ok-closed.ensures.len)) in
    record {
      held = c.in_ok-held.ensures.held;
      goes = joins_on (pieces_of xs) k i (all_placed_of c.loop-index.tokens.items) (all_placed_of c.join.new.tokens.items) c.loop-index.held c.in_ok-held.held c.index.result.now c.index-in-loop-index.result.now (omega (arith, length-map xs piece_of)) opened closed c.in_ok-held.ensures.joins ∙ c.loop-index.invariant.goes;
    }

pub returns : goal.returns
returns c =
    let xs = c.args.pieces.now in
    let k = known_of c.args.lists.now in
    let before = all_placed_of c.loop-index.tokens.items in
    let last : c.loop-index.index ≡ length xs = omega arith in
    joins_last (pieces_of xs) k (length xs) before (all_placed_of c.release.new.tokens.items) c.loop-index.held (sym (length-map xs piece_of)) c.in_ok-release.ensures
    ∙ ap (λ (n : ℕ). placed_behind before n k c.loop-index.held (pieces_of xs)) (sym last)
    ∙ c.loop-index.invariant.goes
