use Rattle.std.proofs.Common.{◌<◌, ◌≤◌, [], length, false, ap, sym, ◌∙◌, arith}
use Rattle.std.proofs.lemmas.List.{drop_all, length-map}
use Rattle.wesl_text_tokens.specs.Brackets.{known_from}
use Rattle.wesl_text_tokens.specs.Pieces.{a_sign, bits_of}
use Rattle.wesl_text_tokens.specs.Views.{known_of, piece_of, pieces_of, sign_text}
use Rattle.wesl_text_tokens.proofs.KnownSteps.{known_more}
use Rattle.wesl_text_tokens.proofs.Signs.{what_here}
use Rattle.wesl_text_tokens.proofs.Bits.{length_bits}
use Rattle.wesl_text_tokens.proofs.lists.lists_of.Goals as goal

pub loop-index-preserved : goal.loop-index-preserved
loop-index-preserved c =
    let xs = c.args.pieces.now in
    let i = c.loop-index.index in
    let bits = bits_of (pieces_of xs) in
    let within : i < length bits = omega (arith, length_bits (pieces_of xs), length-map xs piece_of) in
    let k = known_of c.loop-index.lists in
    record {
      depth = c.in_ok-piece.ensures.depth;
      goes = known_more bits i k (known_of c.piece.new.self) _ (sign_text c.sign_behind.result) (record { what = a_sign []; is_glued = false }) within (what_here xs i _ (omega arith)) c.sign_behind.ensures c.in_ok-piece.ensures.known ∙ c.loop-index.invariant.goes;
    }

pub returns : goal.returns
returns c =
    let xs = c.args.pieces.now in
    let bits = bits_of (pieces_of xs) in
    let all : length bits ≤ c.loop-index.index = omega (arith, length_bits (pieces_of xs), length-map xs piece_of) in
    sym (ap (known_from c.loop-index.index (known_of c.loop-index.lists)) (drop_all c.loop-index.index bits all)) ∙ c.loop-index.invariant.goes
