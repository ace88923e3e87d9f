use Rattle.std.proofs.Common.{string_bytes, []}
use Rattle.wesl_tree_base.proofs.Texts.{copied_more}
use Rattle.wesl_tree_base.proofs.writing.copied.Goals as goal

pub loop-piece-preserved : goal.loop-piece-preserved
loop-piece-preserved c =
    copied_more string_bytes (λ p. p.now) [] c.args.pieces.now c.loop-piece.piece-index (record { ref_ptr = (0, 0); now = [] }) c.loop-piece.names.items c.push.new.self.items c.in_ok-from_str.field-0
    c.loop-piece-test.true c.in_ok-from_str.ensures.ok c.in_ok-push.ensures.items c.loop-piece.invariant
