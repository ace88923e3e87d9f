use Rattle.std.proofs.Common.{◌≡◌, ◌++◌, drop, option_map}
use Rattle.wesl_tree_base.specs.Borrowed.{texts}
use Rattle.wesl_tree_base.specs.Pieces.{paired}
use Rattle.wesl_tree_base.proofs.Runs.{pieces_from}
use Rattle.wesl_tree_base.proofs.reading.pieces_of.Given as goal

abbrev pub invariant-loop-part : goal.invariant-loop-part
invariant-loop-part l =
    option_map (λ us. texts l.pieces.items ++ us) (pieces_from l.after_piece (texts (drop l.part-index l.part-items))) ≡ paired (texts l.part-items)
