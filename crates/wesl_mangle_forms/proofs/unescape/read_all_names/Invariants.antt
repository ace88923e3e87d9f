use Rattle.std.proofs.Common.{◌≡◌, ◌≤◌, ◌++◌, ◌-◌, length, drop, option_map}
use Rattle.wesl_mangle_forms.specs.Escape.{read_all_names}
use Rattle.wesl_tree_base.specs.Borrowed.{texts}
use Rattle.wesl_tree_syntax.specs.View.{texts_of}
use Rattle.wesl_mangle_forms.proofs.unescape.read_all_names.Given as goal

abbrev pub invariant-loop-place : goal.invariant-loop-place
invariant-loop-place l =
    let rest = drop l.place (texts l.pieces) in
    record {
      within : l.place ≤ length l.pieces;
      read : option_map (λ ns. texts_of l.names ++ ns) (read_all_names (length rest) rest) ≡ read_all_names (length (texts l.pieces)) (texts l.pieces);
    }

abbrev pub decreases-loop-place : goal.decreases-loop-place
decreases-loop-place l = length l.pieces - l.place
