use Rattle.std.proofs.Common.{◌≡◌, ◌≤◌, ◌++◌, ◌-◌, length, drop, option_map}
use Rattle.wesl_mangle_forms.specs.Escape.{read_names}
use Rattle.wesl_tree_base.specs.Borrowed.{texts}
use Rattle.wesl_tree_syntax.specs.View.{texts_of}
use Rattle.wesl_mangle_forms.proofs.unescape.read_names.Given as goal

abbrev pub invariant-loop-done : goal.invariant-loop-done
invariant-loop-done l =
    let rest = drop l.place (texts l.pieces) in
    record {
      within : l.place ≤ length l.pieces;
      read : option_map (λ y. (texts_of l.names ++ y.0, y.1)) (read_names (l.many - l._done) rest) ≡ read_names l.many (texts l.pieces);
    }
