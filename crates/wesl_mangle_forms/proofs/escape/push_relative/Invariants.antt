use Rattle.std.proofs.Common.{replicate}
use lib.Chars.{codes}
use Rattle.wesl_mangle_forms.specs.Escape.{from_pieces}
use Rattle.wesl_mangle_forms.specs.Written.{AddsText}
use Rattle.wesl_mangle_forms.proofs.escape.push_relative.Given as goal

abbrev pub invariant-loop-done : goal.invariant-loop-done
invariant-loop-done l = AddsText l.fn.text l.text (from_pieces (replicate l._done (codes "super")))
