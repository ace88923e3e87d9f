use Rattle.std.proofs.Common.{replicate, codes}
use Rattle.wesl_mangle_forms.specs.Unicode.{from_words}
use Rattle.wesl_mangle_forms.specs.Written.{AddsText}
use Rattle.wesl_mangle_forms.proofs.unicode.push_relative.Given as goal

abbrev pub invariant-loop-done : goal.invariant-loop-done
invariant-loop-done l = AddsText l.fn.text l.text (from_words (replicate l._done (codes "super")))
