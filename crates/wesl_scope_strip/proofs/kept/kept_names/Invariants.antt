use Rattle.std.proofs.Common.{take}
use Rattle.wesl_scope_strip.specs.Sets.{HasThese}
use Rattle.wesl_scope_strip.proofs.kept.kept_names.Given as goal

abbrev pub invariant-loop-i : goal.invariant-loop-i
invariant-loop-i l = HasThese (take l.i l.keep) l.kept
