use Rattle.std.proofs.Common.{◌≡◌, length, vec_len}
use Rattle.wesl_scope_open.specs.Table.{row, outer_rows}
use Rattle.wesl_scope_open.proofs.table.OpenBinders.close.Given as goal

abbrev pub invariant-loop-change : goal.invariant-loop-change
invariant-loop-change g l = record {
  noted : l.self.is_refused ≡ l.initial.self.is_refused;
  as_wide : length (row l.self) ≡ length (row l.initial.self);
  same : outer_rows l.self ≡ outer_rows l.initial.self;
}

abbrev pub decreases-loop-change : goal.decreases-loop-change
decreases-loop-change g l = vec_len l.self.changes
