use Rattle.std.proofs.Common.{inl, inr, rules}
use Rattle.wesl_program.specs.Told.{where_told}
use Rattle.wesl_program.proofs.lines.refusal_line.Goals as goal
use Rattle.wesl_program.proofs.lines.refusal_line.Goals.{in-Some, in-None}

pub returns : goal.returns
returns c = elim c.match-ok.branch [ in-Some w ↦ inr (where_told c.place_told-place.result, c.place_told-place.ensures, search rules) | in-None w ↦ inl (search rules) ]
