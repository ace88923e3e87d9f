use Rattle.wesl_cond_alive.proofs.Rows.{position_rows}
use Rattle.wesl_cond_alive.proofs.laws.law_of_positions.Goals as goal

pub returns : goal.returns
returns c = position_rows
