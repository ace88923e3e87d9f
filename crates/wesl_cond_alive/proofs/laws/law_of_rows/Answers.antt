use Rattle.wesl_cond_alive.proofs.Rows.{place_rows}
use Rattle.wesl_cond_alive.proofs.laws.law_of_rows.Goals as goal

pub returns : goal.returns
returns c = place_rows
