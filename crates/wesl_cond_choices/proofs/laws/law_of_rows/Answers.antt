use Rattle.wesl_cond_choices.proofs.Rows.{place_rows}
use Rattle.wesl_cond_choices.proofs.laws.law_of_rows.Goals as goal

pub returns : goal.returns
returns c = place_rows
