use Rattle.wesl_scope_occurrences.proofs.Collecting.{collected_occurrences}
use Rattle.wesl_scope_occurrences.proofs.laws.law_of_events.Goals as goal

pub returns : goal.returns
returns c = collected_occurrences
