use Rattle.wesl_scope_occurrences.proofs.Joined.{way_module, way_unfolds}
use Rattle.wesl_scope_occurrences.proofs.laws.law_of_ways.Goals as goal

pub returns : goal.returns
returns c = record { whole = way_module; others = way_unfolds }
