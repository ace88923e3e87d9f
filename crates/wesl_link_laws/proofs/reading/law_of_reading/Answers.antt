use Rattle.wesl_link_laws.proofs.Whole.{faithful_reads}
use Rattle.wesl_link_laws.proofs.reading.law_of_reading.Goals as goal

pub returns : goal.returns
returns c = faithful_reads c.law_of_occurrences.ensures.identifiers
