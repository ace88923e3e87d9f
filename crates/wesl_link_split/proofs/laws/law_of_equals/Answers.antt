use Rattle.wesl_link_split.proofs.Once.{asks_for_all, aims_as_each}
use Rattle.wesl_link_split.proofs.laws.law_of_equals.Goals as goal

pub returns : goal.returns
returns c = record { names = asks_for_all; paths = aims_as_each }
