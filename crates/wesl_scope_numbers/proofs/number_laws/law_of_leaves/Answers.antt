use Rattle.wesl_scope_numbers.proofs.Leaves.{have_leaves}
use Rattle.wesl_scope_numbers.proofs.number_laws.law_of_leaves.Goals as goal

pub returns : goal.returns
returns c = have_leaves
