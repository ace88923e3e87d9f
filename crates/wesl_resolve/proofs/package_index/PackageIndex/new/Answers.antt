use Rattle.wesl_resolve.proofs.Placing.{none-named, none-noted}
use Rattle.wesl_resolve.proofs.package_index.PackageIndex.new.Goals as goal

pub returns-clause-named : goal.returns-clause-named
returns-clause-named c = none-named c.new.result

pub returns-clause-noted : goal.returns-clause-noted
returns-clause-noted c = none-noted c.new-2.result c.new-2.ensures.empty
