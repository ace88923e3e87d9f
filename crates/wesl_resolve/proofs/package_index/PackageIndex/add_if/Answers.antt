use Rattle.wesl_resolve.proofs.package_index.PackageIndex.add_if.Goals as goal

pub returns-then-is_first-clause-noted : goal.returns-then-is_first-clause-noted
returns-then-is_first-clause-noted c = λ k at first noted. c.add.ensures.noted k at (first c.if-is_first.true) noted

pub returns-else-is_first-clause-noted : goal.returns-else-is_first-clause-noted
returns-else-is_first-clause-noted c = λ k at first noted. noted
