use Rattle.wesl_link_flaws.proofs.clash.clashes.Goals as goal

pub returns-else-clashes_with_declaration-clause-no : goal.returns-else-clashes_with_declaration-clause-no
returns-else-clashes_with_declaration-clause-no c = λ no. (c.clashes_with_declaration.ensures.no c.if-clashes_with_declaration.false, c.meets_import.ensures.no no)
