use Rattle.std.proofs.Common.{refl}
use Rattle.wesl_link_reach.proofs.Clashing.{declared_met, undeclared_met}
use Rattle.wesl_link_flaws.proofs.clash.meets_declaration.Goals as goal

pub returns-clause-yes : goal.returns-clause-yes
returns-clause-yes c = λ yes. declared_met c.args.table.now c.args.import.now (c.sees_declaration.ensures.yes yes)

pub returns-clause-no : goal.returns-clause-no
returns-clause-no c = λ no. undeclared_met c.args.table.now c.args.import.now (c.if-stands_always.ensures.no refl) (c.sees_declaration.ensures.no no)
