use Rattle.std.proofs.Common.{inr}
use Rattle.wesl_link_flaws.proofs.clash.clashes_with_declaration.Goals as goal

pub returns-then-not-is_own-clause-no : goal.returns-then-not-is_own-clause-no
returns-then-not-is_own-clause-no c = λ no. inr (c.meets_declaration.ensures.no no)
