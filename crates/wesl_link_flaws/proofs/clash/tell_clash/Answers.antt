use Rattle.std.proofs.Common.{inl, inr, sym}
use Rattle.wesl_link_reach.proofs.Following.{puts_has}
use Rattle.wesl_link_flaws.proofs.Searching.{puts_cases}
use Rattle.wesl_link_flaws.proofs.clash.tell_clash.Goals as goal

pub returns-then-not-clashes-clause-seen : goal.returns-then-not-clashes-clause-seen
returns-then-not-clashes-clause-seen c = inr (c.clashes.ensures.no c.if-not-clashes.true)

pub returns-clause-only : goal.returns-clause-only
returns-clause-only c = λ f h. elim (puts_cases _ _ _ f (rw c.path-path.ensures at c.in_ok-put.ensures.puts) h) [
  | inl old ↦ inl old
  | inr e ↦ inr (c.args.import.now.bound, c.clashes.ensures.yes c.if-not-clashes.false, sym e)
]

pub returns-clause-seen : goal.returns-clause-seen
returns-clause-seen c = inl (puts_has _ _ _ (rw c.path-path.ensures at c.in_ok-put.ensures.puts))
