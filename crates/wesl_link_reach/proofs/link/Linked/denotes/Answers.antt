use Rattle.wesl_link_symbols.specs.Names.{asked_for}
use Rattle.wesl_link_reach.proofs.Ends.{has_answer, answer_is, kept_in}
use Rattle.wesl_link_reach.proofs.link.Linked.denotes.Goals as goal

pub unreachable-requires : goal.unreachable-requires
unreachable-requires c =
    let (s, held) = has_answer c.args.self.now _ c.args.table.now c.args.reference.now (kept_in c.args.self.now _ _ _ _ c.self.view_is c.self.invariant) c.requires.loaded c.requires.held in
    c.in-None.ensures.none s (rw c.ask.ensures held)

pub returns-clause-found : goal.returns-clause-found
returns-clause-found c =
    let kept = kept_in c.args.self.now _ _ _ _ c.self.view_is c.self.invariant in kept.answered (asked_for c.args.table.now c.args.reference.now) c.in-Some.symbol (rw c.ask.ensures at c.in-Some.ensures.found)

pub returns-clause-alone : goal.returns-clause-alone
returns-clause-alone c =
    answer_is c.args.self.now _ (asked_for c.args.table.now c.args.reference.now) c.in-Some.symbol (kept_in c.args.self.now _ _ _ _ c.self.view_is c.self.invariant) (rw c.ask.ensures at c.in-Some.ensures.found)
