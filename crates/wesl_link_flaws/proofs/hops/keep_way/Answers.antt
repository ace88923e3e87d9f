use Rattle.wesl_link_flaws.proofs.Ways.{back_way, kept_noted}
use Rattle.wesl_link_reach.proofs.Following.{puts_on}
use Rattle.wesl_link_flaws.proofs.hops.keep_way.Goals as goal

pub keep_back-requires-clause-kept : goal.keep_back-requires-clause-kept
keep_back-requires-clause-kept c = kept_noted _ _ c.in_ok-note.ensures.numbered (puts_on _ _ _ c.in_ok-note.ensures.asked) c.note.ensures.kept c.requires.kept

pub keep_back-requires-clause-back : goal.keep_back-requires-clause-back
keep_back-requires-clause-back c =
    back_way _ c.args.entered.now c.args.ends.now.asked.items c.args.trail.now.items c.args.start c.args.current c.args.bound c.args.end _ c.requires.by c.requires.fresh c.requires.apart c.requires.ends (rw c.question.ensures at c.in_ok-note.ensures.asked)
