use Rattle.std.proofs.Common.{◌∙◌, ap, subst, Option, Bor, IfSome}
use Rattle.wesl_cond_choices.specs.Choices.{Choices}
use Rattle.wesl_cond_covers.specs.Sight.{AreOthers, changes_at}
use Rattle.wesl_cond_covers.proofs.Changing.{ends_not}
use Rattle.wesl_cond_covers.proofs.sights.Sights.next_change.Goals as goal

pub returns-in-Some-clause-same : goal.returns-in-Some-clause-same
returns-in-Some-clause-same c places h k p low high at =
    let alive = c.args.alive.now in
    let set = c.in-Some.others in
    let others : AreOthers alive c.args.from set.now = subst (λ (o : Option (Bor Choices)). IfSome o (λ x. AreOthers alive c.args.from x.now)) c.in-Some.is c.requires in
    ap (λ b. changes_at alive c.args.from b p) c.if-not-is_seeing.false ∙ ends_not alive c.args.from p set.now others (c.next_apart.ensures.apart alive places h.covered k p low high at)
