use Rattle.std.proofs.Common.{◌≡◌, length, inl, inr, refl, rules}
use Rattle.wesl_link_trails.proofs.Noting.{one_numbered}
use Rattle.wesl_link_trails.proofs.ends.Ends.note.Goals as goal

pub returns-in-Some-clause-asked : goal.returns-in-Some-clause-asked
returns-in-Some-clause-asked g c = inl (c.requires.numbered.there _ _ c.in-Some.ensures.found, refl)

pub returns-in_ok-push-in-None-clause-numbered : goal.returns-in_ok-push-in-None-clause-numbered
returns-in_ok-push-in-None-clause-numbered g c =
    let n : c.len.result ≡ length c.args.self.now.asked.items = search rules in
    one_numbered _ _ _ _ c.args.question _ n c.in-None.ensures.none c.requires.numbered c.in_ok-put-in-None.ensures.puts c.in_ok-push-in-None.ensures.items

pub returns-in_ok-push-in-None-clause-asked : goal.returns-in_ok-push-in-None-clause-asked
returns-in_ok-push-in-None-clause-asked g c = inr ((λ h. (let (n, there) = c.requires.numbered.noted c.args.question h in c.in-None.ensures.none n there)), c.in_ok-push-in-None.ensures.items)
