use Rattle.std.proofs.Common.{◌≡◌, inl, refl, rules}
use Rattle.wesl_link_trails.proofs.ends.Ends.put.Goals as goal

pub returns-in-Some-clause-kept : goal.returns-in-Some-clause-kept
returns-in-Some-clause-kept g c =
    let same : c.in-Some.found.asked ≡ c.args.asked = search rules in inl (refl, (c.in-Some.found, c.in-Some.ensures.found, same))
