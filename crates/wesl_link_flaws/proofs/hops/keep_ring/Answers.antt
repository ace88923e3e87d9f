use Rattle.std.proofs.Common.{◌≡◌, subst, rules}
use Rattle.wesl_link_symbols.specs.declared.ids.PathId.{PathId}
use Rattle.wesl_tree_base.specs.declared.ids.NameId.{NameId}
use Rattle.wesl_link_symbols.specs.declared.symbols.LookUp.{LookUp}
use Rattle.wesl_link_reach.specs.World.{Hops}
use Rattle.wesl_link_flaws.specs.Searching.{world_in}
use Rattle.wesl_link_flaws.proofs.hops.keep_ring.Goals as goal

pub keep_members-requires-clause-ring : goal.keep_members-requires-clause-ring
keep_members-requires-clause-ring c =
    let same : c.in-Ok.next ≡ c.args.behind = search rules in
    c.requires.ring (subst (λ (l : LookUp PathId NameId). Hops (world_in c.args.given.now) c.args.current l) same c.in-Ok.ensures.on)
