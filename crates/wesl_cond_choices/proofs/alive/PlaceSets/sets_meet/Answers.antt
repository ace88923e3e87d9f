use Rattle.std.proofs.Common.{◌↔◌, IsTrue, Some, ◌<◌, length, rules, sym, subst, ◌∙◌}
use Rattle.wesl_cond_choices.specs.Alive.{PlaceSets, ShareChoice, place_sets}
use Rattle.wesl_cond_choices.proofs.Kept.{share_of, there}
use Rattle.wesl_cond_choices.proofs.alive.PlaceSets.sets_meet.Goals as goal

pub meets-requires : goal.meets-requires
meets-requires c =
    let one : c.args.first < length c.self.inside.sets.items = search rules in
    let other : c.args.second < length c.self.inside.sets.items = search rules in
    c.self.invariant c.index.result.now (there c.self.inside.sets.items c.args.first c.index.result.now one c.index.ensures).1
    ∙ sym (c.self.invariant c.index-2.result.now (there c.self.inside.sets.items c.args.second c.index-2.result.now other c.index-2.ensures).1)

pub returns : goal.returns
returns c =
    let one : c.args.first < length c.self.inside.sets.items = search rules in
    let other : c.args.second < length c.self.inside.sets.items = search rules in
    let first = there c.self.inside.sets.items c.args.first c.index.result.now one c.index.ensures in
    let second = there c.self.inside.sets.items c.args.second c.index-2.result.now other c.index-2.ensures in
    let s : PlaceSets =
    place_sets c.self.inside.flags c.self.inside.sets.items c.self.inside.imports.items c.self.inside.declarations.items c.self.inside.names.items in
    subst (λ (v : PlaceSets). IsTrue c.meets.result ↔ ShareChoice v (Some c.args.first) (Some c.args.second)) c.self.view_is
    (share_of s c.args.first c.args.second c.index.result.now c.index-2.result.now first.0 second.0 (c.self.invariant c.index.result.now first.1) c.meets.result c.meets.ensures)
