use Rattle.std.proofs.Common.{List, ap}
use Rattle.std.specs.List.{filter}
use Rattle.wesl_tree_base.specs.declared.ids.NameId.{NameId}
use Rattle.wesl_link_symbols.specs.declared.ids.PathId.{PathId}
use Rattle.wesl_link_split.specs.Grouped.{ids, asks_for}
use Rattle.wesl_link_split.specs.SightView.{sight_view}
use Rattle.wesl_link_split.specs.Split as split
use Rattle.wesl_link_split.specs.Split.{Binder}
use Rattle.wesl_link_split.proofs.Anywhere.{if_ok}
use Rattle.wesl_link_split.proofs.Noting.{named_alike}
use Rattle.wesl_link_split.proofs.sight.Sight.aim_of.Goals as goal

pub add_aims-requires-clause-group : goal.add_aims-requires-clause-group
add_aims-requires-clause-group c = named_alike (sight_view c.args.self.now) c.args.binder.now.bound c.group.result.now c.group.ensures

pub returns : goal.returns
returns c =
    let s = sight_view c.args.self.now in
    let b = c.args.binder.now in
    let has = ap (λ (l : List (Binder PathId NameId)). split.first_or ids s b (filter (λ d. asks_for b (split.finding ids s b) d (split.finding ids s d)) l)) c.group.ensures in
    if_ok c.aim_noted.result (λ a h. h c.group.result.now c.in_ok-add_aims.ensures.noted has) c.aim_noted.ensures.aim
