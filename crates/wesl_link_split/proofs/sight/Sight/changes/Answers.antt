use Rattle.std.proofs.Common.{◌≡◌, false, List, IfOk, subst}
use Rattle.wesl_cond_covers.specs.Sight.{changes_from}
use Rattle.wesl_tree_base.specs.declared.ids.NameId.{NameId}
use Rattle.wesl_link_symbols.specs.declared.ids.PathId.{PathId}
use Rattle.wesl_link_split.specs.Grouped.{ids, places_of}
use Rattle.wesl_link_split.specs.SightView.{sight_view}
use Rattle.wesl_link_split.specs.Split as split
use Rattle.wesl_link_split.specs.Split.{Binder}
use Rattle.wesl_link_split.proofs.Anywhere.{if_ok}
use Rattle.wesl_link_split.proofs.Passing.{some_is}
use Rattle.wesl_link_split.proofs.sight.Sight.changes.Goals as goal

pub returns-in-Some : goal.returns-in-Some
returns-in-Some c =
    let s = sight_view c.args.self.now in
    let (of, sights) = some_is _ c.sights_at.result c.in-Some.sights c.in-Some.is c.sights_at.ensures in
    if_ok c.changes.result (λ v h. h (places_of (split.of_name ids c.args.name s.binders)) sights) c.changes.ensures

pub returns-in-None : goal.returns-in-None
returns-in-None c =
    let s = sight_view c.args.self.now in
    subst (λ (g : List (Binder PathId NameId)). IfOk c.changes_among.result (λ v. v.items ≡ changes_from s.alive c.args.from false 0 (places_of g))) c.group.ensures c.changes_among.ensures
