use Rattle.wesl_link_split.specs.Grouped.{ids, places_of}
use Rattle.wesl_link_split.specs.SightView.{sight_view}
use Rattle.wesl_link_split.specs.Split as split
use Rattle.wesl_link_split.proofs.Passing.{passed_by, some_is}
use Rattle.wesl_link_split.proofs.sight.Sight.next.Goals as goal

pub returns-in-Some-clause-unseen : goal.returns-in-Some-clause-unseen
returns-in-Some-clause-unseen c name held =
    let s = sight_view c.args.self.now in
    let (of, covers) = some_is _ c.args.unions c.in-Some.covers c.in-Some.is held in
    passed_by s name c.args.from c.args.index c.next.result of (c.next.ensures.unseen (places_of (split.of_name ids name s.binders)) covers)
