use Rattle.std.proofs.Common.{None, subst}
use Rattle.wesl_link_symbols.specs.declared.ids.PathId.{PathId}
use Rattle.wesl_tree_base.specs.declared.ids.NameId.{NameId}
use Rattle.wesl_link_symbols.specs.Tables.{Table}
use Rattle.wesl_link_symbols.specs.Names.{AsksFrom, IsUnclearFrom}
use Rattle.wesl_link_reach.specs.Loading.{world_of}
use Rattle.wesl_link_symbols.proofs.Lists.{at_contains, one_at}
use Rattle.wesl_link_reach.proofs.Turns.{asked_can, module_followed, module_unclear}
use Rattle.wesl_link_reach.proofs.run.answer_asserts.Goals as goal

pub follow_all-requires-clause-followed : goal.follow_all-requires-clause-followed
follow_all-requires-clause-followed g c =
    let (t, at, is) = c.in_ok-asked.ensures in
    λ l h. module_followed t l c.requires.sound (at_contains (world_of c.args.request.now c.args.loaded.now) c.args.place t at) ((is l).0 (rw c.deref.ensures.value at h))

pub follow_all-requires-clause-can : goal.follow_all-requires-clause-can
follow_all-requires-clause-can g c =
    let (t, at, is) = c.in_ok-asked.ensures in
    λ l h. asked_can t _ l c.requires.sound (at_contains (world_of c.args.request.now c.args.loaded.now) c.args.place t at) ((is l).0 (rw c.deref.ensures.value at h))

pub returns-clause-answered : goal.returns-clause-answered
returns-clause-answered g c =
    let (t, at, is) = c.in_ok-asked.ensures in
    λ u at2 l asks. c.in_ok-follow_all.ensures.answered l (rw c.deref.ensures.value ((is l).1
    (subst (λ (x : Table PathId NameId). AsksFrom x None l) (one_at (world_of c.args.request.now c.args.loaded.now) c.args.place u t at2 at) asks)))

pub returns-in-Some-clause-refused : goal.returns-in-Some-clause-refused
returns-in-Some-clause-refused g c =
    let (t, at, unclear) = c.in-Some.ensures in
    module_unclear (g.L.Loader.refuses c.args.loader.now) t c.in-Some.name c.requires.sound (at_contains (world_of c.args.request.now c.args.loaded.now) c.args.place t at) unclear

pub returns-clause-clear : goal.returns-clause-clear
returns-clause-clear g c =
    let (t, at, clear) = c.in_default.ensures in
    λ u at2 n unclear. clear n (subst (λ (x : Table PathId NameId). IsUnclearFrom x None n) (one_at (world_of c.args.request.now c.args.loaded.now) c.args.place u t at2 at) unclear)
