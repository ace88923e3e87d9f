use Rattle.std.proofs.Common.{inl, inr, ⊎_elim, arith, string_bytes}
use Rattle.wesl_tree_names.specs.Path.{path_view}
use Rattle.wesl_resolve_base.specs.Resolver.{MeansTheSame}
use Rattle.wesl_resolve_base.proofs.ResultLemmas.{means-itself, IfOk-to, refused-to}
use Rattle.wesl_resolve.proofs.RouterLemmas.{KeepsEach-set, KeepsEach-fallback, KeepsEach-same, Takes-read, Takes-fits, Routed-by, RouterMeans-set, RouterMeans-fallback, AllReady-set, LeavesOthers-set, LeavesOthers-fallback, LeavesOthers-same, TakenByNone-read, Routed-beside, AllReady-beside, ready-beside, RouterMeans-same}
use Rattle.std.proofs.lemmas.Option.{slice_get_within}
use Rattle.wesl_resolve.proofs.router.RouterResolver.resolve_source.Goals as goal

pub source_after-requires-clause-asked : goal.source_after-requires-clause-asked
source_after-requires-clause-asked g c =
    let mounts = c.args.self.now.mount_points.items in
    let p = path_view c.args.path.now in
    let m = c.index_mut-mount.result.now in
    let taken = Takes-read c.deref.result.now mounts p c.in-Some.place m c.deref.ensures.value c.in-Some.ensures c.index_mut-mount.ensures.value in
    c.requires.asked.mounted c.in-Some.place m taken.there

pub source_after-requires-clause-within : goal.source_after-requires-clause-within
source_after-requires-clause-within g c =
    let mounts = c.args.self.now.mount_points.items in
    let p = path_view c.args.path.now in
    let m = c.index_mut-mount.result.now in
    Takes-fits mounts p c.in-Some.place m _ (Takes-read c.deref.result.now mounts p c.in-Some.place m c.deref.ensures.value c.in-Some.ensures c.index_mut-mount.ensures.value) c.depth-count.ensures

pub returns-in-Some-clause-given : goal.returns-in-Some-clause-given
returns-in-Some-clause-given g c =
    let mounts = c.args.self.now.mount_points.items in
    let p = path_view c.args.path.now in
    let m = c.index_mut-mount.result.now in
    let taken = Takes-read c.deref.result.now mounts p c.in-Some.place m c.deref.ensures.value c.in-Some.ensures c.index_mut-mount.ensures.value in
    IfOk-to _ _ (λ text h. Routed-by (λ b q. g.B.Resolver.source b q (string_bytes text)) mounts c.args.self.now.fallback p c.in-Some.place m _ taken c.depth-count.ensures h) c.source_after.result c.source_after.ensures.given

pub returns-in-Some-clause-refused : goal.returns-in-Some-clause-refused
returns-in-Some-clause-refused g c =
    let mounts = c.args.self.now.mount_points.items in
    let p = path_view c.args.path.now in
    let m = c.index_mut-mount.result.now in
    let taken = Takes-read c.deref.result.now mounts p c.in-Some.place m c.deref.ensures.value c.in-Some.ensures c.index_mut-mount.ensures.value in
    refused-to _ _ (λ e h. inl (Routed-by (λ b q. g.B.Resolver.lacks b q e) mounts c.args.self.now.fallback p c.in-Some.place m _ taken c.depth-count.ensures h)) c.source_after.result c.source_after.ensures.refused

pub returns-in-Some-clause-same : goal.returns-in-Some-clause-same
returns-in-Some-clause-same g c =
    let mounts = c.args.self.now.mount_points.items in
    let p = path_view c.args.path.now in
    let m = c.index_mut-mount.result.now in
    let taken = Takes-read c.deref.result.now mounts p c.in-Some.place m c.deref.ensures.value c.in-Some.ensures c.index_mut-mount.ensures.value in
    RouterMeans-set g.B.Resolver.hands g.B.Resolver.refuses g.B.Resolver.source g.B.Resolver.lacks g.B.Resolver.shown c.args.self.now c.in-Some.place m c.source_after.new.resolver taken.there c.source_after.ensures.same

pub returns-in-Some-fallback-clause-same : goal.returns-in-Some-fallback-clause-same
returns-in-Some-fallback-clause-same g c =
    RouterMeans-fallback g.B.Resolver.hands g.B.Resolver.refuses g.B.Resolver.source g.B.Resolver.lacks g.B.Resolver.shown c.args.self.now _ c.source_after-in-Some-fallback.new.resolver c.in-Some-fallback.is c.source_after-in-Some-fallback.ensures.same

pub returns-in-Some-clause-stays_ready : goal.returns-in-Some-clause-stays_ready
returns-in-Some-clause-stays_ready g c =
    let mounts = c.args.self.now.mount_points.items in
    let m = c.index_mut-mount.result.now in
    AllReady-set g.B.Resolver.ready mounts c.args.self.now.fallback c.in-Some.place m c.source_after.new.resolver c.requires.asked c.source_after.ensures.stays_ready

pub returns-in-Some-clause-others : goal.returns-in-Some-clause-others
returns-in-Some-clause-others g c =
    let mounts = c.args.self.now.mount_points.items in
    let p = path_view c.args.path.now in
    let m = c.index_mut-mount.result.now in
    let taken = Takes-read c.deref.result.now mounts p c.in-Some.place m c.deref.ensures.value c.in-Some.ensures c.index_mut-mount.ensures.value in
    LeavesOthers-set mounts c.args.self.now.fallback p c.in-Some.place m c.source_after.new.resolver taken

pub returns-in-Some-fallback-clause-others : goal.returns-in-Some-fallback-clause-others
returns-in-Some-fallback-clause-others g c =
    let mounts = c.args.self.now.mount_points.items in
    let p = path_view c.args.path.now in
    LeavesOthers-fallback mounts c.args.self.now.fallback p _ c.source_after-in-Some-fallback.new.resolver c.in-Some-fallback.is (TakenByNone-read c.deref.result.now mounts p c.deref.ensures.value c.in-None.ensures)

pub source_after-requires-in-Some-fallback-clause-asked : goal.source_after-requires-in-Some-fallback-clause-asked
source_after-requires-in-Some-fallback-clause-asked g c =
    ready-beside g.B.Resolver.ready c.args.self.now.mount_points.items c.args.self.now.fallback _ c.requires.asked c.in-Some-fallback.is

pub source_after-requires-in-Some-fallback-clause-within : goal.source_after-requires-in-Some-fallback-clause-within
source_after-requires-in-Some-fallback-clause-within g c = omega arith

pub returns-in-Some-fallback-clause-given : goal.returns-in-Some-fallback-clause-given
returns-in-Some-fallback-clause-given g c =
    let mounts = c.args.self.now.mount_points.items in
    let p = path_view c.args.path.now in
    IfOk-to _ _ (λ text h. Routed-beside (λ b q. g.B.Resolver.source b q (string_bytes text)) c.deref.result.now mounts c.args.self.now.fallback _ p c.deref.ensures.value c.in-None.ensures c.in-Some-fallback.is h) c.source_after-in-Some-fallback.result c.source_after-in-Some-fallback.ensures.given

pub returns-in-Some-fallback-clause-refused : goal.returns-in-Some-fallback-clause-refused
returns-in-Some-fallback-clause-refused g c =
    let mounts = c.args.self.now.mount_points.items in
    let p = path_view c.args.path.now in
    refused-to _ _ (λ e h. inl (Routed-beside (λ b q. g.B.Resolver.lacks b q e) c.deref.result.now mounts c.args.self.now.fallback _ p c.deref.ensures.value c.in-None.ensures c.in-Some-fallback.is h)) c.source_after-in-Some-fallback.result c.source_after-in-Some-fallback.ensures.refused

pub returns-in-Some-fallback-clause-stays_ready : goal.returns-in-Some-fallback-clause-stays_ready
returns-in-Some-fallback-clause-stays_ready g c =
    AllReady-beside g.B.Resolver.ready c.args.self.now.mount_points.items c.args.self.now.fallback c.source_after-in-Some-fallback.new.resolver c.requires.asked c.source_after-in-Some-fallback.ensures.stays_ready

pub returns-in-None-fallback-clause-given : goal.returns-in-None-fallback-clause-given
returns-in-None-fallback-clause-given g c = tt

pub returns-in-None-fallback-clause-refused : goal.returns-in-None-fallback-clause-refused
returns-in-None-fallback-clause-refused g c =
    let none = TakenByNone-read c.deref.result.now c.args.self.now.mount_points.items (path_view c.args.path.now) c.deref.ensures.value c.in-None.ensures in
    ⊎_elim inl (λ refusal. inr (inr ((none, c.in-None-fallback.is), refusal))) c.not_found.ensures

pub returns-in-None-fallback-clause-same : goal.returns-in-None-fallback-clause-same
returns-in-None-fallback-clause-same g c =
    RouterMeans-same g.B.Resolver.hands g.B.Resolver.refuses g.B.Resolver.source g.B.Resolver.lacks g.B.Resolver.shown c.args.self.now

pub returns-in-None-fallback-clause-stays_ready : goal.returns-in-None-fallback-clause-stays_ready
returns-in-None-fallback-clause-stays_ready g c = c.requires.asked

pub returns-in-None-fallback-clause-others : goal.returns-in-None-fallback-clause-others
returns-in-None-fallback-clause-others g c =
    LeavesOthers-same c.args.self.now.mount_points.items c.args.self.now.fallback (path_view c.args.path.now)

pub index_mut-mount-requires : goal.index_mut-mount-requires
index_mut-mount-requires g c = omega (arith, c.deref.ensures.len, slice_get_within c.deref.result.now c.in-Some.place c.in-Some.ensures.0 c.in-Some.ensures.1.there)

pub returns-in-Some-clause-each : goal.returns-in-Some-clause-each
returns-in-Some-clause-each g c =
    let mounts = c.args.self.now.mount_points.items in
    let p = path_view c.args.path.now in
    let m = c.index_mut-mount.result.now in
    let taken = Takes-read c.deref.result.now mounts p c.in-Some.place m c.deref.ensures.value c.in-Some.ensures c.index_mut-mount.ensures.value in
    KeepsEach-set (MeansTheSame g.B.Resolver.hands g.B.Resolver.refuses g.B.Resolver.source g.B.Resolver.lacks g.B.Resolver.shown) (means-itself g.B.Resolver.hands g.B.Resolver.refuses g.B.Resolver.source g.B.Resolver.lacks g.B.Resolver.shown) mounts c.args.self.now.fallback c.in-Some.place m c.source_after.new.resolver taken.there c.source_after.ensures.same

pub returns-in-Some-fallback-clause-each : goal.returns-in-Some-fallback-clause-each
returns-in-Some-fallback-clause-each g c =
    KeepsEach-fallback (MeansTheSame g.B.Resolver.hands g.B.Resolver.refuses g.B.Resolver.source g.B.Resolver.lacks g.B.Resolver.shown) (means-itself g.B.Resolver.hands g.B.Resolver.refuses g.B.Resolver.source g.B.Resolver.lacks g.B.Resolver.shown) c.args.self.now.mount_points.items c.args.self.now.fallback _ c.source_after-in-Some-fallback.new.resolver c.in-Some-fallback.is c.source_after-in-Some-fallback.ensures.same

pub returns-in-None-fallback-clause-each : goal.returns-in-None-fallback-clause-each
returns-in-None-fallback-clause-each g c =
    KeepsEach-same (MeansTheSame g.B.Resolver.hands g.B.Resolver.refuses g.B.Resolver.source g.B.Resolver.lacks g.B.Resolver.shown) (means-itself g.B.Resolver.hands g.B.Resolver.refuses g.B.Resolver.source g.B.Resolver.lacks g.B.Resolver.shown) c.args.self.now.mount_points.items c.args.self.now.fallback
