use Rattle.std.proofs.Common.{inl, inr, refl, arith, string_bytes, option_map}
use Rattle.wesl_tree_names.specs.Path.{path_view}
use Rattle.wesl_resolve_base.proofs.ResultLemmas.{IfOk-to}
use Rattle.wesl_resolve.proofs.RouterLemmas.{Takes-read, Takes-fits, Routed-by, Routed-beside, TakenByNone-read, ready-beside}
use Rattle.std.proofs.lemmas.Option.{slice_get_within}
use Rattle.wesl_resolve.proofs.router.RouterResolver.display_name.Goals as goal

pub name_after-requires-clause-asked : goal.name_after-requires-clause-asked
name_after-requires-clause-asked g c =
    let mounts = c.args.self.now.mount_points.items in
    let p = path_view c.args.path.now in
    let m = c.index-mount.result.now in
    let taken = Takes-read c.deref.result.now mounts p c.in-Some.place m c.deref.ensures.value c.in-Some.ensures c.index-mount.ensures in
    c.requires.asked.mounted c.in-Some.place m taken.there

pub name_after-requires-clause-within : goal.name_after-requires-clause-within
name_after-requires-clause-within g c =
    let mounts = c.args.self.now.mount_points.items in
    let p = path_view c.args.path.now in
    let m = c.index-mount.result.now in
    Takes-fits mounts p c.in-Some.place m _ (Takes-read c.deref.result.now mounts p c.in-Some.place m c.deref.ensures.value c.in-Some.ensures c.index-mount.ensures) c.depth.ensures

pub returns-in-Some-clause-named : goal.returns-in-Some-clause-named
returns-in-Some-clause-named g c =
    let mounts = c.args.self.now.mount_points.items in
    let p = path_view c.args.path.now in
    let m = c.index-mount.result.now in
    let taken = Takes-read c.deref.result.now mounts p c.in-Some.place m c.deref.ensures.value c.in-Some.ensures c.index-mount.ensures in
    IfOk-to _ _ (λ name h. inl (Routed-by (λ b q. g.B.Resolver.shown b q (option_map string_bytes name)) mounts c.args.self.now.fallback p c.in-Some.place m _ taken c.depth.ensures h)) c.name_after.result c.name_after.ensures.named

pub returns-in-Some-clause-refused : goal.returns-in-Some-clause-refused
returns-in-Some-clause-refused g c = c.name_after.ensures.refused

pub name_after-requires-in-Some-fallback-clause-asked : goal.name_after-requires-in-Some-fallback-clause-asked
name_after-requires-in-Some-fallback-clause-asked g c =
    ready-beside g.B.Resolver.ready c.args.self.now.mount_points.items c.args.self.now.fallback _ c.requires.asked c.in-Some-fallback.is

pub name_after-requires-in-Some-fallback-clause-within : goal.name_after-requires-in-Some-fallback-clause-within
name_after-requires-in-Some-fallback-clause-within g c = omega arith

pub returns-in-Some-fallback-clause-named : goal.returns-in-Some-fallback-clause-named
returns-in-Some-fallback-clause-named g c =
    let mounts = c.args.self.now.mount_points.items in
    let p = path_view c.args.path.now in
    IfOk-to _ _ (λ name h. inl (Routed-beside (λ b q. g.B.Resolver.shown b q (option_map string_bytes name)) c.deref.result.now mounts c.args.self.now.fallback _ p c.deref.ensures.value c.in-None.ensures c.in-Some-fallback.is h)) c.name_after-in-Some-fallback.result c.name_after-in-Some-fallback.ensures.named

pub returns-in-Some-fallback-clause-refused : goal.returns-in-Some-fallback-clause-refused
returns-in-Some-fallback-clause-refused g c = c.name_after-in-Some-fallback.ensures.refused

pub returns-in-None-fallback-clause-named : goal.returns-in-None-fallback-clause-named
returns-in-None-fallback-clause-named g c =
    inr ((TakenByNone-read c.deref.result.now c.args.self.now.mount_points.items (path_view c.args.path.now) c.deref.ensures.value c.in-None.ensures, c.in-None-fallback.is), refl)

pub returns-in-None-fallback-clause-refused : goal.returns-in-None-fallback-clause-refused
returns-in-None-fallback-clause-refused g c = tt

pub index-mount-requires : goal.index-mount-requires
index-mount-requires g c = omega (arith, c.deref.ensures.len, slice_get_within c.deref.result.now c.in-Some.place c.in-Some.ensures.0 c.in-Some.ensures.1.there)
