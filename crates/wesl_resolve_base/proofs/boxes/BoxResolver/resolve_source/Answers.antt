use Rattle.std.proofs.Common.{IfOk, IfErr, subst, sym, string_bytes}
use Rattle.wesl_tree_names.specs.Path.{path_view}
use Rattle.wesl_tree_names.specs.Errors.{OrMemory}
use Rattle.wesl_resolve_base.specs.Resolver.{MeansTheSame}
use Rattle.wesl_resolve_base.proofs.boxes.BoxResolver.resolve_source.Goals as goal

pub resolve_source-requires-clause-asked : goal.resolve_source-requires-clause-asked
resolve_source-requires-clause-asked g c = subst (λ inner. g.T.Resolver.ready inner) (sym c.deref_mut.ensures.value) c.requires.asked

pub resolve_source-requires-clause-rooted : goal.resolve_source-requires-clause-rooted
resolve_source-requires-clause-rooted g c = c.requires.rooted

pub returns-clause-given : goal.returns-clause-given
returns-clause-given g c =
    subst (λ inner. IfOk c.resolve_source.result (λ text. g.T.Resolver.source inner (path_view c.args.path.now) (string_bytes text))) c.deref_mut.ensures.value c.resolve_source.ensures.given

pub returns-clause-refused : goal.returns-clause-refused
returns-clause-refused g c =
    subst (λ inner. IfErr c.resolve_source.result (OrMemory (g.T.Resolver.lacks inner (path_view c.args.path.now)))) c.deref_mut.ensures.value c.resolve_source.ensures.refused

pub returns-clause-same : goal.returns-clause-same
returns-clause-same g c =
    let same = subst (λ inner. MeansTheSame g.T.Resolver.hands g.T.Resolver.refuses g.T.Resolver.source g.T.Resolver.lacks g.T.Resolver.shown inner c.resolve_source.new.self) c.deref_mut.ensures.value c.resolve_source.ensures.same in
    record { units = same.units; faults = same.faults; sources = same.sources; missing = same.missing; names = same.names }

pub returns-clause-stays_ready : goal.returns-clause-stays_ready
returns-clause-stays_ready g c = c.resolve_source.ensures.stays_ready
