use Rattle.std.proofs.Common.{rules, refl}
use Rattle.wesl_tree_names.specs.Path.{path_view}
use Rattle.wesl_source_map.specs.BasicView.{sources}
use Rattle.wesl_source_map.proofs.Questions.{means-after, given-before}
use Rattle.wesl_source_map.proofs.mapper.SourceMapperResolver.resolve_module.Goals as goal

pub returns-in-Ok-record_given-clause-handed : goal.returns-in-Ok-record_given-clause-handed
returns-in-Ok-record_given-clause-handed g c = search rules

pub returns-in-Ok-record_given-clause-recorded : goal.returns-in-Ok-record_given-clause-recorded
returns-in-Ok-record_given-clause-recorded g c =
    given-before g.R.Resolver.hands g.R.Resolver.refuses g.R.Resolver.source g.R.Resolver.lacks g.R.Resolver.shown c.args.self.now.resolver c.resolve_module.new.self c.resolve_module.ensures.same
    (path_view c.args.path.now) (sources c.args.self.now.sourcemap) (sources c.record_given.new.self.sourcemap) c.in-Ok-record_given.ensures.recorded

pub returns-in-Ok-record_given-clause-same : goal.returns-in-Ok-record_given-clause-same
returns-in-Ok-record_given-clause-same g c =
    means-after g.R.Resolver.hands g.R.Resolver.refuses g.R.Resolver.source g.R.Resolver.lacks g.R.Resolver.shown c.args.self.now.resolver c.resolve_module.new.self c.resolve_module.ensures.same
    c.record_given.new.self.resolver c.record_given.ensures.same

pub returns-in-Err-record_given-clause-same : goal.returns-in-Err-record_given-clause-same
returns-in-Err-record_given-clause-same g c =
    means-after g.R.Resolver.hands g.R.Resolver.refuses g.R.Resolver.source g.R.Resolver.lacks g.R.Resolver.shown c.args.self.now.resolver c.resolve_module.new.self c.resolve_module.ensures.same
    c.record_given.new.self.resolver c.record_given.ensures.same

pub returns-in-Err : goal.returns-in-Err
returns-in-Err g c = record {
  handed = tt;
  recorded = tt;
  refused = c.in-Err.ensures.refused;
  kept = λ _. refl;
  same = c.in-Err.ensures.same;
  stays_ready = c.in-Err.ensures.stays_ready;
  beside = record { names = refl; path = refl; decls = λ _. refl; default = refl };
}
