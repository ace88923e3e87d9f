use Rattle.std.proofs.Common.{string_bytes, refl}
use Rattle.wesl_tree_names.specs.Path.{path_view}
use Rattle.wesl_resolve_base.specs.Packages.{IsMissingIn, IsSourceIn}
use Rattle.wesl_resolve.specs.StandardMeaning.{standard_packages}
use Rattle.wesl_resolve_base.proofs.ResultLemmas.{means-itself}
use Rattle.wesl_resolve.proofs.StandardLemmas.{Standard-same, Standard-local, in-package, given-in, refused-in, elsewhere, given-elsewhere, refused-elsewhere}
use Rattle.wesl_resolve.proofs.standard.StandardResolverResolver.resolve_source.Goals as goal

pub resolve_source-requires-in_default : goal.resolve_source-requires-in_default
resolve_source-requires-in_default g c = record { asked = c.requires.asked; rooted = c.requires.rooted }

pub returns-in-Package-clause-given : goal.returns-in-Package-clause-given
returns-in-Package-clause-given g c =
    given-in c.args.path.now _ c.in-Package.is (λ text. IsSourceIn (standard_packages c.args.self.now) (path_view c.args.path.now) (string_bytes text)) (λ text. g.R.Resolver.source c.args.self.now.local (path_view c.args.path.now) (string_bytes text)) c.resolve_source.result c.resolve_source.ensures.given

pub returns-in-Package-clause-refused : goal.returns-in-Package-clause-refused
returns-in-Package-clause-refused g c =
    refused-in c.args.path.now _ c.in-Package.is (IsMissingIn (standard_packages c.args.self.now) (path_view c.args.path.now)) (g.R.Resolver.lacks c.args.self.now.local (path_view c.args.path.now)) c.resolve_source.result c.resolve_source.ensures.refused

pub returns-in-Package-clause-packages : goal.returns-in-Package-clause-packages
returns-in-Package-clause-packages g c = c.resolve_source.ensures.unchanged

pub returns-in-Package-clause-local : goal.returns-in-Package-clause-local
returns-in-Package-clause-local g c = means-itself g.R.Resolver.hands g.R.Resolver.refuses g.R.Resolver.source g.R.Resolver.lacks g.R.Resolver.shown c.args.self.now.local

pub returns-in-Package-clause-unasked : goal.returns-in-Package-clause-unasked
returns-in-Package-clause-unasked g c = in-package c.args.path.now _ c.in-Package.is _ _ refl

pub returns-in-Package-clause-same : goal.returns-in-Package-clause-same
returns-in-Package-clause-same g c = Standard-same _ _ _ _ _ c.args.self.now c.resolve_source.new.self c.resolve_source.ensures.unchanged

pub returns-in-Package-clause-stays_ready : goal.returns-in-Package-clause-stays_ready
returns-in-Package-clause-stays_ready g c = c.requires.asked

pub returns-in_default : goal.returns-in_default
returns-in_default g c = record {
  given = given-elsewhere c.args.path.now c.in_default.not-Package (λ text. IsSourceIn (standard_packages c.args.self.now) (path_view c.args.path.now) (string_bytes text)) (λ text. g.R.Resolver.source c.args.self.now.local (path_view c.args.path.now) (string_bytes text)) c.resolve_source-in_default.result c.resolve_source-in_default.ensures.given;
  refused = refused-elsewhere c.args.path.now c.in_default.not-Package (IsMissingIn (standard_packages c.args.self.now) (path_view c.args.path.now)) (g.R.Resolver.lacks c.args.self.now.local (path_view c.args.path.now)) c.resolve_source-in_default.result c.resolve_source-in_default.ensures.refused;
  packages = refl;
  local = c.resolve_source-in_default.ensures.same;
  unasked = elsewhere c.args.path.now c.in_default.not-Package _ _ tt;
  same = Standard-local g.P.UnitText.reads g.P.UnitText.unreadable g.R.Resolver.hands g.R.Resolver.refuses g.R.Resolver.source g.R.Resolver.lacks g.R.Resolver.shown c.args.self.now c.resolve_source-in_default.new.self c.resolve_source-in_default.ensures.same;
  stays_ready = c.resolve_source-in_default.ensures.stays_ready;
}
