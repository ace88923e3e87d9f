use Rattle.std.proofs.Common.{refl}
use Rattle.wesl_tree_names.specs.Path.{path_view}
use Rattle.wesl_tree_syntax.specs.Unit.{spelled}
use Rattle.wesl_tree.specs.Translation.{unit_view}
use Rattle.wesl_resolve_base.specs.Packages.{IsReadIn, IsRefusedIn}
use Rattle.wesl_resolve.specs.StandardMeaning.{standard_packages, standard_reader}
use Rattle.wesl_resolve_base.proofs.ResultLemmas.{means-itself}
use Rattle.wesl_resolve.proofs.StandardLemmas.{Standard-same, Standard-local, in-package, given-in, refused-in, elsewhere, given-elsewhere, refused-elsewhere}
use Rattle.wesl_resolve.proofs.standard.StandardResolverResolver.resolve_module.Goals as goal

pub resolve_module-requires-in_default : goal.resolve_module-requires-in_default
resolve_module-requires-in_default g c = record { asked = c.requires.asked; rooted = c.requires.rooted }

pub returns-in-Package-clause-handed : goal.returns-in-Package-clause-handed
returns-in-Package-clause-handed g c =
    given-in c.args.path.now _ c.in-Package.is (λ u. IsReadIn (g.P.UnitText.reads (standard_reader c.args.self.now)) (standard_packages c.args.self.now) (path_view c.args.path.now) (spelled (unit_view u))) (λ u. g.R.Resolver.hands c.args.self.now.local (path_view c.args.path.now) (spelled (unit_view u))) c.resolve_module.result c.resolve_module.ensures.handed

pub returns-in-Package-clause-refused : goal.returns-in-Package-clause-refused
returns-in-Package-clause-refused g c =
    refused-in c.args.path.now _ c.in-Package.is (IsRefusedIn (g.P.UnitText.unreadable (standard_reader c.args.self.now)) (standard_packages c.args.self.now) (path_view c.args.path.now)) (g.R.Resolver.refuses c.args.self.now.local (path_view c.args.path.now)) c.resolve_module.result c.resolve_module.ensures.refused

pub returns-in-Package-clause-packages : goal.returns-in-Package-clause-packages
returns-in-Package-clause-packages g c = c.resolve_module.ensures.unchanged

pub returns-in-Package-clause-local : goal.returns-in-Package-clause-local
returns-in-Package-clause-local g c = means-itself g.R.Resolver.hands g.R.Resolver.refuses g.R.Resolver.source g.R.Resolver.lacks g.R.Resolver.shown c.args.self.now.local

pub returns-in-Package-clause-unasked : goal.returns-in-Package-clause-unasked
returns-in-Package-clause-unasked g c = in-package c.args.path.now _ c.in-Package.is _ _ refl

pub returns-in-Package-clause-same : goal.returns-in-Package-clause-same
returns-in-Package-clause-same g c = Standard-same _ _ _ _ _ c.args.self.now c.resolve_module.new.self c.resolve_module.ensures.unchanged

pub returns-in-Package-clause-stays_ready : goal.returns-in-Package-clause-stays_ready
returns-in-Package-clause-stays_ready g c = c.requires.asked

pub returns-in_default : goal.returns-in_default
returns-in_default g c = record {
  handed = given-elsewhere c.args.path.now c.in_default.not-Package (λ u. IsReadIn (g.P.UnitText.reads (standard_reader c.args.self.now)) (standard_packages c.args.self.now) (path_view c.args.path.now) (spelled (unit_view u))) (λ u. g.R.Resolver.hands c.args.self.now.local (path_view c.args.path.now) (spelled (unit_view u))) c.resolve_module-in_default.result c.resolve_module-in_default.ensures.handed;
  refused = refused-elsewhere c.args.path.now c.in_default.not-Package (IsRefusedIn (g.P.UnitText.unreadable (standard_reader c.args.self.now)) (standard_packages c.args.self.now) (path_view c.args.path.now)) (g.R.Resolver.refuses c.args.self.now.local (path_view c.args.path.now)) c.resolve_module-in_default.result c.resolve_module-in_default.ensures.refused;
  packages = refl;
  local = c.resolve_module-in_default.ensures.same;
  unasked = elsewhere c.args.path.now c.in_default.not-Package _ _ tt;
  same = Standard-local g.P.UnitText.reads g.P.UnitText.unreadable g.R.Resolver.hands g.R.Resolver.refuses g.R.Resolver.source g.R.Resolver.lacks g.R.Resolver.shown c.args.self.now c.resolve_module-in_default.new.self c.resolve_module-in_default.ensures.same;
  stays_ready = c.resolve_module-in_default.ensures.stays_ready;
}
