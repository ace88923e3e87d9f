-- Links that record what printed names stand for, with nothing recorded yet.
use Rattle.std.specs.Prelude.{List, Option, None}
use Rattle.wesl_tree_names.specs.Path.{Text, Path, path_view}
use Rattle.wesl_tree_names.specs.declared.path.ModulePath.{ModulePath}
use Rattle.wesl_tree_names.specs.declared.errors.Diagnostic.{Diagnostic}
use Rattle.wesl_cond_features.specs.declared.features.Features.{Features}
use Rattle.wesl_resolve_base.specs.declared.resolver.Resolver as Resolver
use Rattle.wesl_link.specs.Linking.{RefusesLinkLeft, hands_left, refuses_left}
use Rattle.wesl_link.specs.Mapping.{IsLinkFound}
use Rattle.wesl_link.specs.declared.mapped.FoundLink.{FoundLink}
use Rattle.wesl_program_bundle.specs.declared.options.Options.{Options}
use Rattle.wesl_program.specs.Naming.{named_by}
use Rattle.wesl_program.specs.declared.naming.BundleMangler.{BundleMangler}

-- the names that a mangler of a bundle gives
abbrev pub given_by : BundleMangler → Path → Text → Text
given_by m = named_by m.naming

module _ {R : Type 0} (g : Resolver.Ghosts R) (resolver : R) (features : Option Features) (root : ModulePath) (keep : List Text) (options : Options) where
  -- what is found is a link of the units as the features leave them, which the mangler names, and nothing is recorded of it yet
  abbrev pub FindsUnrecorded : FoundLink BundleMangler → Type 0
  FindsUnrecorded found =
      IsLinkFound given_by (hands_left (g.hands resolver) (g.refuses resolver) features) (refuses_left (g.hands resolver) (g.refuses resolver) features)
      (named_by options.mangler) (path_view root) keep options.eager options.max_modules (λ name. None) found

  -- the diagnostic tells why such a link is refused
  abbrev pub RefusesToRecord : Diagnostic → Type 0
  RefusesToRecord = RefusesLinkLeft (g.hands resolver) (g.refuses resolver) features (path_view root) keep options.eager options.max_modules
