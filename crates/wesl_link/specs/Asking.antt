-- What a link says of the resolver that it asks, and of what it is asked for.
use Rattle.std.specs.Prelude.{Option}
use Rattle.wesl_tree_names.specs.declared.errors.Diagnostic.{Diagnostic}
use Rattle.wesl_tree.specs.declared.unit.TranslationUnit.{TranslationUnit}
use Rattle.wesl_cond_features.specs.declared.features.Features.{Features}
use Rattle.wesl_resolve_base.specs.declared.resolver.Resolver.{Ghosts}
use Rattle.wesl_link_engine.specs.Asking.{Request}
use Rattle.wesl_link_engine.specs.Linking.{LinksRoot, CountsTurns}
use Rattle.wesl_link.specs.Keeping.{resolved, modules_of, turns_of}
use Rattle.wesl_link.specs.Linking.{Links, LinksLeft, RefusesLink, RefusesLinkLeft}
use Rattle.wesl_link.specs.declared.resolutions.Resolutions.{Resolutions}

-- the link took as many turns as it has modules and reached symbols
abbrev pub TakesItsTurns : Request → Resolutions → Type 0
TakesItsTurns q r = CountsTurns q (resolved r)

module _ {R : Type 0} (g : Ghosts R) (resolver : R) (q : Request) where
  -- what is found is a link of the root, whose unit this is
  abbrev pub FindsRoot : TranslationUnit → Resolutions → Type 0
  FindsRoot unit r = LinksRoot g resolver q unit (resolved r)

  -- what is found is a link of the root, which is handed out as every other module is
  abbrev pub FindsLink : Resolutions → Type 0
  FindsLink r = Links (g.hands resolver) (g.refuses resolver) q.root q.keep q.is_eager q.limit (turns_of r) (modules_of r)

  -- the diagnostic tells why such a link is refused
  abbrev pub TellsRefusal : Diagnostic → Type 0
  TellsRefusal d = RefusesLink (g.hands resolver) (g.refuses resolver) q.root q.keep q.is_eager q.limit d

module _ {R : Type 0} (g : Ghosts R) (resolver : R) (features : Option Features) (q : Request) where
  -- what is found is a link of the root, of the units as the features leave them
  abbrev pub FindsLinkLeft : Resolutions → Type 0
  FindsLinkLeft r = LinksLeft (g.hands resolver) (g.refuses resolver) features q.root q.keep q.is_eager q.limit (turns_of r) (modules_of r)

  -- the diagnostic tells why such a link is refused
  abbrev pub TellsRefusalOfLeft : Diagnostic → Type 0
  TellsRefusalOfLeft d = RefusesLinkLeft (g.hands resolver) (g.refuses resolver) features q.root q.keep q.is_eager q.limit d
