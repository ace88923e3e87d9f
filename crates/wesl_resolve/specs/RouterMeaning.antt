-- What a router means, by what the resolvers that it holds mean.
use Rattle.std.specs.Prelude.{◌≡◌, ◌⊎◌, Option, None, codes}
use Rattle.wesl_tree_names.specs.Path.{Text, Path}
use Rattle.wesl_tree_names.specs.Errors.{IsModuleNotFound}
use Rattle.wesl_tree_names.specs.declared.errors.ResolveError.{ResolveError}
use Rattle.wesl_tree_syntax.specs.Unit.{UnitOf}
use Rattle.wesl_resolve.specs.Held.{mounts_of, fallback_of}
use Rattle.wesl_resolve_base.specs.Resolver.{MeansTheSame}
use Rattle.wesl_resolve.specs.Router.{KeepsEach, LeavesOthers, Routed, NoRoute}
use Rattle.wesl_resolve.specs.declared.router.Router.{Router}

module _ {B : Type 0} where
  -- the resolver to which the path goes hands out the unit at the rest of the path: at the components after its prefix, or, as
  -- the fallback, at all of them
  abbrev pub router_hands : (B → Path → UnitOf Text → Type 0) → Router B → Path → UnitOf Text → Type 0
  router_hands hands r p u = Routed (λ b q. hands b q u) (mounts_of r) (fallback_of r) p

  -- the resolver to which the path goes refuses the rest of the path with the error; or the path goes to none, and the error
  -- says that no module is found at it, with the text `no mount point`
  abbrev pub router_refuses : (B → Path → ResolveError → Type 0) → Router B → Path → ResolveError → Type 0
  router_refuses refuses r p e =
      Routed (λ b q. refuses b q e) (mounts_of r) (fallback_of r) p ⊎ (NoRoute (mounts_of r) (fallback_of r) p × IsModuleNotFound p (codes "no mount point") e)

  -- the resolver to which the path goes has the text as the source at the rest of the path
  abbrev pub router_source : (B → Path → Text → Type 0) → Router B → Path → Text → Type 0
  router_source source r p text = Routed (λ b q. source b q text) (mounts_of r) (fallback_of r) p

  -- the resolver to which the path goes refuses the source at the rest of the path with the error; or the path goes to none,
  -- and the error says that no module is found at it, with the text `no mount point`
  abbrev pub router_lacks : (B → Path → ResolveError → Type 0) → Router B → Path → ResolveError → Type 0
  router_lacks = router_refuses

  -- the resolver to which the path goes shows the rest of the path by the name, or by none; a path that goes to no resolver is
  -- shown by none
  abbrev pub router_shown : (B → Path → Option Text → Type 0) → Router B → Path → Option Text → Type 0
  router_shown shown r p name = Routed (λ b q. shown b q name) (mounts_of r) (fallback_of r) p ⊎ (NoRoute (mounts_of r) (fallback_of r) p × (name ≡ None))

  -- both routers mean the same
  abbrev pub RouterMeans :
      (B → Path → UnitOf Text → Type 0) → (B → Path → ResolveError → Type 0)
      → (B → Path → Text → Type 0) → (B → Path → ResolveError → Type 0) → (B → Path → Option Text → Type 0) → Router B → Router B → Type 0
  RouterMeans hands refuses source lacks shown = MeansTheSame (router_hands hands) (router_refuses refuses) (router_source source) (router_lacks lacks) (router_shown shown)

  -- a call for the path reaches no resolver but the one that the path goes to
  abbrev pub ReachesOne : Path → Router B → Router B → Type 0
  ReachesOne p old new = LeavesOthers p (mounts_of old) (fallback_of old) (mounts_of new) (fallback_of new)

  -- each resolver that is mounted means what it meant, also where no path leads, and so does the fallback
  abbrev pub EachMeansTheSame :
      (B → Path → UnitOf Text → Type 0) → (B → Path → ResolveError → Type 0)
      → (B → Path → Text → Type 0) → (B → Path → ResolveError → Type 0) → (B → Path → Option Text → Type 0) → Router B → Router B → Type 0
  EachMeansTheSame hands refuses source lacks shown old new =
      KeepsEach (MeansTheSame hands refuses source lacks shown) (mounts_of old) (fallback_of old) (mounts_of new) (fallback_of new)
