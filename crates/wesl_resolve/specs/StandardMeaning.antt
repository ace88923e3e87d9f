-- What a standard resolver means: a path that begins in a named package is the packages', and every other the local
-- resolver's.
use Rattle.std.specs.Prelude.{◌≡◌, List, Option, None}
use Rattle.wesl_tree_names.specs.Path.{Text, Path}
use Rattle.wesl_tree_names.specs.declared.errors.Error.{Error}
use Rattle.wesl_tree_names.specs.declared.errors.ResolveError.{ResolveError}
use Rattle.wesl_tree_syntax.specs.Unit.{UnitOf}
use Rattle.wesl_resolve.specs.ByOrigin.{ByOrigin}
use Rattle.wesl_resolve.specs.Held.{added_packages, package_reader_of, package_resolver_of, local_of}
use Rattle.wesl_resolve_base.specs.Packages.{IsMissingIn, IsReadIn, IsRefusedIn, IsSourceIn}
use Rattle.wesl_resolve_base.specs.Resolver.{MeansTheSame}
use Rattle.wesl_resolve_base.specs.declared.packages.CodegenPkg.{CodegenPkg}
use Rattle.wesl_resolve.specs.declared.standard.StandardResolver.{StandardResolver}

module _ {R P : Type 0} where
  -- the packages, in the order in which they were added
  abbrev pub standard_packages : StandardResolver R P → List CodegenPkg
  standard_packages s = added_packages (package_resolver_of s)

  -- what reads the sources of the packages
  abbrev pub standard_reader : StandardResolver R P → P
  standard_reader s = package_reader_of (package_resolver_of s)

  -- in a named package the source of the module at the path is read as the unit; elsewhere the local resolver hands it out
  abbrev pub standard_hands : (P → Text → UnitOf Text → Type 0) → (R → Path → UnitOf Text → Type 0) → StandardResolver R P → Path → UnitOf Text → Type 0
  standard_hands reads hands s p u = ByOrigin p (IsReadIn (reads (standard_reader s)) (standard_packages s) p u) (hands (local_of s) p u)

  -- in a named package no module is at the path, or its source cannot be read; elsewhere the local resolver refuses the path
  abbrev pub standard_refuses : (P → Text → Error → Type 0) → (R → Path → ResolveError → Type 0) → StandardResolver R P → Path → ResolveError → Type 0
  standard_refuses unreadable refuses s p e = ByOrigin p (IsRefusedIn (unreadable (standard_reader s)) (standard_packages s) p e) (refuses (local_of s) p e)

  -- in a named package the text is the source of the module at the path; elsewhere the local resolver has it as the source
  abbrev pub standard_source : (R → Path → Text → Type 0) → StandardResolver R P → Path → Text → Type 0
  standard_source source s p text = ByOrigin p (IsSourceIn (standard_packages s) p text) (source (local_of s) p text)

  -- in a named package no module is at the path; elsewhere the local resolver refuses the source of the path
  abbrev pub standard_lacks : (R → Path → ResolveError → Type 0) → StandardResolver R P → Path → ResolveError → Type 0
  standard_lacks lacks s p e = ByOrigin p (IsMissingIn (standard_packages s) p e) (lacks (local_of s) p e)

  -- no module of a package has a name by which it is shown
  abbrev pub standard_shown : (R → Path → Option Text → Type 0) → StandardResolver R P → Path → Option Text → Type 0
  standard_shown shown s p name = ByOrigin p (name ≡ None) (shown (local_of s) p name)

  -- both mean the same
  abbrev pub StandardMeans :
      (P → Text → UnitOf Text → Type 0) → (P → Text → Error → Type 0)
      → (R → Path → UnitOf Text → Type 0) → (R → Path → ResolveError → Type 0)
      → (R → Path → Text → Type 0) → (R → Path → ResolveError → Type 0) → (R → Path → Option Text → Type 0) → StandardResolver R P → StandardResolver R P → Type 0
  StandardMeans reads unreadable hands refuses source lacks shown =
      MeansTheSame (standard_hands reads hands) (standard_refuses unreadable refuses) (standard_source source) (standard_lacks lacks) (standard_shown shown)
