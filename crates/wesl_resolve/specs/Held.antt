-- What resolvers hold.
use Rattle.std.specs.Prelude.{List, Option}
use Rattle.wesl_tree_names.specs.Path.{Text, Path}
use Rattle.wesl_tree_names.specs.declared.path.ModulePath.{ModulePath}
use Rattle.wesl_resolve.specs.Texts.{texts_of}
use Rattle.wesl_resolve_base.specs.declared.packages.CodegenPkg.{CodegenPkg}
use Rattle.wesl_resolve.specs.declared.pkg_resolver.PkgResolver.{PkgResolver}
use Rattle.wesl_resolve.specs.declared.router.Router.{Router}
use Rattle.wesl_resolve.specs.declared.standard.StandardResolver.{StandardResolver}
use Rattle.wesl_resolve.specs.declared.virtual_resolver.VirtualResolver.{VirtualResolver}

-- the modules, in the order in which their paths were first added
abbrev pub held_sources : {P : Type 0} → VirtualResolver P → List (Path × Text)
held_sources s = texts_of s.modules.entries

-- what reads the texts of a virtual resolver as units
abbrev pub reader_of : {P : Type 0} → VirtualResolver P → P
reader_of s = s.text

-- the packages, in the order in which they were added
abbrev pub added_packages : {P : Type 0} → PkgResolver P → List CodegenPkg
added_packages s = s.packages.items

-- what reads the sources of the packages as units
abbrev pub package_reader_of : {P : Type 0} → PkgResolver P → P
package_reader_of s = s.text

-- the resolvers that are mounted, each with its prefix, in the order in which they were mounted
abbrev pub mounts_of : {B : Type 0} → Router B → List (ModulePath × B)
mounts_of r = r.mount_points.items

-- the resolver of the paths that no mount takes, if there is one
abbrev pub fallback_of : {B : Type 0} → Router B → Option B
fallback_of r = r.fallback

-- the resolver of the paths that begin in a named package
abbrev pub package_resolver_of : {R P : Type 0} → StandardResolver R P → PkgResolver P
package_resolver_of s = s.packages

-- the resolver of all other paths
abbrev pub local_of : {R P : Type 0} → StandardResolver R P → R
local_of s = s.local
