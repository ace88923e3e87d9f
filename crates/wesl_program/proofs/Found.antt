-- What is found at a path in what is held of a bundle, and what is told of it.
use Rattle.std.proofs.Common.{◌≡◌, List, Option, Result, Ok, String, string_bytes, refl, sym, ap, ◌∙◌, subst}
use Rattle.std.specs.declared.alloc.Global.{Global}
use Rattle.std.specs.Option.{ok_or}
use Rattle.serde_json.specs.Data.{Data}
use Rattle.wesl_tree_syntax.specs.Unit.{UnitOf}
use Rattle.wesl_tree_names.specs.Path.{Text, Path, Origin, absolute, relative, from_package, origin_view, path_view}
use Rattle.wesl_tree_names.specs.declared.path.ModulePath.{ModulePath}
use Rattle.wesl_tree_names.specs.declared.path.PathOrigin.{PathOrigin}
use Rattle.wesl_tree_names.specs.declared.path.PathOrigin.TheVariants.{Absolute, Relative, Package}
use Rattle.wesl_tree_names.specs.Errors.{IsRefusedWith}
use Rattle.wesl_tree_names.specs.declared.errors.ResolveError.{ResolveError}
use Rattle.wesl_json.specs.UnitTexts.{IsSpelled, IsTreeFault}
use Rattle.wesl_resolve_base.specs.Packages.{IsSaid}
use Rattle.wesl_program_bundle.specs.Packages.{Packages}
use Rattle.wesl_program_packages.specs.Held.{held_unit}
use Rattle.wesl_program_packages.specs.Units.{packaged_unit}
use Rattle.wesl_program.specs.Bundle.{Module, unit_at}
use Rattle.wesl_program.specs.Hands.{HoldsBundle, IsHanded, IsRefused, found_from, found_in, own_found, unit_in, virtual_module}
use Rattle.wesl_program.specs.Holds.{Holds}
use Rattle.wesl_program.specs.declared.bundle_resolver.BundleSources.{BundleSources}

-- the same is found as in the bundle, where its own modules and its packages are held
pub bundle-held : (packages : Packages) (modules : List Module) (s : BundleSources) → Holds modules s.modules
    → ((name : Text) (components : List Text) → held_unit s.packages name components ≡ packaged_unit packages name components) → HoldsBundle packages modules s
bundle-held packages modules s own held p = by p.origin
  where
    by : (o : Origin) → found_from (held_unit s.packages) (unit_in s.modules) o p ≡ found_from (packaged_unit packages) (λ q. unit_at q modules) o p
    by (from_package name) = held name p.components
    by absolute = ap (λ o. ok_or o virtual_module) (own p)
    by (relative n) = ap (λ o. ok_or o virtual_module) (own p)

-- at a path that begins in a named package, the unit of that package's module
pub found-packaged : (s : BundleSources) (path : ModulePath) (name : String Global) (text : Text) → path.origin ≡ Package name → text ≡ string_bytes name
    → found_in s (path_view path) ≡ held_unit s.packages text (path_view path).components
found-packaged s path name text at is =
    ap (λ o. found_from (held_unit s.packages) (unit_in s.modules) (origin_view o) (path_view path)) at
    ∙ ap (λ t. held_unit s.packages t (path_view path).components) (sym is)

own-origin : (in_package : Text → List Text → Result Data Text) (own : Path → Option Data) (o : PathOrigin) (p : Path) → ((name : String Global) → o ≡ Package name → ⊥)
    → found_from in_package own (origin_view o) p ≡ own_found own p
own-origin in_package own Absolute p not = refl
own-origin in_package own (Relative n) p not = refl
own-origin in_package own (Package name) p not = absurd (not name refl)

-- at any other path, the unit of the bundle's own module
pub found-own : (s : BundleSources) (path : ModulePath) → ((name : String Global) → path.origin ≡ Package name → ⊥) → found_in s (path_view path) ≡ own_found (unit_in s.modules) (path_view path)
found-own s path not = own-origin (held_unit s.packages) (unit_in s.modules) path.origin (path_view path) not

-- a value is found, and stands for a unit, or for none
pub handed-of : (found : Result Data Text) (d : Data) → found ≡ Ok d → (u : UnitOf Text) → IsSpelled d u → IsHanded found u
handed-of found d is u h = subst (λ f. IsHanded f u) (sym is) h

pub refused-of : (p : Path) (found : Result Data Text) (d : Data) → found ≡ Ok d → (e : ResolveError) → IsRefusedWith (IsTreeFault d) e → IsRefused p found e
refused-of p found d is e h = subst (λ f. IsRefused p f e) (sym is) h

-- none is found
pub missing-of : (p : Path) (found : Result Data Text) (e : ResolveError) → IsSaid p found e → IsRefused p found e
missing-of p found e (message, is, h) = subst (λ f. IsRefused p f e) (sym is) h
