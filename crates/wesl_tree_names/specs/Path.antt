-- Paths of modules, and how one is joined to another (WESL, "Imports").
use Rattle.std.specs.Prelude.{ℕ, ◌-◌, Bool, true, false, ◌&&◌, ◌==◌, List, [], ◌∷◌, ◌++◌, length, take, map, string_bytes, bytes_eq, codes}
pub use Rattle.wesl_tree_base.specs.Pieces.{Text}
use Rattle.wesl_tree_names.specs.declared.path.PathOrigin.{PathOrigin}
use Rattle.wesl_tree_names.specs.declared.path.PathOrigin.TheVariants.{Absolute, Relative, Package}
use Rattle.wesl_tree_names.specs.declared.path.ModulePath.{ModulePath}

-- where a path begins: at the root of the package, so many modules above its reader, or in a named package
pub data Origin : Type 0 where
  absolute : Origin
  relative : ℕ → Origin
  from_package : Text → Origin

-- where a path begins, and the names that lead on from there
pub record Path : Type 0 where
  pub origin : Origin
  pub components : List Text

-- what a value of the code says, without the room that its texts take
abbrev pub origin_view : PathOrigin → Origin
origin_view Absolute = absolute
origin_view (Relative n) = relative n
origin_view (Package name) = from_package (string_bytes name)

-- the path that a value of the code says: where it begins, and its components by their bytes
abbrev pub path_view : ModulePath → Path
path_view p = record { origin = origin_view p.origin; components = map string_bytes p.components.items }

-- `package`, without components: the root module of the package in which it is read
abbrev pub root_path : Path
root_path = record { origin = absolute; components = [] }

-- the path with one more component, whatever it holds
abbrev pub push : Path → Text → Path
push p name = record { origin = p.origin; components = p.components ++ name ∷ [] }

-- the path with more components after its own, in their order
abbrev pub extend : Path → List Text → Path
extend p names = record { origin = p.origin; components = p.components ++ names }

-- whether an origin is written `self` or `super`
abbrev pub origin_is_relative : Origin → Bool
origin_is_relative absolute = false
origin_is_relative (relative n) = true
origin_is_relative (from_package name) = false

-- whether a path begins with `self` or `super`, so that it is joined to another
abbrev pub is_relative : Path → Bool
is_relative p = origin_is_relative p.origin

-- An absolute path stays in the package of `from`; a package named there is one of its dependencies.
abbrev pub join_origin : Origin → Origin → Origin
join_origin (from_package a) absolute = from_package a
join_origin _ absolute = absolute
join_origin from (relative n) = from
join_origin (from_package a) (from_package b) = from_package (a ++ codes "/" ++ b)
join_origin _ (from_package b) = from_package b

-- how many of n components of `from` stay
abbrev pub kept_components : ℕ → Origin → ℕ
kept_components n (relative k) = n - k
kept_components n _ = 0

-- The path `to` as the module at `from` means it: a relative one drops so many of the last components of `from`,
-- all where there are fewer.
abbrev pub join : Path → Path → Path
join from to =
    record { origin = join_origin from.origin to.origin; components = take (kept_components (length from.components) to.origin) from.components ++ to.components }

-- whether two origins are one: both `package`, both relative by as many levels, or packages with the same name
abbrev pub same_origin : Origin → Origin → Bool
same_origin absolute absolute = true
same_origin (relative n) (relative k) = n == k
same_origin (from_package a) (from_package b) = bytes_eq a b
same_origin _ _ = false

-- whether the components of the second list come first in the first list; of an empty second list it holds
abbrev pub components_begin : List Text → List Text → Bool
components_begin xs [] = true
components_begin [] (y ∷ ys) = false
components_begin (x ∷ xs) (y ∷ ys) = bytes_eq x y && components_begin xs ys

-- the same origin, and the components of `start` come first
abbrev pub starts_with : Path → Path → Bool
starts_with p start = same_origin p.origin start.origin && components_begin p.components start.components
