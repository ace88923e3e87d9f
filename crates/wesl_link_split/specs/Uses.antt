-- What the identifiers of a declaration are to a link (WGSL, "Declaration and Scope"; WESL, "Imports").
use Rattle.std.specs.Prelude.{ℕ, Bool, true, false, List, [], ◌∷◌, map, take, bytes_eq}
use Rattle.wesl_tree_names.specs.Path.{Text, Origin, from_package, Path, push, extend, join}
use Rattle.wesl_tree_names.specs.PathOrder.{same_path}
use Rattle.wesl_cond_choices.specs.declared.place.Place.{Place}
use Rattle.wesl_link_symbols.specs.declared.symbols.Reference.{Reference}
use Rattle.wesl_link_split.specs.Split.{Equality, Binder, Scope, has_two_targets, under, asked_plain, is_unclear_plain, seen_imports}

-- what an identifier of a global declaration is to a link
pub data Use (P I : Type 0) : Type 0 where
  -- the name that a global declaration binds
  declares : I → Use P I
  -- a name that no block of a function binds, and what it asks for: nothing where it is a word or no binder of it is seen
  refers : I → List (Reference P I) → Use P I
  -- such a name, and the name that stands for two things there: itself, or the package of its path
  unclear : I → I → Use P I
  -- a name of the block with this number: a parameter, a local declaration, or a reference to one
  local : ℕ → I → Use P I

module _ {P I : Type 0} where
  -- a name that asks for these, unless `x` stands for two things
  abbrev pub said : I → I → Bool → List (Reference P I) → Use P I
  said n x true rs = unclear n x
  said n x false rs = refers n rs

-- the tests of paths and of texts
abbrev pub texts : Equality Path Text
texts = record { path = same_path; name = bytes_eq }

-- the package that a path begins with, if it begins with one
abbrev pub package_name : Origin → Text
package_name (from_package x) = x
package_name _ = []

-- the module that stands for a path which begins with the name of an import
abbrev pub module_in_place : Path → Binder Path Text → Path
module_in_place p i = extend (push i.path i.item) p.components

-- these paths, and where there are none the one that is given
abbrev pub or_itself : List Path → Path → List Path
or_itself [] p = p ∷ []
or_itself (q ∷ qs) p = q ∷ qs

-- The module that a path aims at in the module at `own`: the item of the first import of the name that it begins with in
-- place of this name, since all its imports aim at one, and where there is none, the path joined to that of the module.
abbrev pub aims : Path → List (Binder Path Text) → Path → List Path
aims own imports p = or_itself (take 1 (map (module_in_place p) imports)) (join own p)

-- ---- what a name asks for that is used at `here`

module _ (s : Scope Path Text) (here : Place) where
  -- a name without a path: it is unclear where it stands for two things, and else asks for the one
  abbrev pub plain_use : Text → Use Path Text
  plain_use n = said n n (is_unclear_plain texts s n here) (asked_plain texts s n here)

  -- the imports of the name that a path begins with
  abbrev pub through : Origin → List (Binder Path Text)
  through (from_package x) = seen_imports texts s x here
  through _ = []

  -- A name under a path. It is unclear where the path begins with a name whose seen imports have two targets, and else is asked
  -- for in the module that the path aims at.
  abbrev pub path_use : Path → Text → Use Path Text
  path_use p n =
      said n (package_name p.origin) (has_two_targets texts (through p.origin)) (map (under texts s n here) (aims s.own (through p.origin) p))
