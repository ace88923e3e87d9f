-- Each use of a name that a module leaves free (WGSL, "Declaration and Scope").
use Rattle.std.specs.Prelude.{ℕ, List, map}
use Rattle.std.specs.List.{filter}
use Rattle.wesl_tree_names.specs.Path.{Text}
use Rattle.wesl_tree_syntax.specs.Unit.{UnitView}
use Rattle.wesl_scope_strip.specs.Declarations.{all}
use Rattle.wesl_validate_builtins.specs.Builtins.{BuiltinNames}
use Rattle.wesl_validate_rules.specs.Valid.{spelling, is_undefined}

-- a use of a name: how many identifiers of the module come before it, and the name
pub record Use : Type 0 where
  pub place : ℕ
  pub name : Text

-- that at a place of a name
abbrev pub use_at : ℕ → Text → Use
use_at p n = record { place = p; name = n }

module _ (u : UnitView) (builtins : BuiltinNames) where
  -- the references that are not defined, in document order, each with its place and its name
  abbrev pub free_uses : List Use
  free_uses = map (λ o. use_at o.place (spelling u o.name)) (filter (is_undefined u builtins) (all u))
