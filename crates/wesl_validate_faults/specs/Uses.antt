-- Each reference of a module that is not defined, with its place (WGSL, "Declaration and Scope").
use Rattle.std.specs.Prelude.{ℕ, Option, List, map}
use Rattle.std.specs.List.{filter}
use Rattle.wesl_tree_names.specs.Path.{Text}
use Rattle.wesl_tree_syntax.specs.Unit.{UnitView}
use Rattle.wesl_scope_strip.specs.Declarations.{all}
use Rattle.wesl_validate_builtins.specs.Builtins.{BuiltinNames}
use Rattle.wesl_validate_rules.specs.Faults.{name_round}
use Rattle.wesl_validate_rules.specs.Valid.{spelling, is_undefined}
use Rattle.wesl_validate_faults.specs.Findings.{Finding, undefined}

-- a reference that is not defined: how many identifiers of the module come before it, and what is found there
pub record Use : Type 0 where
  pub place : ℕ
  pub within : Option Text
  pub name : Text

-- that of a name at a place, in the declaration of a name, or in one without
abbrev pub use_at : ℕ → Option Text → Text → Use
use_at p d n = record { place = p; within = d; name = n }

-- what is found there
abbrev pub finding_at : Use → Finding
finding_at x = undefined x.within x.name

module _ (u : UnitView) (b : BuiltinNames) where
  -- the references that are not defined, in document order
  abbrev pub undefined_uses : List Use
  undefined_uses = map (λ o. use_at o.place (name_round u o.declaration) (spelling u o.name)) (filter (is_undefined u b) (all u))
