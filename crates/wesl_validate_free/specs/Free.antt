-- The names that a module leaves free (WGSL, "Declaration and Scope").
use Rattle.std.specs.Prelude.{not, bytes_eq, List, [], ◌∷◌, map}
use Rattle.std.specs.List.{filter}
use Rattle.wesl_tree_names.specs.Path.{Text}
use Rattle.wesl_tree_syntax.specs.Unit.{UnitView}
use Rattle.wesl_scope_strip.specs.Declarations.{all}
use Rattle.wesl_validate_builtins.specs.Builtins.{BuiltinNames}
use Rattle.wesl_validate_rules.specs.Valid.{spelling, is_undefined}

-- texts, of those that are equal the first
abbrev pub each_once : List Text → List Text
each_once [] = []
each_once (n ∷ ns) = n ∷ filter (λ m. not (bytes_eq m n)) (each_once ns)

module _ (u : UnitView) (builtins : BuiltinNames) where
  -- the names of the references that are not defined, in document order
  abbrev pub undefined_names : List Text
  undefined_names = map (λ o. spelling u o.name) (filter (is_undefined u builtins) (all u))

  -- the same, each once
  abbrev pub free_names : List Text
  free_names = each_once undefined_names
