-- Where a fault stands, as far as it is told.
use Rattle.std.specs.Prelude.{◌≡◌, ◌⊎◌, ◌||◌, ℕ, List, [], ◌∷◌, Bool, true, false, Option, None, codes}
use Rattle.std.specs.List.{list_any}
use Rattle.std.specs.Str.{bytes_eq}
use Rattle.wesl_tree_names.specs.Path.{Text}
use Rattle.wesl_program.specs.Fault.{Fault}

-- the path of the module that holds the fault, and the place in its source: the first byte, and the byte after the last one
pub record Where : Type 0 where
  pub home : Option Text
  pub span : Option (ℕ × ℕ)

-- no place: neither a module nor a span is told
abbrev pub nowhere : Where
nowhere = record { home = None; span = None }

-- whether the name of the fault is one of these
abbrev pub is_named : List Text → Fault → Bool
is_named names f = list_any (λ name. bytes_eq name f.named) names

-- whether a place in a source may be told of the fault: it is one of a condition
abbrev pub has_span : Fault → Bool
has_span f = is_named (codes "InvalidFeatureFlag" ∷ codes "UnexpectedFeatureFlag" ∷ codes "InvalidExpression" ∷ codes "NoPrecedingIf" ∷ codes "DuplicateIf" ∷ []) f

-- whether a module may be told of the fault: it is one of a condition, of a value that is no tree, or of a name that has two
-- targets, lacks or is not published
abbrev pub has_home : Fault → Bool
has_home f = has_span f || is_named (codes "BadTree" ∷ codes "DuplicateSymbol" ∷ codes "MissingDecl" ∷ codes "Private" ∷ []) f

-- a module is told only of a fault that may have one, and a place in its source only of a fault that may have that
abbrev pub IsPlaceOf : Fault → Where → Type 0
IsPlaceOf f p = (has_home f ≡ false → p.home ≡ None) × (has_span f ≡ false → p.span ≡ None)

-- no place is told, or places are told and this one may be told of the fault
abbrev pub MayStand : Bool → Fault → Where → Type 0
MayStand is_placed f p = (p ≡ nowhere) ⊎ ((is_placed ≡ true) × IsPlaceOf f p)
