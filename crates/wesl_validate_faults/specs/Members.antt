-- Each declaration of a module that reaches itself, with its place (WGSL, "Declaration and Scope").
use Rattle.std.specs.Prelude.{◌≡◌, ℕ, ◌==◌, Option, Some, None, List, [], ◌∷◌, ◌++◌, map, if◌then◌else◌}
use Rattle.std.specs.List.{filter}
use Rattle.wesl_tree_names.specs.Path.{Text}
use Rattle.wesl_tree_syntax.specs.Unit.{UnitView}
use Rattle.wesl_scope_occurrences.specs.Occurrences.{is_module_name}
use Rattle.wesl_scope_strip.specs.Declarations.{all}
use Rattle.wesl_validate_rules.specs.Valid.{spelling}
use Rattle.wesl_validate_faults.specs.Findings.{Finding, cycle}
use Rattle.wesl_validate_faults.specs.Listed.{IsFirst, ClosesCycle}

-- a declaration that reaches itself, and the one that closes the ring: how many identifiers of the module come before the name
-- of each, and the names
pub record Member : Type 0 where
  pub place : ℕ
  pub name : Text
  pub last : ℕ
  pub via : Text

-- that of these names at these places
abbrev pub member_at : ℕ → Text → ℕ → Text → Member
member_at p n q v = record { place = p; name = n; last = q; via = v }

-- what is found there
abbrev pub finding_at : Member → Finding
finding_at m = cycle m.name m.via

module _ (u : UnitView) where
  -- the names of imports and declarations by their places and their numbers, in document order
  abbrev pub module_names : List (ℕ × ℕ)
  module_names = map (λ o. (o.place, o.name)) (filter (λ o. is_module_name o.role) (all u))

  -- one that reaches itself, if the first that leads back to it is there
  abbrev pub member_by : ℕ × ℕ → Option (ℕ × ℕ) → List Member
  member_by x None = []
  member_by x (Some last) = member_at x.0 (spelling u x.1) last.0 (spelling u last.1) ∷ []

  -- of these names each that reaches itself, with the first in document order that leads back to it
  abbrev pub AreMembersAmong : List (ℕ × ℕ) → List Member → Type 0
  AreMembersAmong [] ms = ms ≡ []
  AreMembersAmong (x ∷ others) ms =
      (last : Option (ℕ × ℕ)) × (rest : List Member) × IsFirst (λ y. ClosesCycle u x.1 y.1) module_names last × AreMembersAmong others rest × (ms ≡ member_by x last ++ rest)

  -- those of the whole module
  abbrev pub AreMembers : List Member → Type 0
  AreMembers ms = AreMembersAmong module_names ms
