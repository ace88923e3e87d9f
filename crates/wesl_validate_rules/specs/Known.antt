-- Numbers whose name means something, by marks.
use Rattle.std.specs.Prelude.{◌≡◌, ◌<◌, ℕ, Bool, length, true, not, ◌&&◌, ◌||◌, ◌==◌, bytes_eq, Option, List}
use Rattle.std.specs.List.{Contains, list_any}
use Rattle.wesl_tree_names.specs.Path.{Text}
use Rattle.wesl_tree_syntax.specs.Unit.{UnitView, name_in}
use Rattle.wesl_scope_occurrences.specs.Occurrences.{OccurrenceIn, Occurrence, is_binder, is_unqualified}
use Rattle.wesl_scope_occurrences.specs.Identified.{identified}
use Rattle.wesl_scope_occurrences.specs.declared.whole.Identifiers.{Identifiers}
use Rattle.wesl_scope_strip.specs.Declarations.{all}
use Rattle.wesl_scope_strip.specs.Marks.{mark_at}
use Rattle.wesl_validate_builtins.specs.Builtins.{BuiltinNames, is_among}
use Rattle.wesl_validate_rules.specs.Valid.{is_undefined, underscore}

-- a name that is built in, or `_`
abbrev pub is_meant : BuiltinNames → Text → Bool
is_meant b n = is_among n b.names || bytes_eq n underscore

module _ {B : Type 0} where
  -- whether an identifier is a binder of the number m
  abbrev pub binds_here : ℕ → OccurrenceIn ℕ B → Bool
  binds_here m o = is_binder o.role && o.name == m

  -- whether a binder has the number m
  abbrev pub binds : List (OccurrenceIn ℕ B) → ℕ → Bool
  binds os m = list_any (binds_here m) os

  -- marked are exactly the numbers whose name means something: it is built in, or `_`, or a binder has the number
  abbrev pub AreKnown : BuiltinNames → List Text → List (OccurrenceIn ℕ B) → List Bool → Type 0
  AreKnown b names os known = (m : ℕ) → m < length names → mark_at known m ≡ is_meant b (name_in names m) || binds os m

  -- a reference without a path, in no argument of a custom attribute, to a number that is not marked
  abbrev pub is_unknown : List Bool → OccurrenceIn ℕ B → Bool
  is_unknown known o = is_unqualified o.role && (not o.excused && not (mark_at known o.name))

-- a reference of the number m in that declaration is not defined
pub record IsUndefinedAt (u : UnitView) (b : BuiltinNames) (m : ℕ) (declaration : Option ℕ) : Type 0 where
  pub found : Occurrence ℕ
  pub there : Contains (all u) found
  pub undefined : is_undefined u b found ≡ true
  pub named : found.name ≡ m
  pub lies : found.declaration ≡ declaration

-- a module of these names and identifiers
pub record IsNamedBy (u : UnitView) (names : List Text) (found : Identifiers) : Type 0 where
  pub same_names : names ≡ u.names
  pub same_identifiers : identified found ≡ all u
