-- What plain scoping of its printed names reads in a linked unit (WGSL, "Declaration and Scope"; WESL, "Imports").
use Rattle.std.specs.Prelude.{◌≡◌, ◌≢◌, ℕ, true, List, [], ◌∷◌, map}
use Rattle.std.specs.List.{All}
use Rattle.wesl_tree_names.specs.Path.{Text}
use Rattle.wesl_tree_syntax.specs.Unit.{UnitView, name_in, trees_of, numbers}
use Rattle.wesl_scope_occurrences.specs.Occurrences.{Occurrence, occurrences, is_binder, is_unqualified}
use Rattle.wesl_scope_numbers.specs.Faithful.{is_global, name_of, binders_of}

-- the identifiers of a unit, each with its number `o.name`, which has a name in the table and stands for `means` of it
module _ {K : Type 0} (names : List Text) (all : List (Occurrence ℕ)) (means : ℕ → K) where
  -- all of these binders stand for d; where there are none, no binder of the unit does
  abbrev pub StandFor : K → List (Occurrence ℕ) → Type 0
  StandFor d [] = All (λ o. is_binder o.role ≡ true → means o.name ≢ d) all
  StandFor d (x ∷ xs) = All (λ o. means o.name ≡ d) (x ∷ xs)

  -- plain scoping of the names says what the numbers stand for, of binders of the module's block and references without a path
  pub record ReadsAsMeant : Type 0 where
    -- binders of the module's block that are spelled alike stand for one thing
    pub module_names_apart : All (λ a. is_global a ≡ true → All (λ b. is_global b ≡ true → name_of names all b ≡ name_of names all a → means b.name ≡ means a.name) all) all
    -- the binders that an unqualified reference picks by its name stand for what it stands for; where it picks none, no binder
    -- does
    pub references_read_so : All (λ r. is_unqualified r.role ≡ true → StandFor (means r.name) (binders_of names all (name_of names all r) r.place r.block)) all

-- The numbers of the unit stand for what its identifiers denote, under the names that these are printed as, and plain
-- scoping of these names gives each reference what it denotes.
pub record IsReadAsMeant {K : Type 0} (print : K → Text) (denotations : List K) (unit : UnitView) : Type 0 where
  pub means : ℕ → K
  pub denoted : map means (numbers unit) ≡ denotations
  pub printed : All (λ n. name_in unit.names n ≡ print (means n)) (numbers unit)
  pub read : ReadsAsMeant unit.names (occurrences (trees_of unit)) means
