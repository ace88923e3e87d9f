-- Modules whose numbers are canonical exactly where their names read right.
use Rattle.std.specs.Prelude.{◌≡◌, ◌≢◌, ◌↔◌, ℕ, ◌<◌, true, false, Some, List, length}
use Rattle.std.specs.List.{All}
use Rattle.wesl_tree_names.specs.Path.{Text}
use Rattle.wesl_tree_syntax.specs.Unit.{UnitView, trees_of, numbers}
use Rattle.wesl_tree_syntax.specs.Numbers.{number_at}
use Rattle.wesl_scope_occurrences.specs.Occurrences.{Standing, reference, Occurrence, occurrences, is_binder, is_unqualified}
use Rattle.wesl_scope_meanings.specs.Scopes.{Key, free, qualified}
use Rattle.wesl_scope_numbers.specs.Faithful.{is_global, name_of}

-- what an identifier means that no binder has the number of
abbrev pub unbound_as : Text → Standing → Key
unbound_as n (reference (Some path)) = qualified path n
unbound_as n _ = free n

module _ (names : List Text) (all : List (Occurrence ℕ)) where
  -- no binder has its number
  abbrev pub IsUnbound : Occurrence ℕ → Type 0
  IsUnbound o = All (λ b. is_binder b.role ≡ true → b.name ≢ o.name) all

  -- The numbers follow meanings, but that names of the module may be spelled alike, and references may be read otherwise.
  pub record FollowMeanings : Type 0 where
    -- binders of one number stand in one block
    pub one_block : All (λ a. is_binder a.role ≡ true → All (λ b. is_binder b.role ≡ true → a.name ≡ b.name → a.block ≡ b.block) all) all
    -- binders of one block of a function that are spelled alike have one number
    pub one_number :
        All (λ a. is_binder a.role ≡ true → is_global a ≡ false → All (λ b. is_binder b.role ≡ true → a.block ≡ b.block → name_of names all a ≡ name_of names all b → a.name ≡ b.name) all) all
    -- no binder has the number of a word or of a reference with a path
    pub words_unbound : All (λ o. is_binder o.role ≡ false → is_unqualified o.role ≡ false → IsUnbound o) all
    -- identifiers whose numbers no binder has have one number exactly where they mean one thing
    pub unbound_apart : All (λ a. IsUnbound a → All (λ b. IsUnbound b → (a.name ≡ b.name) ↔ (unbound_as (name_of names all a) a.role ≡ unbound_as (name_of names all b) b.role)) all) all

-- numbers run 0, 1, 2, .. by first occurrence
abbrev pub RunByFirst : List ℕ → Type 0
RunByFirst ns = (i m : ℕ) → i < length ns → m < number_at ns i → (j : ℕ) × (j < i) × (number_at ns j ≡ m)

-- the numbers of the module follow meanings, and run 0, 1, 2, .. by first occurrence
abbrev pub IsNumberedByMeaning : UnitView → Type 0
IsNumberedByMeaning u = FollowMeanings u.names (occurrences (trees_of u)) × RunByFirst (numbers u)
