-- Units in which no name of a function and no free name is spelled as a name of the module (WGSL, "Declaration and Scope").
use Rattle.std.specs.Prelude.{◌≡◌, ◌≢◌, ℕ, true, false, List}
use Rattle.std.specs.List.{All}
use Rattle.wesl_tree_names.specs.Path.{Text}
use Rattle.wesl_tree_syntax.specs.Unit.{UnitView, trees_of}
use Rattle.wesl_scope_occurrences.specs.Occurrences.{Occurrence, occurrences, is_binder, is_unqualified}
use Rattle.wesl_scope_numbers.specs.Faithful.{is_global, name_of}
use Rattle.wesl_scope_numbers.specs.Retargeted.{IsUnbound}

module _ (names : List Text) (all : List (Occurrence ℕ)) where
  -- parameters, local declarations and references whose number no binder has are so
  pub record OfLocalsAndFree (P : Occurrence ℕ → Type 0) : Type 0 where
    pub locals : All (λ o. is_binder o.role ≡ true → is_global o ≡ false → P o) all
    pub free_names : All (λ r. is_unqualified r.role ≡ true → IsUnbound names all r → P r) all

  -- the identifier is spelled as no binder of the module's block
  abbrev pub SpellsNoGlobal : Occurrence ℕ → Type 0
  SpellsNoGlobal o = All (λ b. is_global b ≡ true → name_of names all o ≢ name_of names all b) all

  -- no name of a function and no free name is spelled as a name of the module, and names of it that are spelled alike are one
  pub record SpellsNone : Type 0 where
    -- binders of the module's block that are spelled alike have one number
    pub globals_apart : All (λ a. is_global a ≡ true → All (λ b. is_global b ≡ true → name_of names all b ≡ name_of names all a → b.name ≡ a.name) all) all
    -- no parameter, no local declaration and no free reference is spelled as one of them
    pub others_apart : OfLocalsAndFree SpellsNoGlobal

-- its names are apart
abbrev pub NamesAreApart : UnitView → Type 0
NamesAreApart u = SpellsNone u.names (occurrences (trees_of u))
