-- When plain scoping of the names of a module reads each reference as its number says (WGSL, "Declaration and Scope").
use Rattle.std.specs.Prelude.{◌≡◌, ◌≢◌, ℕ, Bool, true, ◌&&◌, bytes_eq, List, [], ◌∷◌}
use Rattle.std.specs.List.{All, filter}
use Rattle.wesl_tree_names.specs.Path.{Text}
use Rattle.wesl_tree_syntax.specs.Unit.{UnitView, name_in, trees_of}
use Rattle.wesl_scope_occurrences.specs.Occurrences.{Block, is_binder, is_unqualified, Occurrence, occurrences}
use Rattle.wesl_scope_meanings.specs.Scopes.{binds}
use Rattle.wesl_scope_meanings.specs.Keys.{named}

-- whether an identifier declares a name of the module's block
abbrev pub is_global : {I : Type 0} → Occurrence I → Bool
is_global o = is_binder o.role && bytes_eq o.block []

-- the first list, or where that is empty the second
abbrev pub first_filled : {X : Type 0} → List X → List X → List X
first_filled [] ys = ys
first_filled (x ∷ xs) ys = x ∷ xs

-- the identifiers of a module, each with its number `o.name`, which has a name in the table
module _ (names : List Text) (all : List (Occurrence ℕ)) where
  -- the name of an identifier
  abbrev pub name_of : Occurrence ℕ → Text
  name_of o = name_in names o.name

  -- the binders of the name n in block b that are visible at place p
  abbrev pub binders_in : Text → ℕ → Block → List (Occurrence ℕ)
  binders_in n p b = filter (λ o. binds b n p (named names o)) all

  -- The binders that the name n picks at place p of a block: all visible ones of the first block, from that one
  -- outwards, which holds one.
  abbrev pub binders_of : Text → ℕ → Block → List (Occurrence ℕ)
  binders_of n p [] = binders_in n p []
  binders_of n p (k ∷ outer) = first_filled (binders_in n p (k ∷ outer)) (binders_of n p outer)

  -- all of these binders have the number m; where there are none, no binder of the module has it
  abbrev pub AgreeOn : ℕ → List (Occurrence ℕ) → Type 0
  AgreeOn m [] = All (λ o. is_binder o.role ≡ true → o.name ≢ m) all
  AgreeOn m (x ∷ xs) = All (λ o. o.name ≡ m) (x ∷ xs)

  -- plain scoping of the names says what the numbers say, of binders of the module's block and of references without a path
  pub record ReadRight : Type 0 where
    -- binders of the module's block that are spelled alike have one number
    pub module_names_apart : All (λ a. is_global a ≡ true → All (λ b. is_global b ≡ true → name_of b ≡ name_of a → b.name ≡ a.name) all) all
    -- the binders that an unqualified reference picks by its name have its number; where it picks none, no binder has it
    pub references_read_right : All (λ r. is_unqualified r.role ≡ true → AgreeOn r.name (binders_of (name_of r) r.place r.block)) all

-- its names, read by plain scoping, mean what its numbers say
abbrev pub IsFaithful : UnitView → Type 0
IsFaithful u = ReadRight u.names (occurrences (trees_of u))
