-- The global declarations by their numbers in the list: what each declares, and to what it refers.
use Rattle.std.specs.Prelude.{◌≡◌, ℕ, ◌<◌, length, Bool, false, ◌&&◌, ◌==◌, Option, Some, None, List, [], map}
use Rattle.std.specs.List.{Contains, filter}
use Rattle.wesl_tree_names.specs.Path.{Text}
use Rattle.wesl_tree_syntax.specs.Tree.{trees}
use Rattle.wesl_tree_syntax.specs.Unit.{UnitView, trees_of, name_in}
use Rattle.wesl_scope_occurrences.specs.Occurrences.{is_module_name, is_reference, Occurrence, occurrences}

-- whether the declaration in which an identifier lies, if it lies in one, is number j
abbrev pub lies_in : ℕ → Option ℕ → Bool
lies_in j None = false
lies_in j (Some i) = i == j

module _ (u : UnitView) where
  -- the identifiers of the module, in document order
  abbrev pub all : List (Occurrence ℕ)
  all = occurrences (trees_of u)

  -- the number that declaration j declares: one or, of a const_assert and a void, none
  abbrev pub declared_in : ℕ → List ℕ
  declared_in j = map (λ o. o.name) (filter (λ o. is_module_name o.role && lies_in j o.declaration) all)

  -- the numbers to which it refers, also by a path
  abbrev pub referred_in : ℕ → List ℕ
  referred_in j = map (λ o. o.name) (filter (λ o. is_reference o.role && lies_in j o.declaration) all)

  -- how many declarations there are
  abbrev pub count : ℕ
  count = length (trees u.declarations.children)

  -- The least set of declarations that holds those named in `keep` and those without a name, and with each all to
  -- which it refers.
  pub data IsKept (keep : List Text) : ℕ → Type 0 where
    named : (j m : ℕ) → j < count → Contains (declared_in j) m → Contains keep (name_in u.names m) → IsKept keep j
    nameless : (j : ℕ) → j < count → declared_in j ≡ [] → IsKept keep j
    reached : (i j m : ℕ) → j < count → IsKept keep i → Contains (referred_in i) m → Contains (declared_in j) m → IsKept keep j
