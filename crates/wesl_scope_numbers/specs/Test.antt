-- A test that says whether a module is faithful.
use Rattle.std.specs.Prelude.{ℕ, Bool, true, not, ◌&&◌, ◌==◌, bytes_eq, List, [], ◌∷◌, if◌then◌else◌}
use Rattle.std.specs.List.{list_all, list_any}
use Rattle.wesl_tree_names.specs.Path.{Text}
use Rattle.wesl_tree_syntax.specs.Unit.{UnitView, name_in, trees_of}
use Rattle.wesl_scope_occurrences.specs.Occurrences.{OccurrenceIn, Occurrence, occurrences, is_binder, is_unqualified}
use Rattle.wesl_scope_numbers.specs.Faithful.{is_global, binders_of}

-- whether an identifier is a binder of the module's block that is spelled so
abbrev pub is_named : List Text → Text → Occurrence ℕ → Bool
is_named names n o = is_global o && bytes_eq (name_in names o.name) n

-- whether a binder of the module's block has the number of each that is spelled alike; all other identifiers pass
abbrev pub shares_number : List Text → List (Occurrence ℕ) → Occurrence ℕ → Bool
shares_number names all a = if is_global a then list_all (λ b. if is_named names (name_in names a.name) b then b.name == a.name else true) all else true

-- whether all binders of the module's block that are spelled alike have one number
abbrev pub are_apart : List Text → List (Occurrence ℕ) → Bool
are_apart names all = list_all (shares_number names all) all

-- whether an identifier is a binder with the number m
abbrev pub has_number : {B : Type 0} → ℕ → OccurrenceIn ℕ B → Bool
has_number m o = is_binder o.role && o.name == m

-- whether all of these binders have the number m; where there are none, whether no binder of the module has it
abbrev pub agree_on : List (Occurrence ℕ) → ℕ → List (Occurrence ℕ) → Bool
agree_on all m [] = not (list_any (has_number m) all)
agree_on all m (x ∷ xs) = list_all (λ o. o.name == m) (x ∷ xs)

-- whether the binders that a reference without a path picks by its name have its number; all other identifiers pass
abbrev pub reads_right : List Text → List (Occurrence ℕ) → Occurrence ℕ → Bool
reads_right names all r = if is_unqualified r.role then agree_on all r.name (binders_of names all (name_in names r.name) r.place r.block) else true

-- whether each identifier of a module passes
abbrev pub all_read_right : List Text → List (Occurrence ℕ) → Bool
all_read_right names all = list_all (reads_right names all) all

-- whether the names of a module, read by plain scoping, mean what its numbers say
abbrev pub is_faithful : UnitView → Bool
is_faithful u = are_apart u.names (occurrences (trees_of u)) && all_read_right u.names (occurrences (trees_of u))
