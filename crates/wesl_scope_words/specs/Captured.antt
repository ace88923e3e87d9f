-- Words that declarations of a module capture (WGSL, "Declaration and Scope").
use Rattle.std.specs.Prelude.{ℕ, Option, List, get_or}
use Rattle.std.specs.List.{filter, filter_map, flat_map, zip}
use Rattle.std.specs.Option.{option_map}
use Rattle.wesl_tree_names.specs.Path.{Text}
use Rattle.wesl_tree_syntax.specs.Tree.{identifiers}
use Rattle.wesl_tree_syntax.specs.Unit.{UnitView, UnitOf, forest_of_unit, trees_of, spelled, name_in}
use Rattle.wesl_scope_occurrences.specs.Occurrences.{Occurrence, occurrences, is_binder}
use Rattle.wesl_scope_open.specs.Scopes.{binder_of}
use Rattle.wesl_scope_words.specs.Said.{sayings}
use Rattle.wesl_scope_words.specs.declared.clash.Binder.{Binder}
use Rattle.wesl_scope_words.specs.declared.clash.WordClash.{WordClash}

-- what a person is told of a word that is captured
pub record WordClashOf : Type 0 where
  -- the word, as the binder is spelled
  pub word : Text
  pub binder : Binder
  -- the name of the variable that says it
  pub name : Text
  pub variable : Binder

-- what a clash of the code tells
abbrev pub clash_view : WordClash → WordClashOf
clash_view c = record { word = c.word.now; binder = c.binder; name = c.name.now; variable = c.variable }

-- the names that a module declares, in document order
abbrev pub binders : UnitOf ℕ → List (Occurrence ℕ)
binders u = filter (λ o. is_binder o.role) (occurrences u)

-- each declared name with the words that are said of it
abbrev pub spoken : UnitOf ℕ → List (List Text × Occurrence ℕ)
spoken u = zip (sayings u) (binders u)

-- a binder by its number and its place
abbrev pub binder_at : ℕ → ℕ → Binder
binder_at number place = record { ident = record { 0 = number }; place = place }

-- the number of the identifier at a place of a module
abbrev pub number_in : UnitView → ℕ → ℕ
number_in u place = get_or (identifiers (forest_of_unit (trees_of u))) place 0

-- the declaration of the module that the word w, read as a name by plain scoping, means where v stands, if it means one
abbrev pub read_as : UnitView → Occurrence ℕ → Text → Option (Occurrence Text)
read_as u v w = binder_of (occurrences (spelled u)) w v.place v.block

-- what is told where v says w, which means b
abbrev pub told : UnitView → Occurrence ℕ → Text → Occurrence Text → WordClashOf
told u v w b = record { word = w; binder = binder_at (number_in u b.place) b.place; name = name_in u.names v.name; variable = binder_at v.name v.place }

-- the same of the words that are said of a name, if they mean declarations
abbrev pub captured : UnitView → List Text × Occurrence ℕ → List WordClashOf
captured u s = filter_map (λ w. option_map (told u s.1 w) (read_as u s.1 w)) s.0

-- each variable and each word that it says, in this order, with the declaration that the word is read as, if there is one
abbrev pub word_clashes : UnitView → List WordClashOf
word_clashes u = flat_map (captured u) (spoken (trees_of u))
