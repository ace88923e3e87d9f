-- When the words that variables say mean what they are to mean, by plain scoping.
use Rattle.std.specs.Prelude.{◌≡◌, ◌↔◌, ℕ, None, [], map}
use Rattle.std.specs.List.{All}
use Rattle.wesl_tree_names.specs.Path.{Text}
use Rattle.wesl_tree_syntax.specs.Unit.{UnitView, UnitOf, forest_of_unit, trees_of}
use Rattle.wesl_scope_occurrences.specs.Occurrences.{Occurrence}
use Rattle.wesl_scope_words.specs.Said.{said_of}
use Rattle.wesl_scope_words.specs.Captured.{read_as, spoken, word_clashes}

-- the word w, read as a name where v stands, means no declaration of the module
abbrev pub IsFreeAt : UnitView → Occurrence ℕ → Text → Type 0
IsFreeAt u v w = read_as u v w ≡ None

-- so do all words that variables say
abbrev pub AreWordsFree : UnitView → Type 0
AreWordsFree u = All (λ s. All (IsFreeAt u s.1) s.0) (spoken (trees_of u))

-- there are no clashes exactly where all words are free
abbrev pub NoneIsFree : Type 0
NoneIsFree = (u : UnitView) → (word_clashes u ≡ []) ↔ AreWordsFree u

-- the words that are told of a declared name are said of it, and they are told of each, and of nothing else
abbrev pub EachIsSpoken : Type 0
EachIsSpoken = (u : UnitOf ℕ) → map (λ s. (s.0, s.1.name)) (spoken u) ≡ said_of [] (forest_of_unit u)
