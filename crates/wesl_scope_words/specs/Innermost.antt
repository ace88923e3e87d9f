-- Which of the declarations in scope a word is read as.
use Rattle.std.specs.Prelude.{◌≡◌, ℕ, Bool, true, ◌&&◌, ◌||◌, bytes_eq, Some, List, [], ◌∷◌, map}
use Rattle.std.specs.List.{All, Contains, filter, flat_map, list_any}
use Rattle.wesl_tree_names.specs.Path.{Text}
use Rattle.wesl_tree_syntax.specs.Unit.{UnitView, trees_of, spelled}
use Rattle.wesl_scope_occurrences.specs.Occurrences.{Block, Occurrence, occurrences}
use Rattle.wesl_scope_open.specs.Scopes.{is_visible}
use Rattle.wesl_scope_words.specs.Captured.{WordClashOf, binder_at, read_as, spoken, word_clashes}
use Rattle.wesl_scope_words.specs.declared.clash.Binder.{Binder}

-- whether block b is block a or lies in it
abbrev pub is_within : Block → Block → Bool
is_within a [] = bytes_eq a []
is_within a (k ∷ outer) = bytes_eq a (k ∷ outer) || is_within a outer

-- whether o declares the name w and is in scope where v stands
abbrev pub is_in_scope : Occurrence ℕ → Text → Occurrence Text → Bool
is_in_scope v w o = bytes_eq o.name w && (is_visible v.place o.role && is_within o.block v.block)

-- b does, and of all that do, none stands in a block further in
pub record IsInnermost (all : List (Occurrence Text)) (v : Occurrence ℕ) (w : Text) (b : Occurrence Text) : Type 0 where
  pub there : Contains all b
  pub in_scope : is_in_scope v w b ≡ true
  pub innermost : All (λ o. is_in_scope v w o ≡ true → is_within o.block b.block ≡ true) all

-- a word is read as a declaration in scope that is spelled so, of the innermost block that holds one
abbrev pub EachIsInnermost : Type 0
EachIsInnermost = (u : UnitView) (v : Occurrence ℕ) (w : Text) (b : Occurrence Text) → read_as u v w ≡ Some b → IsInnermost (occurrences (spelled u)) v w b

-- whether the module has a declaration in scope where v stands that is spelled w
abbrev pub has_in_scope : UnitView → Occurrence ℕ → Text → Bool
has_in_scope u v w = list_any (is_in_scope v w) (occurrences (spelled u))

-- a variable and a word that it says, and those that are told:
abbrev pub said_by : Occurrence ℕ → Text → Binder × Text
said_by v w = (binder_at v.name v.place, w)

abbrev pub said_in : WordClashOf → Binder × Text
said_in c = (c.variable, c.word)

-- those words of the variables are told for which there is a declaration in scope that is spelled so, each once, in order
abbrev pub EachInScopeIsTold : Type 0
EachInScopeIsTold = (u : UnitView) → map said_in (word_clashes u) ≡ flat_map (λ s. map (said_by s.1) (filter (has_in_scope u s.1) s.0)) (spoken (trees_of u))
