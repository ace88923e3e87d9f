-- What a walk adds to what it has noted. Nothing is said of it once memory was wanting, which stays noted.
use Rattle.std.specs.Prelude.{◌≡◌, false, List, [], ◌∷◌, ◌++◌, map}
use Rattle.wesl_tree_names.specs.Path.{Text}
use Rattle.wesl_tree_syntax.specs.Tree.{Forest}
use Rattle.wesl_scope_words.specs.Said.{memory_words, said}
use Rattle.wesl_scope_words.specs.declared.sayings.Sayings.{Sayings}

-- of each name that was met the words that are said of it
abbrev pub noted : Sayings → List (List Text)
noted s = map memory_words s.said.items

-- one name more, of which these words are said
pub record Notes (old : Sayings) (ws : List Text) (new : Sayings) : Type 0 where
  pub added : new.is_refused ≡ false → (old.is_refused ≡ false) × (noted new ≡ noted old ++ ws ∷ [])

-- those that are declared in trees side by side
pub record Adds (old : Sayings) (f : Forest) (new : Sayings) : Type 0 where
  pub added : new.is_refused ≡ false → (old.is_refused ≡ false) × (noted new ≡ noted old ++ said [] f)
