-- What the identifiers of a module are by how they are read.
use Rattle.std.specs.Prelude.{◌≡◌, ℕ, ◌<◌, Bool, List, [], ◌∷◌, length, map}
use Rattle.std.specs.List.{All}
use Rattle.wesl_tree_names.specs.Path.{Text, Path, path_view}
use Rattle.wesl_tree_syntax.specs.Unit.{UnitView, name_in, spelled, trees_of}
use Rattle.wesl_scope_occurrences.specs.Occurrences.{Block, occurrences}
use Rattle.wesl_scope_occurrences.specs.Pieces.{starts}
use Rattle.wesl_scope_occurrences.specs.Ways.{AreNested, way}
use Rattle.wesl_scope_open.specs.Scopes.{Key, bound, free, qualified, keys}
use Rattle.wesl_scope_open.specs.Open.{is_declared_by}
use Rattle.wesl_scope_meanings.specs.Sensed.{Sense, number_in}
use Rattle.wesl_scope_meanings.specs.Senses.{sense_view, key_in, IsSenseBelow, manner_of, manner_in}
use Rattle.wesl_scope_meanings.specs.declared.senses.Senses.{Senses}

-- how they are read
abbrev pub senses_in : Senses → List Sense
senses_in m = map sense_view m.all.items

-- the paths of those that have one
abbrev pub paths_read : Senses → List Path
paths_read m = map (λ p. path_view p.now) m.paths.items

-- the name of the one that is read so
abbrev pub name_read : UnitView → Sense → Text
name_read u s = name_in u.names (number_in s)

-- the same key, where a block is told by what stands for its number
abbrev pub told_by : (ℕ → Block) → Key → Key
told_by w (bound [] n) = bound [] n
told_by w (bound (k ∷ outer) n) = bound (w k) n
told_by w (free n) = free n
told_by w (qualified p n) = qualified p n

-- whether the module declares the name of the identifier with this number
abbrev pub is_declared_in : UnitView → ℕ → Bool
is_declared_in u i = is_declared_by (occurrences (spelled u)) (name_in u.names i)

-- what the one means that is read so
abbrev pub meaning_read : UnitView → Senses → Sense → Key
meaning_read u m s = told_by (way m.outer.items) (key_in (is_declared_in u) u.names (paths_read m) s)

-- the identifiers of the module are read so, in document order
pub record AreRead (u : UnitView) (m : Senses) : Type 0 where
  -- each is what it is in the module, has its name, and means what it means there by plain scoping
  pub manners : map manner_in (senses_in m) ≡ map manner_of (occurrences (spelled u))
  pub names : map (name_read u) (senses_in m) ≡ map (λ o. o.name) (occurrences (spelled u))
  pub keys : map (meaning_read u m) (senses_in m) ≡ keys (occurrences (spelled u))
  -- where the identifiers of each declaration begin among them
  pub starts : m.starts.items ≡ starts (trees_of u)
  -- what their numbers and blocks are numbers of is there, and a block opens after the one round it
  pub named : All (λ s. number_in s < length u.names) (senses_in m)
  pub below : All (IsSenseBelow (length m.outer.items)) (senses_in m)
  pub nested : AreNested m.outer.items
