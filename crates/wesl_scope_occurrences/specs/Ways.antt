-- Blocks by their numbers, and by their ways.
use Rattle.std.specs.Prelude.{ℕ, ◌<◌, List, [], ◌∷◌, ◌++◌, length, get_or}
use Rattle.wesl_scope_occurrences.specs.Occurrences.{Block, OccurrenceIn, Occurrence}

-- these ways of the first blocks, and after them those of the next ones, by the number of the block round each
abbrev pub grown : List Block → List ℕ → List Block
grown ws [] = ws
grown ws (b ∷ bs) = grown (ws ++ (length ws ∷ get_or ws b []) ∷ []) bs

-- The ways of all blocks, where `outer` has of each block the one round it, and the module's comes first.
abbrev pub ways : List ℕ → List Block
ways [] = []
ways (m ∷ bs) = grown ([] ∷ []) bs

-- the way of a block
abbrev pub way : List ℕ → ℕ → Block
way outer b = get_or (ways outer) b []

-- the same, where each block is told by its way
abbrev pub told : (ℕ → Block) → OccurrenceIn ℕ ℕ → Occurrence ℕ
told w o = record { role = o.role; name = o.name; place = o.place; block = w o.block; declaration = o.declaration; excused = o.excused }

-- each block but the module's opens after the one round it
abbrev pub AreNested : List ℕ → Type 0
AreNested outer = (b : ℕ) → 0 < b → b < length outer → get_or outer b 0 < b
