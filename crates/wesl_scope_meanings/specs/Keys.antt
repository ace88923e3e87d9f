-- What the values of the code that tell what identifiers mean stand for.
use Rattle.std.specs.Prelude.{ℕ, ◌<◌, Bool, false, nat_le, Option, Some, None, List, [], ◌∷◌}
use Rattle.wesl_tree_names.specs.Path.{Text, path_view}
use Rattle.wesl_tree_syntax.specs.Unit.{name_in}
use Rattle.wesl_scope_occurrences.specs.Occurrences.{Block, OccurrenceIn}
use Rattle.wesl_scope_occurrences.specs.Laws.{renamed}
pub use Rattle.wesl_scope_open.specs.Open.{number_of}
use Rattle.wesl_scope_meanings.specs.Scopes as scopes
use Rattle.wesl_scope_meanings.specs.declared.keys.Key.{Key}
use Rattle.wesl_scope_meanings.specs.declared.keys.Key.TheVariants as made

-- what a key says, where the block of a number is `w`
abbrev pub key_view : (ℕ → Block) → Key → scopes.Key
key_view w (made.Bound b n) = scopes.bound (w b) n.now
key_view w (made.Free n) = scopes.free n.now
key_view w (made.Qualified p n) = scopes.qualified (path_view p.now) n.now

-- the same, where the number of a block stands for it
abbrev pub flat : Key → scopes.Key
flat = key_view (λ b. b ∷ [])

-- its block, if it has one, is among the first n
abbrev pub IsKeyBelow : ℕ → Key → Type 0
IsKeyBelow n (made.Bound b m) = b < n
IsKeyBelow n _ = Unit {0}

-- the name in a key
abbrev pub key_name : scopes.Key → Text
key_name (scopes.bound b n) = n
key_name (scopes.free n) = n
key_name (scopes.qualified p n) = n

-- an identifier of the code by its name
abbrev pub named : {B : Type 0} → List Text → OccurrenceIn ℕ B → OccurrenceIn Text B
named names = renamed (name_in names)

-- whether what is visible from that place on is so at place p
abbrev pub opened : Option ℕ → ℕ → Bool
opened None p = false
opened (Some e) p = nat_le e p
