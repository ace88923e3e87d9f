-- Laws of what a link keeps, as functions of the crate say them.
use Rattle.std.specs.Prelude.{◌⊎◌, List, Option}
use Rattle.wesl_tree_names.specs.Path.{Text, Path}
use Rattle.wesl_link_symbols.specs.declared.symbols.Symbol.{Symbol}
use Rattle.wesl_link_symbols.specs.Tables.{Table}
use Rattle.wesl_link_reach.specs.World.{Task, Reached}
use Rattle.wesl_link_engine.specs.Keeping.{IsSoundLink}
use Rattle.wesl_link_engine.specs.declared.link.Link.{Link}

-- a symbol is reached, or it is not
abbrev pub ReachedIsDecided : Type 0
ReachedIsDecided = (w : List (Table Path Text)) (task : Task Path Text) (s : Symbol Path Text) → Reached w task s ⊎ (Reached w task s → ⊥)

-- that a link is sound can be had of the truncated fact, of which there is one proof at most
abbrev pub SoundIsHad : Type 0
SoundIsHad = (l : Option Link) → ∥ IsSoundLink l ∥₁ → IsSoundLink l
