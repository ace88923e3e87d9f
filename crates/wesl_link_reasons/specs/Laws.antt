-- Laws of reasons.
use Rattle.std.specs.Prelude.{◌↔◌, ℕ, List}
use Rattle.wesl_link_symbols.specs.declared.symbols.Symbol.{Symbol}
use Rattle.wesl_link_symbols.specs.Tables.{Table}
use Rattle.wesl_link_reach.specs.World.{Task, Entered, Reached}
use Rattle.wesl_link_reach.specs.Linking.{Linking, IsLinked}
use Rattle.wesl_link_reasons.specs.declared.node.Node.TheVariants.{Module, Item}
use Rattle.wesl_link_reasons.specs.Reasons.{HasReason, IsUnbroken}

-- a symbol is reached exactly where there is a reason for it, and a path is entered exactly where there is one for its module
pub record HaveReasons (P N : Type 0) : Type 0 where
  pub symbols : (w : List (Table P N)) (task : Task P N) (s : Symbol P N) → Reached w task s ↔ HasReason w task (Item s)
  pub modules : (w : List (Table P N)) (task : Task P N) (p : P) → Entered w task p ↔ HasReason w task (Module p)

-- a link that succeeded has one module a path, and no look-up of it is missing
abbrev pub LinksAreUnbroken : {P N E : Type 0} → (P → Table P N → Type 0) → (P → E → Type 0) → Type 0
LinksAreUnbroken {P} {N} hands refuses =
    (root : Table P N) (task : Task P N) (limit : ℕ) (k : Linking P N) → IsLinked hands refuses root task limit k → IsUnbroken k.tables task
