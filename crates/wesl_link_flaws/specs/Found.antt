-- What is found in a world that is given.
use Rattle.std.specs.Prelude.{Bool, List}
use Rattle.wesl_link_symbols.specs.declared.ids.PathId.{PathId}
use Rattle.wesl_tree_base.specs.declared.ids.NameId.{NameId}
use Rattle.wesl_link_symbols.specs.Tables.{Table}
use Rattle.wesl_link_reach.specs.World.{Task}
use Rattle.wesl_link_flaws.specs.declared.world.Findings.{Findings}
use Rattle.wesl_link_flaws.specs.Taking.{AreAll}

-- what is linked: the root at that path, the names of it that are kept, and whether all that is declared is held
abbrev pub task_from : {P N : Type 0} → P → List N → Bool → Task P N
task_from root kept is_eager = record { root = root; kept = kept; is_eager = is_eager }

-- the findings are all that is entered, reached and wrong in the world of these modules
abbrev pub AreFindings : List (Table PathId NameId) → Task PathId NameId → Findings → Type 0
AreFindings w task r = AreAll w task r.entered.items r.symbols.items r.told.items
