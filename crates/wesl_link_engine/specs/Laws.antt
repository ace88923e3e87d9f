-- Laws of links.
use Rattle.std.specs.Prelude.{◌≡◌, ℕ, true, List, [], Contains}
use Rattle.wesl_tree_names.specs.Path.{Text, Path}
use Rattle.wesl_tree_syntax.specs.Unit.{UnitOf}
use Rattle.wesl_link_symbols.specs.Names.{Declares}
use Rattle.wesl_link_reach.specs.World.{Task, Reached}
use Rattle.wesl_link_reach.specs.Faults.{Fault}
use Rattle.wesl_link_engine.specs.Worlds.{Module, table, tables, task_of, IsLinked, IsRefused}

-- success and refusal exclude each other, where one unit a path is handed out and a path is not refused too
abbrev pub AreExclusive : {E : Type 0} → (Path → UnitOf Text → Type 0) → (Path → E → Type 0) → Type 0
AreExclusive {E} hands refuses =
    (root : Module) (task : Task Path Text) (limit taken : ℕ) (w : List Module) (fault : Fault Path Text E)
    → ((p : Path) (u v : UnitOf Text) → hands p u → hands p v → u ≡ v)
    → ((p : Path) (u : UnitOf Text) (e : E) → hands p u → refuses p e → ⊥)
    → IsLinked hands refuses root task limit taken w
    → IsRefused hands refuses root task limit fault → ⊥

-- in an eager link each symbol that a module declares is reached
abbrev pub ReachesAllDeclared : {E : Type 0} → (Path → UnitOf Text → Type 0) → (Path → E → Type 0) → Type 0
ReachesAllDeclared hands refuses =
    (root : Module) (limit taken : ℕ) (w : List Module) (m : Module) (n : Text)
    → IsLinked hands refuses root (task_of root [] true) limit taken w
    → Contains w m → Declares (table m) n
    → Reached (tables w) (task_of root [] true) (record { path = m.path; name = n })
