-- How a search for reasons stands.
use Rattle.std.specs.Prelude.{◌≡◌, ◌⊎◌, ◌↔◌, ℕ, ◌<◌, slice_get, true, Option, Some, List, Contains}
use Rattle.wesl_link_symbols.specs.declared.ids.PathId.{PathId}
use Rattle.wesl_tree_base.specs.declared.ids.NameId.{NameId}
use Rattle.wesl_link_symbols.specs.declared.symbols.Answer.{Answer}
use Rattle.wesl_link_symbols.specs.declared.symbols.Answer.TheVariants.{Missing}
use Rattle.wesl_link_symbols.specs.declared.symbols.LookUp.{LookUp}
use Rattle.wesl_link_symbols.specs.declared.symbols.Symbol.{Symbol}
use Rattle.wesl_link_symbols.specs.Tables.{Table}
use Rattle.wesl_link_symbols.specs.Names.{Answers, AsksFrom}
use Rattle.wesl_link_reach.specs.World.{Task, IsAt, Finds, Hops, WalksTo}
use Rattle.wesl_link_reach.specs.Loading.{ArePlaced}
use Rattle.wesl_link_reasons.specs.declared.map.Map.{Map}
use Rattle.wesl_link_reasons.specs.declared.findings.Findings.{Findings}
use Rattle.wesl_link_reasons.specs.declared.search.Search.{Search}
use Rattle.wesl_link_reasons.specs.declared.found.Found.{Found}
use Rattle.wesl_link_reasons.specs.declared.node.Node.{Node}
use Rattle.wesl_link_reasons.specs.declared.node.Node.TheVariants.{Module, Item}
use Rattle.wesl_link_reasons.specs.Reasons.{LooksUp, TakesWith, IsFirst, IsHeld, IsUnbroken}
use Rattle.wesl_link_reasons.specs.Found.{IsFound, AreIndexed, AreOrdered, AreGiven, StaysFound}

-- ---- what is searched

-- the modules of the link that is searched
abbrev pub world_in : Map → List (Table PathId NameId)
world_in m = m.tables.now

-- what was linked: the root, the names of it that were kept, and whether all that is declared is held
abbrev pub task_in : Map → Task PathId NameId
task_in m = record { root = m.root; kept = m.kept.now; is_eager = m.is_eager }

-- its modules are placed, and no look-up is missing
pub record IsReady (m : Map) : Type 0 where
  pub placed : ArePlaced m.tables.now m.places.entries
  pub unbroken : IsUnbroken (world_in m) (task_in m)

module _ {P N : Type 0} where
  -- the declarations of that name in the module at the path ask for it
  abbrev pub AsksAt : List (Table P N) → P → Option N → LookUp P N → Type 0
  AsksAt w p name l = (t : Table P N) × IsAt w p t × AsksFrom t name l

  -- the module that is asked answers so; where there is none the name is missing
  abbrev pub IsAnswerAt : List (Table P N) → LookUp P N → Answer P N → Type 0
  IsAnswerAt w l a = ((t : Table P N) × IsAt w l.path t × Answers t l a) ⊎ ((a ≡ Missing) × ((t : Table P N) → IsAt w l.path t → ⊥))

-- ---- what was found

-- each node found is given by one before it, and held in the link
pub record IsSound (m : Map) (f : Findings) : Type 0 where
  pub indexed : AreIndexed f.nodes.items f.places.entries
  pub ordered : AreOrdered f.nodes.items
  pub given : AreGiven (world_in m) (task_in m) f.nodes.items
  pub held : (x : Node PathId NameId) → IsFound f.nodes.items x → IsHeld (world_in m) (task_in m) x

-- what was found stays, and what was gone through
pub record Grows (from to : Search) : Type 0 where
  pub found : StaysFound from.findings.nodes.items to.findings.nodes.items
  pub trail : (l : LookUp PathId NameId) → Contains from.trail l → Contains to.trail l

-- ---- the look-ups that were gone through

module _ (w : List (Table PathId NameId)) where
  -- a walk of a look-up of the node at the place comes to it
  abbrev pub IsOnWay : Task PathId NameId → List Found → ℕ → LookUp PathId NameId → Type 0
  IsOnWay task fs k l = (f : Found) × (slice_get fs k ≡ Some f) × ((start : LookUp PathId NameId) × LooksUp w task f.node start × WalksTo w start l)

  -- its module and what it finds there are found, and where it hops on was gone through too, or is gone through next
  pub record IsThrough (fs : List Found) (trail : List (LookUp PathId NameId)) (next : Option (LookUp PathId NameId)) (l : LookUp PathId NameId) : Type 0 where
    pub asked : IsFound fs (Module l.path)
    pub finds : (s : Symbol PathId NameId) → Finds w l s → IsFound fs (Item s)
    pub hops : (n : LookUp PathId NameId) → Hops w l n → Contains trail n ⊎ (next ≡ Some n)

  -- so it is for each look-up of the trail
  abbrev pub AreThrough : List Found → List (LookUp PathId NameId) → Option (LookUp PathId NameId) → Type 0
  AreThrough fs trail next = (l : LookUp PathId NameId) → Contains trail l → IsThrough fs trail next l

-- as the search stands: a walk of a look-up of the node at the place comes to it
abbrev pub ComesFrom : Map → Search → ℕ → LookUp PathId NameId → Type 0
ComesFrom m s k l = IsOnWay (world_in m) (task_in m) s.findings.nodes.items k l

-- as the search stands: so it is for each look-up that it went through
abbrev pub WentThrough : Map → Search → Option (LookUp PathId NameId) → Type 0
WentThrough m s next = AreThrough (world_in m) s.findings.nodes.items s.trail next

-- all that is taken with the module at the path was found
abbrev pub TakesAll : Map → List Found → PathId → Type 0
TakesAll m fs p = (b : Node PathId NameId) → TakesWith (world_in m) (task_in m) p b → IsFound fs b

-- where the node is a module and the link eager, all that is taken with the module was found
abbrev pub IsTaken : Map → List Found → Node PathId NameId → Type 0
IsTaken m fs x = m.is_eager ≡ true → (p : PathId) → x ≡ Module p → TakesAll m fs p

-- the look-ups are those of the node
abbrev pub AreLookUps : Map → Node PathId NameId → List (LookUp PathId NameId) → Type 0
AreLookUps m x ls = (l : LookUp PathId NameId) → Contains ls l ↔ LooksUp (world_in m) (task_in m) x l

-- its look-ups were gone through, and in an eager link all that is taken with it was found
pub record IsDone (m : Map) (s : Search) (x : Node PathId NameId) : Type 0 where
  pub look_ups : (l : LookUp PathId NameId) → LooksUp (world_in m) (task_in m) x l → Contains s.trail l
  pub taken : IsTaken m s.findings.nodes.items x

-- the node at the place is done
abbrev pub IsDoneAt : Map → Search → ℕ → Type 0
IsDoneAt m s k = (f : Found) → slice_get s.findings.nodes.items k ≡ Some f → IsDone m s f.node

-- the first n nodes are done
abbrev pub AreDone : Map → Search → ℕ → Type 0
AreDone m s n = (k : ℕ) → k < n → IsDoneAt m s k

-- what is there without being asked for was found
abbrev pub HasFirsts : Map → List Found → Type 0
HasFirsts m fs = (x : Node PathId NameId) → IsFirst (world_in m) (task_in m) x → IsFound fs x
