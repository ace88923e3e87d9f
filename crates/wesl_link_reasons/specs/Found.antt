-- What a search found, in the order in which it was found.
use Rattle.std.specs.Prelude.{◌≡◌, ◌⊎◌, ℕ, ◌<◌, ◌≤◌, length, reverse, slice_get, Option, Some, None, List, Contains}
use Rattle.wesl_link_symbols.specs.declared.ids.PathId.{PathId}
use Rattle.wesl_tree_base.specs.declared.ids.NameId.{NameId}
use Rattle.wesl_link_symbols.specs.declared.symbols.Import.{Import}
use Rattle.wesl_link_symbols.specs.Tables.{Declaration, Table}
use Rattle.wesl_link_reach.specs.World.{Task}
use Rattle.wesl_link_reasons.specs.declared.found.Found.{Found}
use Rattle.wesl_link_reasons.specs.declared.node.Node.{Node}
use Rattle.wesl_link_reasons.specs.declared.node.Node.TheVariants.{KeptName, Module, Item}
use Rattle.wesl_link_reasons.specs.Reasons.{AsksFor, IsFirst, IsHeld, IsReason}

-- the node was found, at that place
abbrev pub IsFoundAt : List Found → Node PathId NameId → ℕ → Type 0
IsFoundAt fs x k = (f : Found) × (slice_get fs k ≡ Some f) × (f.node ≡ x)

-- the node was found
abbrev pub IsFound : List Found → Node PathId NameId → Type 0
IsFound fs x = (k : ℕ) × IsFoundAt fs x k

-- no node was found twice
abbrev pub StandOnce : List Found → Type 0
StandOnce fs = (k j : ℕ) (f g : Found) → slice_get fs k ≡ Some f → slice_get fs j ≡ Some g → f.node ≡ g.node → k ≡ j

-- the places tell where each node that was found stands, and none was found twice
pub record AreIndexed (fs : List Found) (places : List (Node PathId NameId × ℕ)) : Type 0 where
  pub found : (x : Node PathId NameId) (k : ℕ) → Contains places (x, k) → IsFoundAt fs x k
  pub indexed : (x : Node PathId NameId) → IsFound fs x → (k : ℕ) × Contains places (x, k)
  pub once : StandOnce fs

-- who asks stands before what is asked for
abbrev pub AreOrdered : List Found → Type 0
AreOrdered fs = (k j : ℕ) (f : Found) → slice_get fs k ≡ Some f → f.asker ≡ Some j → j < k

-- the places tell where each node that was found stands, and who asks stands before what is asked for
pub record AreSorted (fs : List Found) (places : List (Node PathId NameId × ℕ)) : Type 0 where
  pub indexed : AreIndexed fs places
  pub ordered : AreOrdered fs

-- what was found stays at its place
pub record StaysFound (from to : List Found) : Type 0 where
  pub at : (k : ℕ) (f : Found) → slice_get from k ≡ Some f → slice_get to k ≡ Some f

-- what was found stays, all that was added at the end is that asker's and Q holds of it, and all that Q holds of is found
pub record AddsFound (from to : List Found) (asker : Option ℕ) (Q : Node PathId NameId → Type 0) : Type 0 where
  pub kept : StaysFound from to
  pub only : (k : ℕ) (f : Found) → slice_get to k ≡ Some f → (slice_get from k ≡ Some f) ⊎ ((length from ≤ k) × (f.asker ≡ asker) × Q f.node)
  pub all : (x : Node PathId NameId) → Q x → IsFound to x

-- one of the names, as it is kept
abbrev pub IsKeptIn : List NameId → Node PathId NameId → Type 0
IsKeptIn ns x = (n : NameId) × Contains ns n × (x ≡ KeptName n)

-- the module of one of the imports
abbrev pub IsImported : List (Import PathId NameId) → Node PathId NameId → Type 0
IsImported is x = (i : Import PathId NameId) × Contains is i × (x ≡ Module i.path)

-- the symbol of the name in the module at the path; where there is no name, no node is
abbrev pub IsNamed : PathId → Option NameId → Node PathId NameId → Type 0
IsNamed p name x = (n : NameId) × (name ≡ Some n) × (x ≡ Item (record { path = p; name = n }))

-- the symbol of one of these declarations of the module at the path; a const_assert has none
abbrev pub IsDeclared : PathId → List (Declaration PathId NameId) → Node PathId NameId → Type 0
IsDeclared p ds x = (d : Declaration PathId NameId) × Contains ds d × IsNamed p d.name x

module _ (w : List (Table PathId NameId)) (task : Task PathId NameId) where
  -- it is there without being asked for, or the node at the asker's place asks for it
  abbrev pub IsGiven : List Found → Node PathId NameId → Option ℕ → Type 0
  IsGiven fs x None = IsFirst w task x
  IsGiven fs x (Some j) = (g : Found) × (slice_get fs j ≡ Some g) × AsksFor w task g.node x

  -- so it is for each node that was found
  abbrev pub AreGiven : List Found → Type 0
  AreGiven fs = (k : ℕ) (f : Found) → slice_get fs k ≡ Some f → IsGiven fs f.node f.asker

-- reasons: each node that was found is given, and all that is held was found
pub record AreReasons (w : List (Table PathId NameId)) (task : Task PathId NameId) (fs : List Found) : Type 0 where
  pub given : AreGiven w task fs
  pub held : (x : Node PathId NameId) → IsHeld w task x → IsFound fs x

-- whatever link these are the reasons of, the chain is a reason of the node in it
abbrev pub Explains : List Found → Node PathId NameId → List (Node PathId NameId) → Type 0
Explains fs x xs = (w : List (Table PathId NameId)) (task : Task PathId NameId) → AreReasons w task fs → IsReason w task x xs

-- whatever link these are the reasons of, the node is not held in it
abbrev pub Denies : List Found → Node PathId NameId → Type 0
Denies fs x = (w : List (Table PathId NameId)) (task : Task PathId NameId) → AreReasons w task fs → IsHeld w task x → ⊥

-- the chain leads back from the node at the place: from its end on it is a reason of that node
abbrev pub LeadsBack : List Found → ℕ → List (Node PathId NameId) → Type 0
LeadsBack fs k xs = (f : Found) → slice_get fs k ≡ Some f → Explains fs f.node (reverse xs)
