-- Why something is held in a link, as it is told.
use Rattle.std.specs.Prelude.{◌≡◌, ◌⊎◌, ℕ, Bool, Option, Some, None, List, []}
use Rattle.wesl_link_symbols.specs.declared.ids.PathId.{PathId}
use Rattle.wesl_tree_base.specs.declared.ids.NameId.{NameId}
use Rattle.wesl_tree_names.specs.declared.errors.ResolveError.{ResolveError}
use Rattle.wesl_link_symbols.specs.Tables.{Table}
use Rattle.wesl_link_reach.specs.World.{Task}
use Rattle.wesl_link_reach.specs.Linking.{Linking, IsLinked}
use Rattle.wesl_link_reasons.specs.declared.found.Found.{Found}
use Rattle.wesl_link_reasons.specs.declared.node.Node.{Node}
use Rattle.wesl_link_reasons.specs.declared.node.Node.TheVariants.{Module, Item}
use Rattle.wesl_link_reasons.specs.Found.{AreReasons, Explains, Denies}
use Rattle.wesl_link_reasons.specs.Reasons.{task_from}
use Rattle.wesl_explain_world.specs.declared.world.World.{World}

-- what holds the declarations of a name: their symbol; and what holds a const_assert: its module
abbrev pub node_of : PathId → Option NameId → Node PathId NameId
node_of p None = Module p
node_of p (Some n) = Item (record { path = p; name = n })

-- the chain is a reason of it, in whatever link these are the reasons of; it is empty where it is not held
abbrev pub TellsWhy : List Found → Node PathId NameId → List (Node PathId NameId) → Type 0
TellsWhy fs x xs = Explains fs x xs ⊎ ((xs ≡ []) × Denies fs x)

-- A link of symbol tables: exactly the modules and symbols that are reached from the root are in it, and no fault stands.
-- Which tables they are is not said.
abbrev pub IsLink : Table PathId NameId → Task PathId NameId → Linking PathId NameId → Type 0
IsLink root task k = (limit : ℕ) × IsLinked {E = ResolveError} (λ p t. Unit {0}) (λ p e. Unit {0}) root task limit k

-- it is a link from the kept names of a root, or of all that is declared, and the reasons are those of this link
abbrev pub HasItsReasons : Bool → World → Type 0
HasItsReasons is_eager w =
    (root : Table PathId NameId)
    × IsLink root (task_from root.path w.kept.items is_eager) w.linked
    × AreReasons w.linked.tables (task_from root.path w.kept.items is_eager) w.reasons

-- the chain is a reason of it in whatever link these are the reasons of, where there are reasons
abbrev pub TellsWhyIn : Option (List Found) → Node PathId NameId → List (Node PathId NameId) → Type 0
TellsWhyIn None x xs = xs ≡ []
TellsWhyIn (Some fs) x xs = TellsWhy fs x xs
