-- What is told of a bundle, and of which link it is told.
use Rattle.std.specs.Prelude.{◌≡◌, ◌⊎◌, ℕ, ◌<◌, Bool, Some, List, [], All, Contains, vec_len}
use Rattle.wesl_link_symbols.specs.declared.ids.PathId.{PathId}
use Rattle.wesl_tree_base.specs.declared.ids.NameId.{NameId}
use Rattle.wesl_link_symbols.specs.Tables.{Table}
use Rattle.wesl_link_reach.specs.World.{IsAt}
use Rattle.wesl_link_reach.specs.Keeping.{IsHeld}
use Rattle.wesl_link_reasons.specs.Found.{Explains}
use Rattle.wesl_link_reasons.specs.declared.node.Node.{Node}
use Rattle.wesl_program_bundle.specs.Bundle.{Bundle}
use Rattle.wesl_program.specs.Line.{IsBundleOf}
use Rattle.wesl_explain_world.specs.Why.{HasItsReasons, TellsWhy, node_of}
use Rattle.wesl_explain_world.specs.declared.explanation.Explanation.{Explanation}
use Rattle.wesl_explain_world.specs.declared.explanation.HeldDeclaration.{HeldDeclaration}
use Rattle.wesl_explain_world.specs.declared.world.World.{World}

-- a declaration is held in the link
abbrev pub IsHeldIn : World → HeldDeclaration → Type 0
IsHeldIn w h = ((t : Table PathId NameId) × IsAt w.linked.tables h.path t) × IsHeld w.linked h.path h.name

-- a declaration is held in the link, and each chain that its reasons tell of it is a reason of it
abbrev pub IsHeldWhy : World → HeldDeclaration → Type 0
IsHeldWhy w h = IsHeld w.linked h.path h.name × ((xs : List (Node PathId NameId)) → TellsWhy w.reasons (node_of h.path h.name) xs → Explains w.reasons (node_of h.path h.name) xs)

-- the reasons are those of the link, and each declaration that is told is held in it
abbrev pub ExplainsWorld : World → Explanation → Type 0
ExplainsWorld w e = (e.reasons ≡ Some w.reasons) × All (IsHeldWhy w) e.held.items

-- no module and no declaration is told
abbrev pub TellsNothing : Explanation → Type 0
TellsNothing e = (e.modules.items ≡ []) × (e.held.items ≡ [])

-- a fault is told, and no module and no declaration
abbrev pub TellsFaults : Explanation → Type 0
TellsFaults e = (0 < vec_len e.faults) × TellsNothing e

-- a fault alone is told, or all that is told is told of one link, which holds all that is declared where it is eager
abbrev pub ExplainsLink : Bool → Explanation → Type 0
ExplainsLink is_eager e = TellsFaults e ⊎ ((w : World) × HasItsReasons is_eager w × ExplainsWorld w e)

-- The bytes are refused: a fault is told, and no module and no declaration of a link. Or they are a bundle, and of one link, which is
-- eager where the bundle says so, the reasons are told, and each declaration that is told is held in it.
abbrev pub ExplainsHeld : List ℕ → Explanation → Type 0
ExplainsHeld bytes e =
    TellsFaults e
    ⊎ ((b : Bundle) × (w : World) × IsBundleOf bytes b × HasItsReasons b.options.eager w × ExplainsWorld w e)

-- ---- on the way

-- of a module of the link such declarations are added
abbrev pub AddsHeld : World → Table PathId NameId → List HeldDeclaration → List HeldDeclaration → Type 0
AddsHeld w t old new = Contains w.linked.tables t → All (IsHeldIn w) old → All (IsHeldIn w) new

-- what is told of a world is held in it, with its reasons
abbrev pub TellsAll : World → Explanation → Type 0
TellsAll w e = (e.reasons ≡ Some w.reasons) × All (IsHeldIn w) e.held.items
