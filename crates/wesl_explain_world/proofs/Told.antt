-- What is told of one module or declaration more, and what of a whole bundle.
use Rattle.std.proofs.Common.{◌≡◌, ◌∙◌, ℕ, Bool, List, [], ◌∷◌, ◌++◌, Option, Some, None, All, Contains, Vec, inl, inr, sym, subst}
use Rattle.std.specs.declared.alloc.Global.{Global}
use Rattle.std.proofs.lemmas.List.Elements.{All-push, All-weaker}
use Rattle.wesl_link_symbols.specs.declared.ids.PathId.{PathId}
use Rattle.wesl_tree_base.specs.declared.ids.NameId.{NameId}
use Rattle.wesl_link_symbols.specs.Tables.{Table}
use Rattle.wesl_link_reach.specs.World.{IsAt, Task}
use Rattle.wesl_link_reach.specs.Laws.{IsClear}
use Rattle.wesl_link_reach.specs.Linking.{Linking}
use Rattle.wesl_link_reach.specs.Keeping.{IsHeld}
use Rattle.wesl_link_faults.specs.Opened.{IsOpened, Opened}
use Rattle.wesl_link_reasons.specs.Found.{AreReasons, Explains}
use Rattle.wesl_link_reasons.specs.Reasons as reasons
use Rattle.wesl_link_reasons.specs.Reasons.{task_from}
use Rattle.wesl_link_reasons.specs.declared.found.Found.{Found}
use Rattle.wesl_link_reasons.specs.declared.node.Node.{Node}
use Rattle.wesl_program_bundle.specs.Bundle.{Bundle}
use Rattle.wesl_program.specs.Line.{IsBundleOf}
use Rattle.wesl_explain_world.specs.Why.{HasItsReasons, IsLink, TellsWhy, node_of}
use Rattle.wesl_explain_world.specs.Explained.{IsHeldIn, IsHeldWhy, TellsAll, ExplainsLink, ExplainsHeld}
use Rattle.wesl_explain_world.specs.declared.explanation.Explanation.{Explanation}
use Rattle.wesl_explain_world.specs.declared.explanation.HeldDeclaration.{HeldDeclaration}
use Rattle.wesl_explain_world.specs.declared.world.World.{World}

-- what is told of a declaration of a module of the link that is held there
pub held_told : (w : World) (t : Table PathId NameId) (h : HeldDeclaration) (p : PathId) (n : Option NameId) → Contains w.linked.tables t → p ≡ t.path
    → (h.path ≡ p) × (h.name ≡ n) → IsHeld w.linked p n → IsHeldIn w h
held_told w t h p n there at is held =
    ((t, (there, sym (is.0 ∙ at))), subst (λ (q : PathId). IsHeld w.linked q h.name) (sym is.0) (subst (λ (m : Option NameId). IsHeld w.linked p m) (sym is.1) held))

-- one held declaration more
pub held_more : (w : World) (hs new : List HeldDeclaration) (h : HeldDeclaration) → new ≡ hs ++ h ∷ [] → All (IsHeldIn w) hs → IsHeldIn w h → All (IsHeldIn w) new
held_more w hs new h is all this = subst (All (IsHeldIn w)) (sym is) (All-push (IsHeldIn w) hs h all this)

-- a list of such declarations by another name
pub held_same : (w : World) (now was : Vec HeldDeclaration Global) → now ≡ was → All (IsHeldIn w) was.items → All (IsHeldIn w) now.items
held_same w now was is all = subst (λ (v : Vec HeldDeclaration Global). All (IsHeldIn w) v.items) (sym is) all

-- what is told of a link of the bundle that the bytes are
pub told_of_bytes : (bytes : List ℕ) (b : Bundle) → IsBundleOf bytes b → (e : Explanation) → ExplainsLink b.options.eager e → ExplainsHeld bytes e
told_of_bytes bytes b is e (inl refused) = inl refused
told_of_bytes bytes b is e (inr told) = inr (b, told.0, is, told.1, told.2)

-- ---- in a link with its reasons

-- what is held in a module of the link is held by its node
held_node : (root : Table PathId NameId) (task : Task PathId NameId) (k : Linking PathId NameId) → IsLink root task k
    → (p : PathId) (n : Option NameId) → ((t : Table PathId NameId) × IsAt k.tables p t) → IsHeld k p n → reasons.IsHeld k.tables task (node_of p n)
held_node root task k link p None there held = (link.1.paths p).0 there
held_node root task k link p (Some n) there held = (link.1.symbols (record { path = p; name = n })).0 held

-- the chain of what is held is a reason of it
explained : (fs : List Found) (x : Node PathId NameId) (xs : List (Node PathId NameId)) (ts : List (Table PathId NameId)) (task : Task PathId NameId)
    → AreReasons ts task fs → reasons.IsHeld ts task x → TellsWhy fs x xs → Explains fs x xs
explained fs x xs ts task are held (inl explains) = explains
explained fs x xs ts task are held (inr none) = absurd (none.1 ts task are held)

-- of a declaration that is told in a link with its reasons
held_why : (is_eager : Bool) (w : World) → HasItsReasons is_eager w → (h : HeldDeclaration) → IsHeldIn w h → IsHeldWhy w h
held_why is_eager w has h told =
    let task : Task PathId NameId = task_from has.0.path w.kept.items is_eager in
    (told.1, λ xs why. explained w.reasons (node_of h.path h.name) xs w.linked.tables task has.2 (held_node has.0 task w.linked has.1 h.path h.name told.0 told.1) why)

-- of all that is told in it
pub told_why : (is_eager : Bool) (w : World) → HasItsReasons is_eager w → (e : Explanation) → TellsAll w e → ExplainsLink is_eager e
told_why is_eager w has e told = inr (w, has, (told.0, All-weaker (IsHeldIn w) (IsHeldWhy w) (held_why is_eager w has) e.held.items told.1))

-- what is found of a link that goes on has one module a path
pub clear_opened : {P N E : Type 0} {hands : P → Table P N → Type 0} {refuses : P → E → Type 0} (root : Table P N) (task : Task P N) (limit : ℕ) (k : Opened P N E)
    → IsOpened hands refuses root task limit k → IsClear k.tables
clear_opened root task limit k is = record { one_table = is.world.one_table }
