-- What one walk over a tree finds: blocks by their numbers, each with the block round it.
use Rattle.std.specs.Prelude.{ℕ, zero, suc, false, None, List, [], ◌∷◌, ◌++◌, length}
use Rattle.wesl_tree_syntax.specs.Tree.{Label, Forest, Tree, end, tree, ident, binder, before}
use Rattle.wesl_scope_occurrences.specs.Occurrences.{Standing, local, OccurrenceIn, Surroundings, Blocks, Node, Declares, a_value, globally, a_parameter, node_of, plain, here_in, after_field, occurrence, opened_by}

-- an identifier by its number, where a block is told by its number
abbrev pub Found : Type 0
Found = OccurrenceIn ℕ ℕ

-- what its surroundings say of a node, where a block is told by its number
abbrev pub Here : Type 0
Here = Surroundings ℕ

-- what is found so far, and of each block the one round it, where the module's is block 0
pub record State : Type 0 where
  pub found : List Found
  pub outer : List ℕ

-- where a module begins: in its block, and in no declaration
abbrev pub outermost : Here
outermost = record { block = 0; held_block = 0; is_local = false; declaration = None; words = false; excused = false }

-- before the walk no identifier is found, and the module's block has itself for the one round it
abbrev pub start : State
start = record { found = []; outer = 0 ∷ [] }

-- a node, and the places of the names that it has declared so far
pub record Fields : Type 0 where
  pub node : Node ℕ
  pub named : List ℕ

-- a node of which nothing is to be said but where it stands, before its first field
abbrev pub all_of : Here → Fields
all_of here = record { node = plain here; named = [] }

-- the numbers of the blocks of a node, where q blocks open before
abbrev pub numbers_at : ℕ → Blocks ℕ
numbers_at q = record { own = q; below_own = suc q; whole = 0 }

-- a node opens its blocks
abbrev pub opening : ℕ → ℕ → State → State
opening zero b s = s
opening (suc zero) b s = record s { outer = s.outer ++ b ∷ [] }
opening (suc (suc n)) b s = record s { outer = (s.outer ++ b ∷ []) ++ length s.outer ∷ [] }

-- a declaration has ended
abbrev pub ended_as : ℕ → Standing → Standing
ended_as e (local _) = local e
ended_as e r = r

module _ {B : Type 0} where
  -- at place p, if a local name stands there, its declaration has ended at place e
  abbrev pub ended_at : ℕ → ℕ → List (OccurrenceIn ℕ B) → List (OccurrenceIn ℕ B)
  ended_at e p [] = []
  ended_at e zero (o ∷ os) = record o { role = ended_as e o.role } ∷ os
  ended_at e (suc p) (o ∷ os) = o ∷ ended_at e p os

  -- the same of the names at all these places
  abbrev pub all_ended : ℕ → List ℕ → List (OccurrenceIn ℕ B) → List (OccurrenceIn ℕ B)
  all_ended e [] os = os
  all_ended e (p ∷ ps) os = all_ended e ps (ended_at e p os)

-- a node has ended, and with it the declarations of the names at these places
abbrev pub closed : List ℕ → State → State
closed [] s = s
closed (p ∷ ps) s = record s { found = all_ended (length s.found) (p ∷ ps) s.found }

-- these places, with p first if this label is that of a binder
abbrev pub named_by : Label → List ℕ → ℕ → List ℕ
named_by (ident binder x) old p = p ∷ old
named_by _ old p = old

-- the same in a declaration, which may be a statement; in any other node the places stay as they are
abbrev pub named_after : Declares → Label → List ℕ → ℕ → List ℕ
named_after globally l old p = old
named_after a_parameter l old p = old
named_after a_value l old p = named_by l old p

-- a node after its next field, which has this label, where p identifiers come before
abbrev pub stepped : Fields → Label → ℕ → Fields
stepped fs l p = record { node = after_field fs.node; named = named_after fs.node.declares l fs.named p }

-- an identifier adds itself, and any other tree what is in it
abbrev pub or_found : Label → Node ℕ → State → State → State
or_found (ident r x) node s inner = record s { found = s.found ++ occurrence r x node (length s.found) 0 ∷ [] }
or_found _ node s inner = inner

-- what is found after a walk over these trees, the fields of a node from the next one on
abbrev pub walk : Fields → State → Forest → State
walk fs s end = closed fs.named s
walk fs s (tree l children others) =
    walk (stepped fs l (length s.found))
    (or_found l fs.node s (walk (record { node = node_of l children (numbers_at (length s.outer)) (here_in fs.node); named = [] }) (opening (opened_by l) (here_in fs.node).block s) children))
    others

-- one tree, in these surroundings
abbrev pub walked : Here → State → Tree → State
walked here s t = walk (all_of here) s (before t end)
