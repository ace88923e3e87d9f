-- One walk over a module: which set of choices each identifier, import and declaration has. Sets are told by numbers:
-- 0 is that of all choices, 1 the empty one, and the others are those of the branches of chains, in order.
use Rattle.std.specs.Prelude.{ℕ, suc, ◌+◌, Bool, true, false, not, ◌&&◌, cond, Option, Some, None, List, [], ◌∷◌, ◌++◌, map, length, drop}
use Rattle.wesl_cond_chains.specs.Chains.{Condition, none, on, else_on, otherwise, follows_on}
use Rattle.wesl_cond_chains.specs.Conditions.{condition_at, is_statements, is_list}
use Rattle.wesl_cond_chains.specs.Faults.{list_at}
use Rattle.wesl_cond_chains.specs.Formulas.{Form}
use Rattle.wesl_cond_chains.specs.Lists.{Element, is_closed, is_compound, is_entered}
use Rattle.wesl_tree_syntax.specs.Nodes.{is_attributes, is_formula}
use Rattle.wesl_tree_syntax.specs.Tree.{LabelOf, ForestOf, end, tree, ident}
use Rattle.wesl_cond_alive.specs.Positions.{size}
use Rattle.wesl_cond_alive.specs.Sound.{Outline, outline_of, is_conditional, is_whole}

-- where a node stands
pub record Here : Type 0 where
  -- the number of its set
  pub set : ℕ
  -- whether the conditions of its attributes are gone, as they are of a branch of a chain without fault
  pub is_bare : Bool
  -- whether it is part of a formula
  pub is_formula : Bool

-- a branch of a chain without fault
pub record Branch (I : Type 0) : Type 0 where
  -- the set of what holds the list
  pub holder : ℕ
  pub begins : Bool
  -- none of an @else
  pub formula : Option (Form I)

-- an identifier, and its set
pub record Mark (I : Type 0) : Type 0 where
  pub name : I
  pub set : ℕ

-- what a walk has found so far; the first branch has set number 2, each further one the next
pub record State (I : Type 0) : Type 0 where
  pub branches : List (Branch I)
  pub marks : List (Mark I)
  -- the identifiers that are part of formulas
  pub flags : List I

-- the number of the set of all choices
abbrev pub all_choices : ℕ
all_choices = 0

-- the number of the empty set, in which voids stand, and conditions that are gone
abbrev pub no_choices : ℕ
no_choices = 1

-- in a set, outside of formulas, where no conditions of attributes are gone
abbrev pub in_set : ℕ → Here
in_set n = record { set = n; is_bare = false; is_formula = false }

-- in the set of a branch of a chain without fault, so that the conditions of its attributes are gone
abbrev pub bare_in : ℕ → Here
bare_in n = record { set = n; is_bare = true; is_formula = false }

-- here, but where no conditions of attributes are gone
abbrev pub whole_here : Here → Here
whole_here here = record here { is_bare = false }

-- what is known of the trees of a forest
pub data Ahead : Type 0 where
  -- nodes of a judged list in turn, and others that stand where their holder does
  listed : List Here → Ahead
  -- what stands below a node in which no judged list may lie
  leaf : Ahead
  -- attributes, the conditions among which are gone
  bare : Ahead
  -- of a loop or a continuing block the attributes, the body, what closes its list, and others
  closing : List Here → Ahead
  body : List Here → Ahead
  last : List Here → Ahead
  past : Ahead
  -- of such a body the attributes, the statements, and others
  inner : List Here → Ahead
  inside : List Here → Ahead
  beyond : Ahead

-- whether the statements here are judged with what closes them
abbrev pub is_held : Ahead → Bool
is_held (listed hs) = false
is_held leaf = false
is_held bare = false
is_held _ = true

-- a node, as its children see it
pub record Node : Type 0 where
  pub here : Here
  pub ahead : Ahead

-- what is known of the statements of a body: the places of their own list, or those that the body was given where its list
-- is judged with what closes it
abbrev pub statements_ahead : Ahead → List Here → Ahead
statements_ahead (listed hs) places = listed places
statements_ahead (inside hs) places = listed hs
statements_ahead _ places = listed []

-- what is known of the children of a body: as that of a loop or a continuing block it hands on the places of its list
abbrev pub body_ahead : Ahead → Ahead
body_ahead (listed hs) = listed []
body_ahead (body hs) = inner hs
body_ahead _ = inner []

-- what is known of the children of a node with no list: of the child that closes a list the places left for it, else none
abbrev pub last_ahead : Ahead → Ahead
last_ahead (last hs) = listed hs
last_ahead _ = listed []

-- a node that stands here, and whose children stand where it does
abbrev pub plain : Here → Node
plain here = record { here = here; ahead = listed [] }

module _ {I : Type 0} where
  -- how many sets there are
  abbrev pub set_count : State I → ℕ
  set_count s = 2 + length s.branches

  -- the formula of an @if or an @elif, else none
  abbrev pub formula_of : Condition I → Option (Form I)
  formula_of none = None
  formula_of (on x) = Some x.form
  formula_of (else_on x) = Some x.form
  formula_of otherwise = None

  module _ (holder : ℕ) where
    -- the branches of a list; `whole` where the node before it stays whole
    abbrev pub branches_of : Bool → List (Outline I) → List (Branch I)
    branches_of whole [] = []
    branches_of whole (x ∷ xs) =
        cond x.is_void (branches_of whole xs)
        (cond (is_whole whole x xs) (branches_of true xs)
        (record { holder = holder; begins = not (follows_on x.condition); formula = formula_of x.condition } ∷ branches_of false xs))

    -- where the nodes of a list stand, from set number `next` on: in the set of their branch, or else of the holder
    abbrev pub places_of : ℕ → Bool → List (Outline I) → List Here
    places_of next whole [] = []
    places_of next whole (x ∷ xs) =
        cond x.is_void (in_set no_choices ∷ places_of next whole xs)
        (cond (is_whole whole x xs) (in_set holder ∷ places_of next true xs) (bare_in next ∷ places_of (suc next) false xs))

    -- a node is judged, `whole` where it stays whole: its branch is added, if it has one
    abbrev pub branched : Bool → Outline I → State I → State I
    branched whole x s =
        cond x.is_void s
        (cond whole s (record s { branches = s.branches ++ record { holder = holder; begins = not (follows_on x.condition); formula = formula_of x.condition } ∷ [] }))

    -- where such a node stands: a void in the empty set, one that stays whole in the holder's, a branch in set `next`
    abbrev pub place_of : ℕ → Bool → Outline I → Here
    place_of next whole x = cond x.is_void (in_set no_choices) (cond whole (in_set holder) (bare_in next))

  -- the branches of a list are added
  abbrev pub judged : ℕ → List (Outline I) → State I → State I
  judged holder [] s = s
  judged holder (x ∷ xs) s = record s { branches = s.branches ++ branches_of holder true (x ∷ xs) }

  -- where the nodes of a list stand, whose branches are numbered after those found so far
  abbrev pub places_in : ℕ → List (Outline I) → State I → List Here
  places_in holder xs s = places_of holder (set_count s) true xs

  -- how many statements a body has
  abbrev pub statement_count : ForestOf I → ℕ
  statement_count (tree a own (tree s items rest)) = size items
  statement_count _ = 0

  -- what is known of the trees after the next one
  abbrev pub next : Ahead → ForestOf I → Ahead
  next (listed []) children = listed []
  next (listed (h ∷ hs)) children = listed hs
  next leaf children = leaf
  next bare children = bare
  next (closing hs) children = body hs
  next (body hs) children = last (drop (statement_count children) hs)
  next (last hs) children = past
  next past children = past
  next (inner hs) children = inside hs
  next (inside hs) children = beyond
  next beyond children = beyond

  -- where the next tree stands
  abbrev pub standing : Here → Ahead → ForestOf I → Here
  standing here (listed []) children = here
  standing here (listed (h ∷ hs)) children = record h { is_formula = here.is_formula }
  standing here bare children = cond (is_conditional (condition_at children)) (record here { set = no_choices }) here
  standing here _ children = here

  -- what is known of the children of a node in which a judged list may lie
  abbrev pub ahead_inside : Ahead → LabelOf I → List Here → Ahead
  ahead_inside ahead l places =
      cond (is_closed l) (closing places)
      (cond (is_statements l) (statements_ahead ahead places)
      (cond (is_list l) (listed places)
      (cond (is_compound l) (body_ahead ahead) (last_ahead ahead))))

  -- what is known of the children of a node in which no judged list may lie: where it is the attributes list of a branch, that
  -- the conditions among them are gone, else nothing
  abbrev pub attributes_in_turn : Here → LabelOf I → Ahead
  attributes_in_turn here l = cond (is_attributes l && here.is_bare) bare leaf

  -- what is known of the children of the next tree
  abbrev pub ahead_in : Ahead → Here → LabelOf I → List Here → Ahead
  ahead_in leaf here l places = attributes_in_turn here l
  ahead_in bare here l places = leaf
  ahead_in ahead here l places = cond (is_entered l) (ahead_inside ahead l places) (attributes_in_turn here l)

  -- the next tree as its children see it
  abbrev pub entered : Node → LabelOf I → ForestOf I → List Here → Node
  entered node l children places =
      let here = standing node.here node.ahead children in
      record {
        here = record { set = here.set; is_bare = cond (is_attributes l) false (cond (is_list l) false here.is_bare); is_formula = cond (is_formula l) true here.is_formula };
        ahead = ahead_in node.ahead here l places;
      }

  -- the node as the trees after the next one see it: attributes stand first, so that behind them no conditions are gone
  abbrev pub after : Node → ForestOf I → Node
  after node children = record { here = whole_here node.here; ahead = next node.ahead children }

  -- the list that is judged at the next tree, if any
  abbrev pub list_in : Ahead → LabelOf I → ForestOf I → List (Element I)
  list_in leaf l children = []
  list_in bare l children = []
  list_in ahead l children = list_at (is_held ahead) l children

  -- what matters of the nodes of that list
  abbrev pub outlines_at : Node → LabelOf I → ForestOf I → List (Outline I)
  outlines_at node l children = map outline_of (list_in node.ahead l children)

  -- an identifier in a formula is a flag
  abbrev pub flagged : LabelOf I → Here → State I → State I
  flagged (ident r x) here s = record s { flags = cond here.is_formula (s.flags ++ x ∷ []) s.flags }
  flagged _ here s = s

  -- an identifier is marked, and any other tree has what is marked in it
  abbrev pub or_marked : LabelOf I → Here → State I → State I → State I
  or_marked (ident r x) here s found = record found { marks = s.marks ++ record { name = x; set = here.set } ∷ [] }
  or_marked _ here s found = found

  -- What has been found after some trees, in document order: the branches of the list that is judged at a tree come before
  -- those of the lists in it, and each identifier is marked with the set in which it stands.
  abbrev pub walk : Node → State I → ForestOf I → State I
  walk node s end = s
  walk node s (tree l children others) =
      let here = standing node.here node.ahead children in
      let list = outlines_at node l children in
      walk (after node children)
      (or_marked l here s (walk (entered node l children (places_in here.set list s)) (judged here.set list (flagged l here s)) children))
      others
