-- What a walk over a module meets, in document order: identifiers, blocks that open and close, declarations that begin
-- and end (WGSL, "Declaration and Scope").
use Rattle.std.specs.Prelude.{ℕ, zero, suc, ◌+◌, Bool, true, false, Some, List, [], ◌∷◌, ◌++◌, map}
use Rattle.wesl_tree_names.specs.Path.{Path}
use Rattle.wesl_tree_syntax.specs.Tree.{LabelOf, ForestOf, TreeOf, before, end, tree, kind, ident}
use Rattle.wesl_tree_syntax.specs.Unit.{UnitOf, forest_of_unit}
use Rattle.wesl_scope_occurrences.specs.Occurrences.{Standing, local, reference, Field, below, fields, shape_of, Node, plain, node_of, here_in, after_field, standing, opened_by, blocks_in}
use Rattle.wesl_scope_occurrences.specs.Walk.{Here, outermost, numbers_at}

-- An event, where an identifier is an `I`. What its surroundings call the held block is the innermost that is open.
pub data EventOf (I : Type 0) : Type 0 where
  -- a global declaration begins
  begins : EventOf I
  -- an identifier, with its surroundings and how it stands: of a local name the end is told later, and here it is 0
  meets : Here → Standing → I → EventOf I
  -- a block opens
  opens : EventOf I
  -- the innermost open block closes
  closes : EventOf I
  -- the declaration statement of this local name, which stands in these surroundings, has ended
  ends : Here → I → EventOf I

-- the events of the trees of the code, where an identifier is a number
abbrev pub Event : Type 0
Event = EventOf ℕ

-- what a field is to its node
pub data Part : Type 0 where
  -- it stands in the second block of the node
  in_second : Part
  -- it holds the global declarations of the module
  of_module : Part
  of_none : Part

-- a node, as its fields see it: also what the next fields are to it, and whether they are global declarations of the module
pub record Level : Type 0 where
  pub node : Node ℕ
  pub parts : List Part
  pub is_global : Bool

-- what a field is to its node, by where it stands
abbrev pub part_of : Field → Part
part_of below = in_second
part_of _ = of_none

-- what each field of a node with this label is to it, as far as `fields` names them; a label that is no kind has none
abbrev pub parts_of : {I : Type 0} → LabelOf I → List Part
parts_of (kind k) = map part_of (fields (shape_of k))
parts_of _ = []

-- whether the field stands in the second block of the node
abbrev pub is_second : Part → Bool
is_second in_second = true
is_second _ = false

-- whether the field holds the global declarations of the module
abbrev pub is_of_module : Part → Bool
is_of_module of_module = true
is_of_module _ = false

-- a node with this label and these children, where q blocks open before
abbrev pub level_of : {I : Type 0} → LabelOf I → ForestOf I → ℕ → Here → Part → Level
level_of l children q here part = record { node = node_of l children (numbers_at q) here; parts = parts_of l; is_global = is_of_module part }

-- a node of which nothing is to be said but where it stands and what its next fields are to it
abbrev pub plain_level : Here → List Part → Level
plain_level here parts = record { node = plain here; parts = parts; is_global = false }

-- what the next field is to the node; of a field past the end of the list nothing is said
abbrev pub next_part : List Part → Part
next_part [] = of_none
next_part (p ∷ ps) = p

-- what the fields after it are
abbrev pub other_parts : List Part → List Part
other_parts [] = []
other_parts (p ∷ ps) = ps

-- the node, as the fields after the next one see it
abbrev pub after_level : Level → Level
after_level level = record { node = after_field level.node; parts = other_parts level.parts; is_global = level.is_global }

-- whether there are any
abbrev pub is_some : ℕ → Bool
is_some zero = false
is_some (suc n) = true

-- the path of an identifier that stands so: one, where it is a reference with a path, else none
abbrev pub path_met : Standing → List Path
path_met (reference (Some path)) = path ∷ []
path_met _ = []

module _ {I : Type 0} where
  -- a global declaration begins, if the next field is one
  abbrev pub beginning : Bool → List (EventOf I)
  beginning true = begins ∷ []
  beginning false = []

  -- a block round these, if there is one
  abbrev pub within : Bool → List (EventOf I) → List (EventOf I)
  within true es = opens ∷ (es ++ closes ∷ [])
  within false es = es

  -- the declaration of the name ends, if it is a statement
  abbrev pub ending : Here → Standing → I → List (EventOf I)
  ending here (local e) x = ends here x ∷ []
  ending here _ x = []

  -- Those of the fields of a node, where q blocks open before. A node that opens blocks has the first of them round all
  -- its fields, and the second round the one field that stands in that. A declaration has ended where the fields after
  -- its name have.
  abbrev pub events_from : Level → ℕ → ForestOf I → List (EventOf I)
  events_from level q end = []
  events_from level q (tree (ident r x) children others) =
      beginning level.is_global
      ++ (within (is_second (next_part level.parts)) (meets (here_in level.node) (standing r level.node 0) x ∷ [])
      ++ (events_from (after_level level) q others ++ ending (here_in level.node) (standing r level.node 0) x))
  events_from level q (tree l children others) =
      beginning level.is_global
      ++ (within (is_second (next_part level.parts)) (within (is_some (opened_by l)) (events_from (level_of l children q (here_in level.node) (next_part level.parts)) (q + opened_by l) children))
      ++ events_from (after_level level) (q + opened_by l + blocks_in children) others)

  -- those of one tree in these surroundings, where q blocks open before
  abbrev pub events_in : Here → ℕ → TreeOf I → List (EventOf I)
  events_in here q t = events_from (plain_level here []) q (before t end)

  -- those of a whole module
  abbrev pub events : UnitOf I → List (EventOf I)
  events u = events_from (plain_level outermost (of_none ∷ of_none ∷ of_module ∷ [])) 1 (forest_of_unit u)

  -- the paths of the references among events that have one
  abbrev pub paths_met : List (EventOf I) → List Path
  paths_met [] = []
  paths_met (meets here r x ∷ es) = path_met r ++ paths_met es
  paths_met (_ ∷ es) = paths_met es
