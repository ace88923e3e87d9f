-- What a schema is: which members an object has, and the tree that each gives.
use Rattle.std.specs.Prelude.{Bool, List, [], ◌∷◌, if◌then◌else◌, Option, Some, None}
use Rattle.std.specs.Str.{bytes_eq}
use Rattle.serde_json.specs.Data.{Data}
use Rattle.wesl_tree_names.specs.Path.{Text}
use Rattle.wesl_tree_syntax.specs.Tree.{forest_of, Kind, Role, LabelOf, kind, ForestOf, end, TreeOf}

-- a tree whose identifiers are names
abbrev pub Spelled : Type 0
Spelled = TreeOf Text

-- trees after one another whose identifiers are names
abbrev pub SpelledForest : Type 0
SpelledForest = ForestOf Text

-- a label in which an identifier is a name
abbrev pub SpelledLabel : Type 0
SpelledLabel = LabelOf Text

-- the tree that has this label and no children
abbrev pub leaf_of : SpelledLabel → Spelled
leaf_of l = record { label = l; children = end }

-- the tree that has this label and these trees as its children
abbrev pub labelled : SpelledLabel → List Spelled → Spelled
labelled l ts = record { label = l; children = forest_of ts }

-- what is found for a word
abbrev pub look : {A : Type 0} → List (Text × A) → Text → Option A
look [] s = None
look (p ∷ ps) s = if bytes_eq s p.0 then Some p.1 else look ps s

-- the text itself; none where it is empty
abbrev pub nonempty : Text → Option Text
nonempty [] = None
nonempty (x ∷ xs) = Some (x ∷ xs)

-- words, and the label that each stands for; of a word that stands twice the first counts
abbrev pub Words : Type 0
Words = List (Text × SpelledLabel)

-- a member that gives no child
pub data Extra : Type 0 where
  -- `span`, which may be there
  a_span : Extra
  -- `form`, which must be 2
  second_form : Extra

-- values that are no objects
pub data Leaf : Type 0 where
  -- a nonempty text, an identifier
  an_ident : Role → Leaf
  -- a nonempty text
  a_name : Leaf
  -- a text
  a_text : Leaf
  -- a nonempty text that is not `true` or `false`
  a_literal : Leaf
  -- a list of nonempty texts
  some_names : Leaf
  -- the text of a path
  a_path : Leaf
  -- one of these words
  one_of : Words → Leaf
  -- any value without a number that is not whole
  anything : Leaf
  -- a member that gives no child
  extra : Extra → Leaf

-- values that are objects, or stand for them
pub data Name : Type 0 where
  a_unit : Name
  an_import : Name
  a_content : Name
  an_entry : Name
  a_directive : Name
  a_declaration : Name
  a_member : Name
  a_parameter : Name
  a_body : Name
  a_statement : Name
  an_elif : Name
  an_else : Name
  a_clause : Name
  a_case : Name
  a_continuing : Name
  a_break_if : Name
  a_call : Name
  a_type : Name
  a_template_argument : Name
  an_expression : Name
  an_attribute : Name

-- what a value is to be: a leaf, a list of values of one name whose tree is of this kind, or a value of one name
pub data Form : Type 0 where
  leaf : Leaf → Form
  list_of : Kind → Name → Form
  node : Name → Form

-- a label, or the one that the word at a key gives
pub data Head : Type 0 where
  fixed : SpelledLabel → Head
  chosen : Text → Words → Head
  -- a kind, with the span that the object has where spans are read
  placed : Bool → Kind → Head

-- the children of a node, in document order, by the members of an object
pub data Row : Type 0 where
  nothing : Row
  -- the member is this word; it gives no child
  marked : Text → Text → Row → Row
  -- a member that must be there
  needs : Text → Form → Row → Row
  -- a member that may be there: an option
  may : Text → Form → Row → Row
  -- a list, empty where it is not there
  many : Text → Form → Row → Row
  -- a child of no member
  given : SpelledLabel → Row → Row
  -- a node made of further members of the same object
  inner : Head → Row → Row → Row
  -- the same, an option that is there where the key is
  inner_where : Text → Head → Row → Row → Row
  -- where so, a member that gives no child
  beside : Bool → Extra → Row → Row

-- an object as a node: what its label is, and the members that give its children
pub record Node : Type 0 where
  pub head : Head
  pub row : Row

-- a node whose label is this kind, whatever its object has
abbrev pub node_of_kind : Kind → Row → Node
node_of_kind k row = record { head = fixed (kind k); row = row }

-- a node with a span, and the node in it
abbrev pub spanned : Bool → Kind → Head → Row → Node
spanned spans k head row = record { head = placed spans k; row = beside spans a_span (inner head row nothing) }

-- the row of a node in another: its word stays a member of the object
abbrev pub under : Head → Row → Row
under h (marked k w row) = marked k w (under h row)
under h (beside b x row) = beside b x (under h row)
under h row = inner h row nothing

-- a node of this kind whose one child is the other node; both are made of the same object
abbrev pub within : Kind → Node → Node
within k n = node_of_kind k (under n.head n.row)

-- the word goes behind what stands beside, so that keys are `span`, `k`, then the others
abbrev pub mark : Text → Text → Row → Row
mark k w (beside b x row) = beside b x (mark k w row)
mark k w row = marked k w row

-- an object that has the word w at `k`
abbrev pub worded : Text → Text → Node → Text × Node
worded k w n = (w, record { head = n.head; row = mark k w n.row })

-- which node an object is, and what a value is that is no object
pub record Table : Type 0 where
  pub nodes : Name → Data → Option Node
  pub shorts : Name → Data → Option Spelled
