-- The identifiers of a module in document order, each with how it stands, its place in that order and its block
-- (WGSL, "Declaration and Scope").
use Rattle.std.specs.Prelude.{ℕ, suc, ◌+◌, Bool, true, false, Option, Some, None, List, [], ◌∷◌, ◌++◌, map, if◌then◌else◌}
use Rattle.std.specs.Option.{option_map}
use Rattle.wesl_tree_names.specs.Path.{Path}
use Rattle.wesl_tree_syntax.specs.Tree.{Kind, Role, LabelOf, ForestOf, end, tree, kind, ident, path, binder, reference as reference_role, word as word_role, function, parameter as parameter_kind, compound, compound_statement, if_clause, else_if_clause, else_clause, switch_clause, loop, continuing, for_loop, while_loop, import_statement, diagnostic_directive, enable_directive, requires_directive, if_attribute, elif_attribute, custom, type_expression, declaration as declaration_kind, declarations}
use Rattle.wesl_tree_syntax.specs.Unit.{UnitOf, forest_of_unit}

-- how an identifier stands
pub data Standing : Type 0 where
  -- the name of an import or of a global declaration
  module_name : Standing
  parameter : Standing
  -- the name of a declaration statement, and the place at which that statement has ended
  local : ℕ → Standing
  -- with its path, where it is qualified
  reference : Option Path → Standing
  -- a name in a condition, in an attribute of an import or a directive, or of an item that an import renames
  word : Standing

-- whether an identifier is the name of an import or of a global declaration
abbrev pub is_module_name : Standing → Bool
is_module_name module_name = true
is_module_name _ = false

-- whether an identifier declares
abbrev pub is_binder : Standing → Bool
is_binder module_name = true
is_binder parameter = true
is_binder (local e) = true
is_binder (reference by) = false
is_binder word = false

-- whether an identifier is a reference, with or without a path
abbrev pub is_reference : Standing → Bool
is_reference (reference by) = true
is_reference _ = false

-- whether an identifier is a reference without a path
abbrev pub is_unqualified : Standing → Bool
is_unqualified (reference None) = true
is_unqualified _ = false

-- A block is its way in the tree of blocks, the innermost step first: [] is the module's block, and the
-- block round k ∷ b is b. A step is the number of the block: how many blocks open before it, the module's counted.
abbrev pub Block : Type 0
Block = List ℕ

-- an identifier `I` of a module, where a block is told by a `B`: by its way, or by its number
pub record OccurrenceIn (I B : Type 0) : Type 0 where
  pub role : Standing
  pub name : I
  pub place : ℕ
  pub block : B
  -- the number of the global declaration that it lies in
  pub declaration : Option ℕ
  -- whether it lies in the arguments of a custom attribute
  pub excused : Bool

-- an identifier of a module, where a block is told by its way
abbrev pub Occurrence : Type 0 → Type 0
Occurrence I = OccurrenceIn I Block

-- Where a field of a node stands. A node may open one block, and a `for` one more in that.
pub data Field : Type 0 where
  -- in the block of the node
  around : Field
  -- in the module's block
  in_module : Field
  -- in the block that the node opens
  inside : Field
  -- in the block below the one that the node opens
  below : Field
  -- in the block that the holder of the node opens
  held : Field

-- what matters of a node here
pub data Shape : Type 0 where
  of_function : Shape
  of_parameter : Shape
  -- the attributes and statements of a body
  of_body : Shape
  -- a compound statement, an `if`, `else if` or `else`, a clause, a `while`
  of_holder : Shape
  of_loop : Shape
  of_continuing : Shape
  of_for : Shape
  -- a condition, an import, a directive: each name in it that is no binder is a word
  of_words : Shape
  -- a custom attribute
  of_custom : Shape
  of_type : Shape
  -- a declaration, which may be a statement
  of_value : Shape
  -- the global declarations
  of_globals : Shape
  of_other : Shape

-- what matters of a node of this kind; of the kinds that are not named nothing does
abbrev pub shape_of : Kind → Shape
shape_of function = of_function
shape_of parameter_kind = of_parameter
shape_of compound = of_body
shape_of compound_statement = of_holder
shape_of if_clause = of_holder
shape_of else_if_clause = of_holder
shape_of else_clause = of_holder
shape_of switch_clause = of_holder
shape_of while_loop = of_holder
shape_of loop = of_loop
shape_of continuing = of_continuing
shape_of for_loop = of_for
shape_of if_attribute = of_words
shape_of elif_attribute = of_words
shape_of import_statement = of_words
shape_of diagnostic_directive = of_words
shape_of enable_directive = of_words
shape_of requires_directive = of_words
shape_of custom = of_custom
shape_of type_expression = of_type
shape_of declaration_kind = of_value
shape_of declarations = of_globals
shape_of _ = of_other

-- The fields of a node, up to the last that does not stand around. The statements of every body stand in the
-- block that the holder of the body opens: a function, a compound statement, an `if`, `else if`, `else` or
-- clause, a loop. Its attributes stand where the body does.
abbrev pub fields : Shape → List Field
-- attributes, name, parameters, ..
fields of_function = around ∷ around ∷ inside ∷ []
-- attributes, name, type
fields of_parameter = in_module ∷ around ∷ in_module ∷ []
-- attributes, statements
fields of_body = around ∷ held ∷ []
-- attributes, body, continuing block
fields of_loop = around ∷ around ∷ inside ∷ []
-- attributes, body, `break if`
fields of_continuing = around ∷ around ∷ inside ∷ []
-- attributes, initializer, condition, update, body
fields of_for = around ∷ inside ∷ inside ∷ below ∷ inside ∷ []
fields _ = []

-- how many blocks a node opens: each holder of a body one, and a `for` another for its update
abbrev pub opens : Shape → ℕ
opens of_function = 1
opens of_holder = 1
opens of_loop = 1
opens of_continuing = 1
opens of_for = 2
opens _ = 0

-- what its surroundings say of a node
pub record Surroundings (B : Type 0) : Type 0 where
  pub block : B
  -- the block that the nearest holder of a body round it opens
  pub held_block : B
  -- whether its block is another than the module's
  pub is_local : Bool
  pub declaration : Option ℕ
  pub words : Bool
  pub excused : Bool

-- the block that a node opens, the one below that, and the module's
pub record Blocks (B : Type 0) : Type 0 where
  pub own : B
  pub below_own : B
  pub whole : B

-- what a name is that stands directly in a node
pub data Declares : Type 0 where
  globally : Declares
  a_parameter : Declares
  -- in a declaration, which may be a statement
  a_value : Declares

-- a node, as its fields see it: the surroundings of the next fields, and of all that come after those
pub record Node (B : Type 0) : Type 0 where
  pub ahead : List (Surroundings B)
  pub others : Surroundings B
  -- the number of the next field, where the fields are global declarations
  pub next_declaration : Option ℕ
  pub declares : Declares
  -- of a type expression its path
  pub path : Option Path

-- what a name is that stands directly in a node of this shape
abbrev pub declares_in : Shape → Declares
declares_in of_parameter = a_parameter
declares_in of_value = a_value
declares_in _ = globally

-- the number of the first field, in the list of global declarations
abbrev pub first_declaration : Shape → Option ℕ
first_declaration of_globals = Some 0
first_declaration _ = None

-- the path of a type expression is its first field
abbrev pub path_of : {I : Type 0} → Shape → ForestOf I → Option Path
path_of of_type (tree _ (tree (path p) _ _) _) = Some p
path_of _ _ = None

-- how a reference stands: as a word in a condition, an import or a directive, else with its path, if it has one
abbrev pub referring : Bool → Option Path → Standing
referring true by = word
referring false by = reference by

module _ {B : Type 0} where
  -- the surroundings of the fields that stand around, in a node that opens the block `own`
  abbrev pub entered : Shape → B → Surroundings B → Surroundings B
  entered of_function own here = record here { held_block = own }
  entered of_holder own here = record here { held_block = own }
  entered of_loop own here = record here { held_block = own }
  entered of_continuing own here = record here { held_block = own }
  entered of_for own here = record here { held_block = own }
  entered of_words own here = record here { words = true }
  entered of_custom own here = record here { excused = true }
  entered _ own here = here

  -- the same surroundings in block b of a function
  abbrev pub standing_in : B → Surroundings B → Surroundings B
  standing_in b here = record here { block = b; is_local = true }

  -- the surroundings of a field, by where it stands in its node
  abbrev pub field_in : Blocks B → Surroundings B → Field → Surroundings B
  field_in bs here around = here
  field_in bs here in_module = record here { block = bs.whole; is_local = false }
  field_in bs here inside = standing_in bs.own here
  field_in bs here below = record here { block = bs.below_own; held_block = bs.below_own; is_local = true }
  field_in bs here held = standing_in here.held_block here

  -- a node of which nothing is to be said but where it stands
  abbrev pub plain : Surroundings B → Node B
  plain here = record { ahead = []; others = here; next_declaration = None; declares = globally; path = None }

  -- a node of this shape with these children, which opens these blocks
  abbrev pub node_by : {I : Type 0} → Shape → ForestOf I → Blocks B → Surroundings B → Node B
  node_by s children bs here = record {
    ahead = map (field_in bs (entered s bs.own here)) (fields s);
    others = entered s bs.own here;
    next_declaration = first_declaration s;
    declares = declares_in s;
    path = path_of s children;
  }

  -- a node with this label and these children, which opens these blocks; a label that is no kind, as a span, says nothing
  abbrev pub node_of : {I : Type 0} → LabelOf I → ForestOf I → Blocks B → Surroundings B → Node B
  node_of (kind k) children bs here = node_by (shape_of k) children bs here
  node_of _ children bs here = plain here

  -- the first of these surroundings, or `here` where there are none
  abbrev pub first_or : Surroundings B → List (Surroundings B) → Surroundings B
  first_or here [] = here
  first_or here (x ∷ xs) = x

  -- these surroundings without the first
  abbrev pub others_of : List (Surroundings B) → List (Surroundings B)
  others_of [] = []
  others_of (x ∷ xs) = xs

  -- the same surroundings in the global declaration of this number, where there is one
  abbrev pub numbered : Option ℕ → Surroundings B → Surroundings B
  numbered None here = here
  numbered (Some n) here = record here { declaration = Some n }

  -- the surroundings of the next field
  abbrev pub here_in : Node B → Surroundings B
  here_in node = numbered node.next_declaration (first_or node.others node.ahead)

  -- the node, as the fields after the next one see it
  abbrev pub after_field : Node B → Node B
  after_field node = record node { ahead = others_of node.ahead; next_declaration = option_map suc node.next_declaration }

  -- a declared name, and the place at which what declares it has ended
  abbrev pub declared : Declares → Surroundings B → ℕ → Standing
  declared globally here e = module_name
  declared a_parameter here e = parameter
  declared a_value here e = if here.is_local then local e else module_name

  -- an identifier in the next field of a node, and the place at which that node has ended
  abbrev pub standing : Role → Node B → ℕ → Standing
  standing binder node e = declared node.declares (here_in node) e
  standing reference_role node e = referring (here_in node).words node.path
  standing word_role node e = word

  -- the identifier x in the next field of a node, at place p, where that node has ended at place e
  abbrev pub occurrence : {I : Type 0} → Role → I → Node B → ℕ → ℕ → OccurrenceIn I B
  occurrence r x node p e = record { role = standing r node e; name = x; place = p; block = (here_in node).block; declaration = (here_in node).declaration; excused = (here_in node).excused }

-- how many blocks a node with this label opens
abbrev pub opened_by : {I : Type 0} → LabelOf I → ℕ
opened_by (kind k) = opens (shape_of k)
opened_by _ = 0

module _ {I : Type 0} where
  -- how many identifiers there are
  abbrev pub count : ForestOf I → ℕ
  count end = 0
  count (tree (ident r x) children others) = suc (count others)
  count (tree l children others) = count children + count others

  -- how many blocks open
  abbrev pub blocks_in : ForestOf I → ℕ
  blocks_in end = 0
  blocks_in (tree (ident r x) children others) = blocks_in others
  blocks_in (tree l children others) = opened_by l + blocks_in children + blocks_in others

-- the blocks of a node in block b, where q blocks open before
abbrev pub blocks_at : ℕ → Block → Blocks Block
blocks_at q b = record { own = q ∷ b; below_own = suc q ∷ q ∷ b; whole = [] }

module _ {I : Type 0} where
  -- Those in the fields of a node, where p identifiers come before and q blocks open before. A declaration has
  -- ended where the fields after its name have.
  abbrev pub occurrences_from : Node Block → ℕ → ℕ → ForestOf I → List (Occurrence I)
  occurrences_from node p q end = []
  occurrences_from node p q (tree (ident r x) children others) =
      occurrence r x node p (suc p + count others) ∷ occurrences_from (after_field node) (suc p) q others
  occurrences_from node p q (tree l children others) =
      occurrences_from (node_of l children (blocks_at q (here_in node).block) (here_in node)) p (q + opened_by l) children
      ++ occurrences_from (after_field node) (p + count children) (q + opened_by l + blocks_in children) others

  -- all identifiers of a module
  abbrev pub occurrences : UnitOf I → List (Occurrence I)
  occurrences u = occurrences_from (plain (record { block = []; held_block = []; is_local = false; declaration = None; words = false; excused = false })) 0 1 (forest_of_unit u)
