-- The calls of a declaration, and what each declaration is to a call (WGSL, "Function Calls" and "Value Constructor
-- Expressions").
use Rattle.std.specs.Prelude.{ℕ, Bool, true, false, ◌||◌, ◌==◌, List, [], ◌∷◌, ◌++◌, length}
use Rattle.std.specs.List.{flat_map}
use Rattle.wesl_tree_syntax.specs.Tree.{ForestOf, end, tree, trees, kind, ident, absent, call_expression, call_statement, type_expression, function, struct, type_alias}
use Rattle.wesl_tree_syntax.specs.Nodes.{is_expression, is_statement, all_nodes, without_words}

-- a call of a name without a path
pub record CallOf (I : Type 0) : Type 0 where
  pub callee : I
  pub arguments : ℕ

-- what a declaration is to a call
pub data ShapeOf (I : Type 0) : Type 0 where
  -- a function with so many parameters
  function_with : ℕ → ShapeOf I
  -- a struct with so many members
  struct_with : ℕ → ShapeOf I
  -- an alias of a type with a path or with template arguments
  open_alias : ShapeOf I
  -- an alias of a plain name
  alias_of : I → ShapeOf I
  -- a value
  other : ShapeOf I

module _ {I : Type 0} where
  -- by the fields of a call: a type, and a list of arguments
  abbrev pub call_by : ForestOf I → List (CallOf I)
  call_by (tree (kind type_expression) (tree (kind absent) _ (tree (ident r x) _ _)) (tree _ arguments _)) = record { callee = x; arguments = length (trees arguments) } ∷ []
  call_by _ = []

  -- of a statement, by its fields after the attributes
  abbrev pub called_now : ForestOf I → List (CallOf I)
  called_now (tree _ fields _) = call_by fields
  called_now end = []

  -- the call that an expression or a statement is, by its one child
  abbrev pub called_in : ForestOf I → List (CallOf I)
  called_in (tree (kind call_expression) (tree _ fields _) _) = call_by fields
  called_in (tree (kind call_statement) (tree _ _ others) _) = called_now others
  called_in _ = []

  -- the calls without a path, expressions and statements, that are no part of a word
  abbrev pub calls_in : ForestOf I → List (CallOf I)
  calls_in f = flat_map (λ t. called_in t.children) (all_nodes is_expression (without_words f)) ++ flat_map (λ t. called_in t.children) (all_nodes is_statement f)

  -- of an alias, by the fields of its type
  abbrev pub alias_by : ForestOf I → ShapeOf I
  alias_by (tree (kind absent) _ (tree (ident r x) _ (tree (kind absent) _ _))) = alias_of x
  alias_by _ = open_alias

  -- of a declaration, in its node
  abbrev pub shape_in : ForestOf I → ShapeOf I
  shape_in (tree (kind function) (tree _ _ (tree _ _ (tree _ parameters _))) _) = function_with (length (trees parameters))
  shape_in (tree (kind struct) (tree _ _ (tree _ _ (tree _ members _))) _) = struct_with (length (trees members))
  shape_in (tree (kind type_alias) (tree _ _ (tree _ _ (tree _ type _))) _) = alias_by type
  shape_in _ = other

  -- whether a declaration of this shape takes so many arguments
  abbrev pub takes : ℕ → ShapeOf I → Bool
  takes c (function_with k) = c == k
  takes c (struct_with k) = c == k || c == 0
  takes c open_alias = true
  takes c (alias_of x) = false
  takes c other = false

  -- whether a declaration is an alias of a name without a path and without template arguments
  abbrev pub is_plain_alias : ShapeOf I → Bool
  is_plain_alias (alias_of x) = true
  is_plain_alias _ = false
