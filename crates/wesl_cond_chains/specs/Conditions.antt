-- The condition of a node of a tree, and the node in a role.
use Rattle.std.specs.Prelude.{List, [], ◌∷◌, Bool, true, false, cond}
use Rattle.wesl_cond_features.specs.declared.chain.Role.{Role}
use Rattle.wesl_cond_chains.specs.Chains.{Condition, none, on, else_on, otherwise, recast_condition}
use Rattle.wesl_cond_features.specs.Answers.{Answers}
use Rattle.wesl_cond_chains.specs.Formulas.{Spot, other, nowhere, spots, spot, written}
use Rattle.wesl_tree_syntax.specs.Nodes.{is_attributes}
use Rattle.wesl_tree_syntax.specs.Tree.{LabelOf, ForestOf, end, tree, kind, at, absent, if_attribute, elif_attribute, else_attribute, imports, directive_list, declarations, members, parameters, statements, clauses}
use Rattle.wesl_tree_syntax.specs.Unit.{begins_void}

module _ {I : Type 0} where
  -- the first of some formulas in their places; where there is none, something that is no formula
  abbrev pub first_of : List (Spot I) → Spot I
  first_of [] = record { span = nowhere; form = other (kind absent) end }
  first_of (x ∷ xs) = x

  -- the first tree, as a formula in its place
  abbrev pub first_spot : ForestOf I → Spot I
  first_spot operand = first_of (spots operand)

  -- the condition that an attribute is, by what its node holds
  abbrev pub condition_at : ForestOf I → Condition I
  condition_at (tree (kind if_attribute) operand others) = on (first_spot operand)
  condition_at (tree (kind elif_attribute) operand others) = else_on (first_spot operand)
  condition_at (tree (kind else_attribute) operand others) = otherwise
  condition_at _ = none

  -- the first of two conditions, or the second where the first is none
  abbrev pub or_next : Condition I → Condition I → Condition I
  or_next none next = next
  or_next (on x) next = on x
  or_next (else_on x) next = else_on x
  or_next otherwise next = otherwise

  -- the first condition of an attributes list
  abbrev pub first_condition : ForestOf I → Condition I
  first_condition end = none
  first_condition (tree l attribute others) = or_next (condition_at attribute) (first_condition others)

  -- the attribute that a condition is
  abbrev pub attribute_of : Condition I → ForestOf I
  attribute_of none = end
  attribute_of (on x) = tree (kind if_attribute) (spot x.span (written x.form) end) end
  attribute_of (else_on x) = tree (kind elif_attribute) (spot x.span (written x.form) end) end
  attribute_of otherwise = tree (kind else_attribute) end end

  -- an attribute as it was where it is no condition, else as a new condition, if one is left
  abbrev pub replaced : LabelOf I → ForestOf I → Condition I → Condition I → ForestOf I → ForestOf I
  replaced l attribute none new others = tree l attribute others
  replaced l attribute (on x) none others = others
  replaced l attribute (on x) (on y) others = tree l (attribute_of (on y)) others
  replaced l attribute (on x) (else_on y) others = tree l (attribute_of (else_on y)) others
  replaced l attribute (on x) otherwise others = tree l (attribute_of otherwise) others
  replaced l attribute (else_on x) none others = others
  replaced l attribute (else_on x) (on y) others = tree l (attribute_of (on y)) others
  replaced l attribute (else_on x) (else_on y) others = tree l (attribute_of (else_on y)) others
  replaced l attribute (else_on x) otherwise others = tree l (attribute_of otherwise) others
  replaced l attribute otherwise none others = others
  replaced l attribute otherwise (on y) others = tree l (attribute_of (on y)) others
  replaced l attribute otherwise (else_on y) others = tree l (attribute_of (else_on y)) others
  replaced l attribute otherwise otherwise others = tree l (attribute_of otherwise) others

  -- an attributes list in a role
  abbrev pub recast : Answers I → Role → ForestOf I → ForestOf I
  recast known role end = end
  recast known role (tree l attribute others) = replaced l attribute (condition_at attribute) (recast_condition known role (condition_at attribute)) (recast known role others)

  -- a list of statements
  abbrev pub is_statements : LabelOf I → Bool
  is_statements (kind statements) = true
  is_statements _ = false

  -- the lists that are judged: imports, directives, global declarations, struct members, parameters, statements and clauses
  abbrev pub is_list : LabelOf I → Bool
  is_list (kind imports) = true
  is_list (kind directive_list) = true
  is_list (kind declarations) = true
  is_list (kind members) = true
  is_list (kind parameters) = true
  is_list (kind statements) = true
  is_list (kind clauses) = true
  is_list _ = false

  -- the attributes of the first tree: the first attributes list down its first children, outside judged lists
  abbrev pub attributes_in : ForestOf I → ForestOf I
  attributes_in end = end
  attributes_in (tree l children others) = cond (is_attributes l) children (cond (is_list l) end (attributes_in children))

  -- the trees with those attributes changed; where the first has none, as they are
  abbrev pub with_attributes : (ForestOf I → ForestOf I) → ForestOf I → ForestOf I
  with_attributes change end = end
  with_attributes change (tree l children others) = tree l (cond (is_attributes l) (change children) (cond (is_list l) children (with_attributes change children))) others

  -- a node that holds nothing but a void
  abbrev pub is_void : LabelOf I → ForestOf I → Bool
  is_void (at k s e) children = begins_void children
  is_void _ children = false
