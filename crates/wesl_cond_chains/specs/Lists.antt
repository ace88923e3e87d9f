-- The judged lists of a tree, with the nodes that close them.
use Rattle.std.specs.Prelude.{List, [], ◌∷◌, ◌++◌, Bool, true, false, not, cond, ◌&&◌, ◌||◌}
use Rattle.wesl_cond_chains.specs.Chains.{Judged}
use Rattle.wesl_cond_chains.specs.Conditions.{first_condition, recast, is_statements, is_list, attributes_in, with_attributes, is_void}
use Rattle.wesl_tree_syntax.specs.Nodes.{is_attributes}
use Rattle.wesl_tree_syntax.specs.Tree.{LabelOf, ForestOf, end, tree, kind, at, imports, directive_list, declarations, declaration_node, struct, members, function, parameters, compound, statements, statement_node, compound_statement, if_statement, if_clause, list, else_if_clause, present, absent, else_clause, switch, clauses, switch_clause, loop, continuing, for_loop, while_loop}

-- a node of a judged list, or the continuing block or `break if` that closes one
pub record Element (I : Type 0) : Type 0 where
  pub closes : Bool
  pub label : LabelOf I
  pub children : ForestOf I

-- whether a node goes back to a place: one that closes a list to that of what closes it, any other into the list
abbrev pub goes_back : Bool → Bool → Bool
goes_back true closes = closes
goes_back false closes = not closes

module _ {I : Type 0} where
  -- How an element is judged: by its first condition. In a role each condition among its attributes is made anew or taken
  -- away, and all else stays.
  abbrev pub element : Judged I (Element I)
  element = record {
    is_void = λ x. is_void x.label x.children;
    condition_of = λ x. first_condition (attributes_in (tree x.label x.children end));
    in_role = λ known role x. record {
      closes = x.closes;
      label = x.label;
      children = cond (is_attributes x.label) (recast known role x.children) (cond (is_list x.label) x.children (with_attributes (recast known role) x.children));
    };
  }

  -- the same where a node that stays is left as it is
  abbrev pub still : Judged I (Element I)
  still = record {
    is_void = λ x. is_void x.label x.children;
    condition_of = λ x. first_condition (attributes_in (tree x.label x.children end));
    in_role = λ known role x. x;
  }

  -- each of some trees as such a node, where all of them close a list or none does
  abbrev pub elements : Bool → ForestOf I → List (Element I)
  elements closes end = []
  elements closes (tree l children others) = record { closes = closes; label = l; children = children } ∷ elements closes others

  -- those that go back into the list, or to the place of what closes it
  abbrev pub back : Bool → List (Element I) → ForestOf I
  back closes [] = end
  back closes (x ∷ xs) = cond (goes_back closes x.closes) (tree x.label x.children (back closes xs)) (back closes xs)

  -- nodes with a list in their body that another of their children closes
  abbrev pub is_closed : LabelOf I → Bool
  is_closed (kind loop) = true
  is_closed (kind continuing) = true
  is_closed _ = false

  -- a body: attributes, and statements in braces
  abbrev pub is_compound : LabelOf I → Bool
  is_compound (kind compound) = true
  is_compound _ = false

  -- an optional child, there or not
  abbrev pub is_option : LabelOf I → Bool
  is_option (kind present) = true
  is_option (kind absent) = true
  is_option _ = false

  -- an optional child that holds this
  abbrev pub option_of : ForestOf I → ForestOf I → ForestOf I
  option_of end others = tree (kind absent) end others
  option_of (tree l children rest) others = tree (kind present) (tree l children rest) others

  -- the nodes in which a judged list may lie
  abbrev pub is_entered : LabelOf I → Bool
  is_entered (kind imports) = true
  is_entered (kind directive_list) = true
  is_entered (kind declarations) = true
  is_entered (at declaration_node s e) = true
  is_entered (kind struct) = true
  is_entered (kind members) = true
  is_entered (kind function) = true
  is_entered (kind parameters) = true
  is_entered (kind compound) = true
  is_entered (kind statements) = true
  is_entered (at statement_node s e) = true
  is_entered (kind compound_statement) = true
  is_entered (kind if_statement) = true
  is_entered (kind if_clause) = true
  is_entered (kind list) = true
  is_entered (kind else_if_clause) = true
  is_entered (kind present) = true
  is_entered (kind absent) = true
  is_entered (kind else_clause) = true
  is_entered (kind switch) = true
  is_entered (kind clauses) = true
  is_entered (kind switch_clause) = true
  is_entered (kind loop) = true
  is_entered (kind continuing) = true
  is_entered (kind for_loop) = true
  is_entered (kind while_loop) = true
  is_entered _ = false

  -- whether the body below a node is judged with what closes it
  abbrev pub holds_body : Bool → LabelOf I → Bool
  holds_body held l = is_closed l || (is_compound l && held)

  module _ (judge : List (Element I) → List (Element I)) where
    -- a judged list by itself
    abbrev pub alone : ForestOf I → ForestOf I
    alone items = back false (judge (elements false items))

    -- a body's statements and what closes them as one list, each going back to its place
    abbrev pub closed_body : LabelOf I → ForestOf I → LabelOf I → ForestOf I → ForestOf I → ForestOf I
    closed_body b (tree a own (tree s items rest)) o last others =
        cond (is_statements s)
        (let kept = judge (elements false items ++ elements true last) in tree b (tree a own (tree s (back false kept) rest)) (option_of (back true kept) others))
        (tree b (tree a own (tree s items rest)) (tree o last others))
    closed_body b body o last others = tree b body (tree o last others)

    -- the children of a loop or a continuing block
    abbrev pub closed : ForestOf I → ForestOf I
    closed (tree a own (tree b body (tree o last others))) =
        tree a own (cond (is_compound b && is_option o) (closed_body b body o last others) (tree b body (tree o last others)))
    closed children = children

    -- the children of a node; `held` where the list of a body is judged with what closes it
    abbrev pub judged : Bool → LabelOf I → ForestOf I → ForestOf I
    judged held l children = cond (is_closed l) (closed children) (cond (is_list l && not (is_statements l && held)) (alone children) children)

    -- every judged list of a forest, innermost first
    abbrev pub through : Bool → ForestOf I → ForestOf I
    through held end = end
    through held (tree l children others) =
        tree l (cond (is_entered l) (judged held l (through (holds_body held l) children)) children) (through held others)
