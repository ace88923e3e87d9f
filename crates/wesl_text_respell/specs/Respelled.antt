-- Trees that say the same but for the names of their identifiers, and for the paths before them.
use Rattle.std.specs.Prelude.{◌≡◌, ◌⊎◌, true, codes}
use Rattle.wesl_tree_names.specs.Path.{Text, Path}
use Rattle.wesl_tree_syntax.specs.Tree.{Role, reference, kind, at, ident, path, assignment, end, tree, attributes, expression_node, type_or_identifier, type_expression, present, absent}
use Rattle.wesl_tree_syntax.specs.declared.statement.AssignmentOperator.TheVariants as assignment_operator
use Rattle.wesl_text_form.specs.Names.{is_name}
use Rattle.wesl_text_form.specs.Spelling.{Label, Forest}

-- an identifier keeps its text, or it gets one that is a name
abbrev pub MayBecome : Text → Text → Type 0
MayBecome old new = (is_name new ≡ true) ⊎ (new ≡ old)

-- a name alone, as it stands below the node of an expression
abbrev pub named_by : Text → Forest
named_by t = tree (kind type_or_identifier) (tree (kind type_expression) (tree (kind absent) end (tree (ident reference t) end (tree (kind absent) end end))) end) end

-- and one with a path
abbrev pub qualified_by : Path → Text → Forest
qualified_by p t = tree (kind type_or_identifier) (tree (kind type_expression) (tree (kind present) (tree (path p) end end) (tree (ident reference t) end (tree (kind absent) end end))) end) end

-- one of both
abbrev pub IsNamed : Forest → Type 0
IsNamed f = ((t : Text) × (f ≡ named_by t)) ⊎ ((p : Path) × (t : Text) × (f ≡ qualified_by p t))

-- The second trees are the first, where each identifier may have another name, types may have lost the path that is the first
-- of their fields, and an assignment to a name may discard its value, to `_`.
pub data IsRespelled : Forest → Forest → Type 0 where
  ends : IsRespelled end end
  same : {below others new_below new_others : Forest} (l : Label) → IsRespelled below new_below → IsRespelled others new_others
      → IsRespelled (tree l below others) (tree l new_below new_others)
  renamed : {below others new_below new_others : Forest} (r : Role) (old new : Text) → MayBecome old new
      → IsRespelled below new_below → IsRespelled others new_others
      → IsRespelled (tree (ident r old) below others) (tree (ident r new) new_below new_others)
  unqualified : {fields others new_fields new_others : Forest} (p : Path)
      → IsRespelled fields new_fields → IsRespelled others new_others
      → IsRespelled (tree (kind type_expression) (tree (kind present) (tree (path p) end end) fields) others)
      (tree (kind type_expression) (tree (kind absent) end new_fields) new_others)
  discards : {own target value others new_own new_value new_others : Forest} → IsNamed target
      → IsRespelled own new_own → IsRespelled value new_value → IsRespelled others new_others
      → IsRespelled (tree (assignment assignment_operator.Equal) (tree (kind attributes) own (tree (at expression_node 0 0) target value)) others)
      (tree (assignment assignment_operator.Equal) (tree (kind attributes) new_own (tree (at expression_node 0 0) (named_by (codes "_")) new_value)) new_others)
