-- Where the attributes of a statement end.
use Rattle.std.specs.Prelude.{Bool, true, false, not, ◌&&◌, ◌||◌}
use Rattle.wesl_tree_syntax.specs.Tree.{kind, at, assignment, end, tree, statement_node, increment, decrement}
use Rattle.wesl_text_form.specs.Productions.{Sort, an_import, a_directive, a_declaration, a_member, a_parameter, a_statement, a_clause, a_continuing, a_break_if}
use Rattle.wesl_text_form.specs.Spelling.{Label, Forest, are_apart}

-- the nodes of lists that are judged, and those that close one
abbrev pub is_of_list : Sort → Bool
is_of_list an_import = true
is_of_list a_directive = true
is_of_list a_declaration = true
is_of_list a_member = true
is_of_list a_parameter = true
is_of_list a_statement = true
is_of_list a_clause = true
is_of_list a_continuing = true
is_of_list a_break_if = true
is_of_list s = false

-- assignments, increments and decrements
abbrev pub has_target : Label → Bool
has_target (assignment o) = true
has_target (kind increment) = true
has_target (kind decrement) = true
has_target l = false

-- Whether the attributes of a node end where its target begins, if it is a statement that has one. Of `@a @if(x) (y) = 1;`, where
-- `x` is true, is left `@a (y) = 1;`, whose attributes do not: there `(y)` reads as operands of `@a`.
abbrev pub ends_before_target : Label → Forest → Bool
ends_before_target (at statement_node start finish) (tree l children others) = not (has_target l) || are_apart children
ends_before_target l children = true

-- the attributes of each of these nodes do
abbrev pub all_end_before_targets : Forest → Bool
all_end_before_targets end = true
all_end_before_targets (tree l children others) = ends_before_target l children && all_end_before_targets others
