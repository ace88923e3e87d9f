-- Statements that assign, at any depth.
use Rattle.std.specs.Prelude.{Bool, true, not, ◌&&◌, ◌||◌}
use Rattle.wesl_tree_syntax.specs.Tree.{at, end, tree, statement_node}
use Rattle.wesl_text_form.specs.Spelling.{Label, Forest, is_end, below_first}
use Rattle.wesl_text_left.specs.Apart.{has_target, ends_before_target}

-- whether each statement that assigns among these trees, and in them at any depth, has attributes that end before its target
abbrev pub all_end_within : Forest → Bool
all_end_within end = true
all_end_within (tree l children others) = ends_before_target l children && (all_end_within children && all_end_within others)

-- whether a node has no attributes, if it is a statement that assigns
abbrev pub is_bare : Label → Forest → Bool
is_bare (at statement_node start finish) (tree l children others) = not (has_target l) || is_end (below_first children)
is_bare l children = true

-- whether each node among these trees, and in them at any depth, is so
abbrev pub all_bare_within : Forest → Bool
all_bare_within end = true
all_bare_within (tree l children others) = is_bare l children && (all_bare_within children && all_bare_within others)
