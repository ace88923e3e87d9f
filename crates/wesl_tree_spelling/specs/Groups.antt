-- Groups of statements, by the label of their tree. Each group is compared by a function of its own.
use Rattle.std.specs.Prelude.{Bool, true, false}
use Rattle.wesl_tree_syntax.specs.Tree.{Label, kind, assignment, increment, decrement, call_statement, if_statement, switch, loop, while_loop, for_loop, break, continue, return, discard}

-- statements that leave the place where they stand
abbrev pub is_jump : Label → Bool
is_jump (kind break) = true
is_jump (kind continue) = true
is_jump (kind return) = true
is_jump (kind discard) = true
is_jump _ = false

-- statements that count one up or down
abbrev pub is_step : Label → Bool
is_step (kind increment) = true
is_step (kind decrement) = true
is_step _ = false

-- assignments and calls
abbrev pub is_action : Label → Bool
is_action (assignment o) = true
is_action (kind call_statement) = true
is_action _ = false

-- branches by a condition
abbrev pub is_if : Label → Bool
is_if (kind if_statement) = true
is_if _ = false

-- branches by a value
abbrev pub is_switch : Label → Bool
is_switch (kind switch) = true
is_switch _ = false

-- loops that count nothing
abbrev pub is_plain_loop : Label → Bool
is_plain_loop (kind loop) = true
is_plain_loop (kind while_loop) = true
is_plain_loop _ = false

-- loops with a header
abbrev pub is_for : Label → Bool
is_for (kind for_loop) = true
is_for _ = false
