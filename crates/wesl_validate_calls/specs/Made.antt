-- Calls as the engine keeps them.
use Rattle.std.specs.Prelude.{ℕ, Option, Some, None, List, [], ◌∷◌, flat_map}
use Rattle.wesl_tree_syntax.specs.Tree.{Tree}
use Rattle.wesl_validate_rules.specs.Calls.{CallOf, called_in}
use Rattle.wesl_validate_calls.specs.declared.calls.Call.{Call}

-- the call that a value of the code stands for
abbrev pub call_told : Call → CallOf ℕ
call_told c = record { callee = c.callee; arguments = c.arguments }

-- the list of that call, or the empty list where there is none
abbrev pub one_told : Option Call → List (CallOf ℕ)
one_told None = []
one_told (Some c) = call_told c ∷ []

-- the calls that these nodes are, in their order
abbrev pub calls_among : List Tree → List (CallOf ℕ)
calls_among ts = flat_map (λ t. called_in t.children) ts
