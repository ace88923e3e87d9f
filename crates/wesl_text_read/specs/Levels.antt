-- The reading of expressions with so many levels in them, part by part.
use Rattle.std.specs.Prelude.{ℕ, Bool, List, [], ◌∷◌, Option, Some, None, option_and_then}
use Rattle.wesl_tree_names.specs.Path.{Text}
use Rattle.wesl_tree_syntax.specs.declared.expression.BinaryOperator.{BinaryOperator}
use Rattle.wesl_tree_syntax.specs.declared.expression.UnaryOperator.{UnaryOperator}
use Rattle.wesl_tree_syntax.specs.Tree.{TreeOf, kind, unary, binary, before, end, branch, leaf as tree_leaf, named_component, indexing, parenthesized}
use Rattle.wesl_text_tokens.specs.Tokens.{Token, symbol}
use Rattle.wesl_text_tokens.specs.declared.symbol.Symbol.TheVariants as is
use Rattle.wesl_text_form.specs.Slots.{behind_token}
use Rattle.wesl_text_form.specs.Operators.{Class, is_tight, operator_class, takes_right}
use Rattle.wesl_text_form.specs.Productions.{Sort, a_bare_expression, an_expression, a_name}
use Rattle.wesl_text_reading.specs.FirstTokens.{behind_first}
use Rattle.wesl_text_reading.specs.Leaves.{Read, after, read_leaf}
use Rattle.wesl_text_reading.specs.Reading.{Reader, any, at_level, expression, go_on, node, node_of, operand, posts, ranked}

-- the nodes of a sort that stand in an operand with n levels in it, and the expressions in it:
abbrev pub inner : ℕ → Sort → Reader
inner n = ranked (at_level n any) 6

abbrev pub deeper : ℕ → (Class → Bool) → Reader
deeper n q us = at_level n q an_expression us

-- an operand
abbrev pub operand_at : ℕ → Reader
operand_at n = operand (inner n) (deeper n) n

-- an operand without operators, and without `.` and `[..]`
abbrev pub bare_at : ℕ → Reader
bare_at n = node (inner n) a_bare_expression

-- `.` and `[..]` that go on behind an expression
abbrev pub posts_at : ℕ → ℕ → TreeOf Text → Reader
posts_at n = posts (inner n) (deeper n)

-- operations that go on behind an expression
abbrev pub operations_at : ℕ → (Class → Bool) → ℕ → TreeOf Text → Reader
operations_at n = go_on (inner n) (deeper n)

-- the tokens behind an operator: an operation of an expression and what stands behind it
abbrev pub operation_at : ℕ → BinaryOperator → TreeOf Text → Reader
operation_at n o l ts =
    after (deeper n (takes_right (operator_class o)) (behind_first ts))
    (λ r us. Some (expression (node_of (binary o) (before l (before r end))), us))

-- a unary operator's operand
abbrev pub prefixed_at : ℕ → UnaryOperator → Reader
prefixed_at n o ts =
    after (deeper n is_tight (behind_first ts)) (λ e us. Some (expression (node_of (unary o) (before e end)), us))

-- the tokens behind `.`, and behind `[`: what goes on behind an expression, and what is left
abbrev pub component_of : TreeOf Text → Reader
component_of e ts =
    after (read_leaf a_name ts)
    (λ l us. Some (expression (node_of (kind named_component) (before e (before (tree_leaf l) end))), us))

abbrev pub indexing_at : ℕ → TreeOf Text → Reader
indexing_at n e ts =
    after (deeper n any ts) (λ i us.
    option_and_then (λ vs. Some (expression (node_of (kind indexing) (before e (before i end))), vs))
    (behind_token (symbol is.BracketRight) us))

-- one `.` or `[..]` behind an expression
abbrev pub post_at : ℕ → TreeOf Text → Reader
post_at n e (symbol is.Period ∷ ts) = component_of e ts
post_at n e (symbol is.BracketLeft ∷ ts) = indexing_at n e ts
post_at n e ts = None

-- an expression in parentheses, with them
abbrev pub enclosed_at : ℕ → Reader
enclosed_at n ts =
    option_and_then (λ us. after (deeper n any us) (λ e vs.
    option_and_then (λ ws. Some (branch parenthesized (e ∷ []), ws)) (behind_token (symbol is.ParenRight) vs)))
    (behind_token (symbol is.ParenLeft) ts)
