-- Statements with so many levels in them.
use Rattle.std.specs.Prelude.{ℕ, Bool, false, List, length, Option, Some, None, not}
use Rattle.std.specs.Box.{box_value}
use Rattle.std.specs.Global.{Box}
use Rattle.wesl_tree_syntax.specs.View.{statement_tree}
use Rattle.wesl_tree_syntax.specs.declared.statement.Statement.{Statement}
use Rattle.wesl_tree_syntax.specs.declared.span.Spanned.{Spanned}
use Rattle.wesl_tree_syntax.specs.Tree.{Kind, Tree, kind, list, compound, statements}
use Rattle.wesl_text_tokens.specs.declared.symbol.Symbol.TheVariants as is
use Rattle.wesl_text_tokens.specs.Tokens.{Token}
use Rattle.wesl_text_form.specs.Spelling.{is_end}
use Rattle.wesl_text_form.specs.Productions.{Sort, a_bare_statement, a_statement, Row, attrs, nothing, run, sym}
use Rattle.wesl_text_reading.specs.Leaves.{after, where_so}
use Rattle.wesl_text_reading.specs.Reading.{Reader, all_of, any, at_level, begins_child, behind_attributes, node_of, ranked, read_node, read_part, read_row, read_selectors}
use Rattle.wesl_text_read.specs.declared.reader.Reader.{Reader as TokenReader}
use Rattle.wesl_text_read.specs.declared.reader.Fault.{Fault}
use Rattle.wesl_text_read.specs.Leads.{Tells, is_memory}
use Rattle.wesl_text_read.specs.Levels.{inner}

-- ---- what is ahead

-- whether a fault of the text is noted
abbrev pub is_text_fault : Option Fault → Bool
is_text_fault None = false
is_text_fault (Some f) = not (is_memory f)

-- what stands behind the attributes that come first is told, and no token is read; nothing stands behind what are no attributes
abbrev pub TellsBehind : List Token → TokenReader → TokenReader → Type 0
TellsBehind behind old new = Tells (λ ts. (behind_attributes (inner old.levels) ts, ts)) behind old new

-- whether a node of a sort begins is told, and no token is read
abbrev pub Foresees : Sort → Bool → TokenReader → TokenReader → Type 0
Foresees s b old new = Tells (λ ts. (begins_child (inner old.levels) s ts, ts)) b old new

-- ---- statements

-- the nodes that stand in a statement
abbrev pub within : ℕ → Sort → Reader
within n = ranked (at_level n any) 4

-- a statement of a kind, from its attributes on
abbrev pub statement_at : ℕ → Kind → Reader
statement_at n k ts = read_node (within n) (read_row (within n) (read_part (within n))) a_bare_statement (Some (kind k)) ts

-- ---- parts of statements

-- the body of a loop without its `}`
abbrev pub block_row : Row
block_row = attrs (sym is.BraceLeft (run statements a_statement nothing))

abbrev pub block_at : ℕ → Reader
block_at n ts = after (read_row (within n) (read_part (within n)) block_row ts) (λ f us. Some (node_of (kind compound) f, us))

-- its statements, which stand one level down, as one tree
abbrev pub lower_statements_at : ℕ → Reader
lower_statements_at n ts =
    after (all_of (begins_child (inner n) a_statement) (at_level n any a_statement) (length ts) ts)
    (λ f us. Some (node_of (kind statements) f, us))

-- the selectors of a clause, as one tree
abbrev pub selectors_at : ℕ → Reader
selectors_at n ts = after (read_selectors (inner n) ts) (λ f us. Some (node_of (kind list) f, us))

-- the same, where there is one at least
abbrev pub some_selectors_at : ℕ → Reader
some_selectors_at n ts = after (selectors_at n ts) (λ t us. where_so (not (is_end t.children)) t us)

-- a statement in a box
abbrev pub boxed_statement : Box (Spanned Statement) → Tree
boxed_statement b = statement_tree (box_value b)
