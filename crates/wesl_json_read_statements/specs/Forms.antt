-- What is read of an object by the word at `k`.
use Rattle.std.specs.Prelude.{List, Bool, false, Some, None, codes, option_and_then}
use Rattle.std.specs.Str.{bytes_eq}
use Rattle.serde_json.specs.Data.{Data}
use Rattle.serde_json.specs.Find.{get, as_str}
use Rattle.wesl_tree_names.specs.Path.{Text}
use Rattle.wesl_tree_syntax.specs.Tree.{Kind, kind, Tree, list, attributes, clauses, statements, statement_node, compound_statement, compound, increment, decrement, if_statement, if_clause, switch, loop, for_loop, while_loop, break, continue, return, discard, call_statement, declaration, const_assert, void, const_kind, override_kind, let_kind, var_kind}
use Rattle.wesl_json_form.specs.Schema.{Form, Head, fixed, chosen, Row, nothing, needs, may, many, inner, Node, node, list_of, a_body, a_call, a_case, a_clause, a_continuing, an_elif, an_else, a_statement, an_attribute}
use Rattle.wesl_json_form.specs.Words.{assignment_words}
use Rattle.wesl_json_form.specs.Nodes.{expression, one_expression, operand, attrs, body_row, condition_row, declared, space_row}
use Rattle.wesl_json_read.specs.Forms.{ReadsWorded, worded_node, worded_row}
use Rattle.wesl_json_read_statements.specs.declared.words.ValueWord.{ValueWord}
use Rattle.wesl_json_read_statements.specs.declared.words.ValueWord.TheVariants as values
use Rattle.wesl_json_read_statements.specs.declared.words.DeclaredWord.{DeclaredWord}
use Rattle.wesl_json_read_statements.specs.declared.words.DeclaredWord.TheVariants as declareds
use Rattle.wesl_json_read_statements.specs.declared.words.StatementWord.{StatementWord}
use Rattle.wesl_json_read_statements.specs.declared.words.StatementWord.TheVariants as stated
use Rattle.wesl_json_read_statements.specs.declared.words.StepWord.{StepWord}
use Rattle.wesl_json_read_statements.specs.declared.words.StepWord.TheVariants as steps
use Rattle.wesl_json_read_statements.specs.declared.words.JumpWord.{JumpWord}
use Rattle.wesl_json_read_statements.specs.declared.words.JumpWord.TheVariants as jumps

-- ---- lists

-- the forms of lists: of statements, of the cases of a clause, of `else if` branches, of the clauses of a `switch`
abbrev pub some_statements : Form
some_statements = list_of statements a_statement

abbrev pub some_cases : Form
some_cases = list_of list a_case

abbrev pub some_elifs : Form
some_elifs = list_of list an_elif

abbrev pub some_clauses : Form
some_clauses = list_of clauses a_clause

-- ---- what stands in modules and in functions

-- the words of the declarations of values: of `const`, `override` and `let`
abbrev pub value_text : ValueWord → Text
value_text values.Const = codes "const"
value_text values.Override = codes "override"
value_text values.Let = codes "let"

-- the kinds of these declarations
abbrev pub value_kind : ValueWord → Kind
value_kind values.Const = const_kind
value_kind values.Override = override_kind
value_kind values.Let = let_kind

-- the words of what may stand in modules and in functions: declarations, assertions and voids
abbrev pub declared_text : DeclaredWord → Text
declared_text (declareds.Value w) = value_text w
declared_text declareds.Var = codes "var"
declared_text declareds.Assert = codes "assert"
declared_text declareds.Void = codes "void"

-- the kinds of their nodes
abbrev pub declared_kind : DeclaredWord → Kind
declared_kind (declareds.Value w) = declaration
declared_kind declareds.Var = declaration
declared_kind declareds.Assert = const_assert
declared_kind declareds.Void = void

-- their members besides `k` and `span`, in document order; only a variable has `space` and `access`, a void has none
abbrev pub declared_row : DeclaredWord → Row
declared_row (declareds.Value w) = declared (value_kind w) nothing
declared_row declareds.Var = declared var_kind space_row
declared_row declareds.Assert = attrs operand
declared_row declareds.Void = nothing

module _ (spans : Bool) where
  -- the node that an object with this word is, as a global declaration or as a statement: the outer kind says which
  abbrev pub declared_of : Kind → DeclaredWord → Node
  declared_of outer w = worded_node spans outer (declared_text w) (fixed (kind (declared_kind w))) (declared_row w)

  -- an object has only the members of this word, and is read as the tree, but for its span
  abbrev pub ReadsDeclared : DeclaredWord → Data → Tree → List Text → List Text → Type 0
  ReadsDeclared w = ReadsWorded spans (declared_text w) (fixed (kind (declared_kind w))) (declared_row w)

  -- the members of an object with this word: `k`, `span` where spans are read, and its own
  abbrev pub declared_worded : DeclaredWord → Row
  declared_worded w = worded_row spans (declared_text w) (fixed (kind (declared_kind w))) (declared_row w)

-- ---- statements

-- the word at `k` of each kind of statement
abbrev pub statement_text : StatementWord → Text
statement_text stated.Block = codes "block"
statement_text stated.Assign = codes "assign"
statement_text stated.Increment = codes "inc"
statement_text stated.Decrement = codes "dec"
statement_text stated.If = codes "if"
statement_text stated.Switch = codes "switch"
statement_text stated.Loop = codes "loop"
statement_text stated.For = codes "for"
statement_text stated.While = codes "while"
statement_text stated.Break = codes "break"
statement_text stated.Continue = codes "continue"
statement_text stated.Discard = codes "discard"
statement_text stated.Return = codes "return"
statement_text stated.Call = codes "call"
statement_text (stated.Declared w) = declared_text w

-- the label of its node: a kind, and of an assignment the operator whose word stands at `op`
abbrev pub statement_head : StatementWord → Head
statement_head stated.Block = fixed (kind compound_statement)
statement_head stated.Assign = chosen (codes "op") assignment_words
statement_head stated.Increment = fixed (kind increment)
statement_head stated.Decrement = fixed (kind decrement)
statement_head stated.If = fixed (kind if_statement)
statement_head stated.Switch = fixed (kind switch)
statement_head stated.Loop = fixed (kind loop)
statement_head stated.For = fixed (kind for_loop)
statement_head stated.While = fixed (kind while_loop)
statement_head stated.Break = fixed (kind break)
statement_head stated.Continue = fixed (kind continue)
statement_head stated.Discard = fixed (kind discard)
statement_head stated.Return = fixed (kind return)
statement_head stated.Call = fixed (kind call_statement)
statement_head (stated.Declared w) = fixed (kind (declared_kind w))

-- its members besides `k`, `op` and `span`, in document order
abbrev pub statement_row : StatementWord → Row
statement_row stated.Block = inner (fixed (kind compound)) body_row nothing
statement_row stated.Assign = attrs (needs (codes "lhs") expression (one_expression (codes "rhs")))
statement_row stated.Increment = attrs operand
statement_row stated.Decrement = attrs operand
statement_row stated.If = attrs (inner (fixed (kind if_clause)) condition_row (many (codes "elifs") (list_of list an_elif) (may (codes "else") (node an_else) nothing)))
statement_row stated.Switch = attrs (needs (codes "expr") expression (many (codes "body_attrs") (list_of attributes an_attribute) (many (codes "clauses") (list_of clauses a_clause) nothing)))
statement_row stated.Loop = attrs (needs (codes "body") (node a_body) (may (codes "continuing") (node a_continuing) nothing))
statement_row stated.For = attrs (may (codes "init") (node a_statement) (may (codes "cond") expression (may (codes "update") (node a_statement) (needs (codes "body") (node a_body) nothing))))
statement_row stated.While = attrs condition_row
statement_row stated.Break = attrs nothing
statement_row stated.Continue = attrs nothing
statement_row stated.Discard = attrs nothing
statement_row stated.Return = attrs (may (codes "expr") expression nothing)
statement_row stated.Call = attrs (needs (codes "call") (node a_call) nothing)
statement_row (stated.Declared w) = declared_row w

module _ (spans : Bool) where
  -- the node that an object with this word of a statement is
  abbrev pub statement_of : StatementWord → Node
  statement_of w = worded_node spans statement_node (statement_text w) (statement_head w) (statement_row w)

  -- an object has only the members of a statement with this word, and is read as the tree, but for its span
  abbrev pub ReadsStatement : StatementWord → Data → Tree → List Text → List Text → Type 0
  ReadsStatement w = ReadsWorded spans (statement_text w) (statement_head w) (statement_row w)

-- the words of `++` and `--`, which have attributes and an operand
abbrev pub step_word : StepWord → StatementWord
step_word steps.Increment = stated.Increment
step_word steps.Decrement = stated.Decrement

-- the words of the statements that have attributes alone: `break`, `continue` and `discard`
abbrev pub jump_word : JumpWord → StatementWord
jump_word jumps.Break = stated.Break
jump_word jumps.Continue = stated.Continue
jump_word jumps.Discard = stated.Discard

-- ---- the values of `case`

-- the word at `k` is `default`
abbrev pub has_default : Data → Bool
has_default d = elim (option_and_then as_str (get (codes "k") d)) as (λ _. Bool) [ None ↦ false | Some s ↦ bytes_eq s (codes "default") ]
