-- The nodes of the words that are read.
use Rattle.std.specs.Prelude.{◌≡◌, Bool, true, false, List, Option, Some, None, codes, option_and_then}
use Rattle.serde_json.specs.Data.{Data}
use Rattle.serde_json.specs.Find.{get, as_str}
use Rattle.wesl_tree_names.specs.Path.{Text}
use Rattle.wesl_tree_syntax.specs.Tree.{Kind, kind, Tree, before, end, truth, expression_node, literal, parenthesized, named_component, indexing, call_expression, call, list, attributes, attribute_node, align, binding, blend_src, group, id, location, size, if_attribute, elif_attribute, workgroup_size, builtin, interpolate, diagnostic, custom, const_attribute, invariant_attribute, must_use, vertex, fragment, compute, publish, else_attribute, type_or_identifier, type_expression}
use Rattle.wesl_json_form.specs.Schema.{Head, SpelledLabel, Words, fixed, chosen, placed, Row, nothing, marked, needs, may, given, inner, beside, a_span, Form, Node, leaf, list_of, look, a_literal, a_name, a_template_argument, an_attribute, an_expression}
use Rattle.wesl_json_form.specs.Words.{unary_words, binary_words}
use Rattle.wesl_json_form.specs.Nodes.{all_attribute_words, all_expression_words, expression, one_expression, call_row, names_row, nodes_of, severity_row, type_or_identifier_node, type_row}
use Rattle.wesl_json_form.specs.Reading.{known_keys, word_in}
use Rattle.wesl_json_form.specs.Keys.{has_only}
use Rattle.wesl_json_read.specs.Numbers.{ReadsRows}
use Rattle.wesl_json_read.specs.declared.words.ExpressionWord.{ExpressionWord}
use Rattle.wesl_json_read.specs.declared.words.ExpressionWord.TheVariants as words
use Rattle.wesl_json_read.specs.declared.words.OperandWord.{OperandWord}
use Rattle.wesl_json_read.specs.declared.words.OperandWord.TheVariants as operands
use Rattle.wesl_json_read.specs.declared.words.PlainWord.{PlainWord}
use Rattle.wesl_json_read.specs.declared.words.PlainWord.TheVariants as plains
use Rattle.wesl_json_read.specs.declared.words.AttributeWord.{AttributeWord}
use Rattle.wesl_json_read.specs.declared.words.AttributeWord.TheVariants as attribs

-- the object has this word at `k`
abbrev pub HasWord : Text → Data → Type 0
HasWord w d = option_and_then as_str (get (codes "k") d) ≡ Some w

-- the word at `k` of each kind of expression, those of truth values in form 2 alone; a type or an identifier has none
abbrev pub expression_text : ExpressionWord → Text
expression_text words.Literal = codes "lit"
expression_text (words.Truth true) = codes "true"
expression_text (words.Truth false) = codes "false"
expression_text words.Parenthesized = codes "paren"
expression_text words.NamedComponent = codes "field"
expression_text words.Indexing = codes "index"
expression_text words.Unary = codes "unary"
expression_text words.Binary = codes "binary"
expression_text words.FunctionCall = codes "call"

-- the label of its node: a kind, and of an operation the operator whose word stands at `op`
abbrev pub expression_head : ExpressionWord → Head
expression_head words.Literal = fixed (kind literal)
expression_head (words.Truth b) = fixed (kind literal)
expression_head words.Parenthesized = fixed (kind parenthesized)
expression_head words.NamedComponent = fixed (kind named_component)
expression_head words.Indexing = fixed (kind indexing)
expression_head words.Unary = chosen (codes "op") unary_words
expression_head words.Binary = chosen (codes "op") binary_words
expression_head words.FunctionCall = fixed (kind call_expression)

-- its members besides `k`, `op` and `span`, in document order; a truth value has none, its word says which it is
abbrev pub expression_row : ExpressionWord → Row
expression_row words.Literal = needs (codes "text") (leaf a_literal) nothing
expression_row (words.Truth b) = given (truth b) nothing
expression_row words.Parenthesized = one_expression (codes "expr")
expression_row words.NamedComponent = needs (codes "base") expression (needs (codes "name") (leaf a_name) nothing)
expression_row words.Indexing = needs (codes "base") expression (one_expression (codes "index"))
expression_row words.Unary = one_expression (codes "expr")
expression_row words.Binary = needs (codes "left") expression (one_expression (codes "right"))
expression_row words.FunctionCall = inner (fixed (kind call)) call_row nothing

-- ---- attributes

-- the words of the attributes that have one operand, an expression
abbrev pub operand_text : OperandWord → Text
operand_text operands.Align = codes "align"
operand_text operands.Binding = codes "binding"
operand_text operands.BlendSrc = codes "blend_src"
operand_text operands.Group = codes "group"
operand_text operands.Id = codes "id"
operand_text operands.Location = codes "location"
operand_text operands.Size = codes "size"
operand_text operands.If = codes "if"
operand_text operands.Elif = codes "elif"

-- the kinds of their nodes
abbrev pub operand_kind : OperandWord → Kind
operand_kind operands.Align = align
operand_kind operands.Binding = binding
operand_kind operands.BlendSrc = blend_src
operand_kind operands.Group = group
operand_kind operands.Id = id
operand_kind operands.Location = location
operand_kind operands.Size = size
operand_kind operands.If = if_attribute
operand_kind operands.Elif = elif_attribute

-- the words of the attributes without operand, which stand alone or, in form 2, at `k` of an object
abbrev pub plain_text : PlainWord → Text
plain_text plains.Const = codes "const"
plain_text plains.Invariant = codes "invariant"
plain_text plains.MustUse = codes "must_use"
plain_text plains.Vertex = codes "vertex"
plain_text plains.Fragment = codes "fragment"
plain_text plains.Compute = codes "compute"
plain_text plains.Publish = codes "publish"
plain_text plains.Else = codes "else"

-- the kinds of their nodes
abbrev pub plain_kind : PlainWord → Kind
plain_kind plains.Const = const_attribute
plain_kind plains.Invariant = invariant_attribute
plain_kind plains.MustUse = must_use
plain_kind plains.Vertex = vertex
plain_kind plains.Fragment = fragment
plain_kind plains.Compute = compute
plain_kind plains.Publish = publish
plain_kind plains.Else = else_attribute

-- the word of each attribute, at `k` where it is an object
abbrev pub attribute_text : AttributeWord → Text
attribute_text (attribs.Operand w) = operand_text w
attribute_text attribs.WorkgroupSize = codes "workgroup_size"
attribute_text attribs.Builtin = codes "builtin"
attribute_text attribs.Interpolate = codes "interpolate"
attribute_text attribs.Diagnostic = codes "diagnostic"
attribute_text attribs.Custom = codes "custom"
attribute_text (attribs.Plain w) = plain_text w

-- the kind of its node
abbrev pub attribute_kind : AttributeWord → Kind
attribute_kind (attribs.Operand w) = operand_kind w
attribute_kind attribs.WorkgroupSize = workgroup_size
attribute_kind attribs.Builtin = builtin
attribute_kind attribs.Interpolate = interpolate
attribute_kind attribs.Diagnostic = diagnostic
attribute_kind attribs.Custom = custom
attribute_kind (attribs.Plain w) = plain_kind w

-- its members besides `k` and `span`, in document order; an attribute without operand has none
abbrev pub attribute_row : AttributeWord → Row
attribute_row (attribs.Operand w) = one_expression (codes "expr")
attribute_row attribs.WorkgroupSize = needs (codes "x") expression (may (codes "y") expression (may (codes "z") expression nothing))
attribute_row attribs.Builtin = needs (codes "name") (leaf a_name) nothing
attribute_row attribs.Interpolate = names_row
attribute_row attribs.Diagnostic = severity_row
attribute_row attribs.Custom = needs (codes "name") (leaf a_name) (may (codes "args") (list_of list an_expression) nothing)
attribute_row (attribs.Plain w) = nothing

-- ---- lists

-- the forms of lists: of attributes, of expressions, of template arguments
abbrev pub some_attributes : Form
some_attributes = list_of attributes an_attribute

abbrev pub some_expressions : Form
some_expressions = list_of list an_expression

abbrev pub some_arguments : Form
some_arguments = list_of list a_template_argument

-- the label that the text at k stands for in the table of words; none where it is no such word, or is not there
abbrev pub word_at : Words → Text → Data → Option SpelledLabel
word_at words k d = option_and_then (word_in words) (get k d)

-- ---- nodes

module _ (spans : Bool) where
  -- the row of an object with a word, and with a span where spans are read
  abbrev pub worded_row : Text → Head → Row → Row
  worded_row w h row = beside spans a_span (marked (codes "k") w (inner h row nothing))

  -- an object with a word, as a node that has a span
  abbrev pub worded_node : Kind → Text → Head → Row → Node
  worded_node outer w h row = record { head = placed spans outer; row = worded_row w h row }

  -- an object has only the members of its word, and they are read as the tree
  pub record ReadsWorded (w : Text) (h : Head) (row : Row) (d : Data) (t : Tree) (old new : List Text) : Type 0 where
    pub known : has_only (known_keys (worded_row w h row) d) d ≡ true
    pub inside : ReadsRows spans (inner h row nothing) d (before t end) old new

  -- an object has only the members of a type, which is read as the tree
  pub record ReadsTypeOrIdentifier (d : Data) (t : Tree) (old new : List Text) : Type 0 where
    pub known : has_only (known_keys (type_or_identifier_node spans).row d) d ≡ true
    pub inside : ReadsRows spans (inner (fixed (kind type_or_identifier)) (inner (fixed (kind type_expression)) type_row nothing) nothing) d (before t end) old new

  -- the node that an object with this word of an expression is
  abbrev pub expression_of : ExpressionWord → Node
  expression_of w = worded_node expression_node (expression_text w) (expression_head w) (expression_row w)

  -- an object has only the members of an expression with this word, and is read as the tree, but for its span
  abbrev pub ReadsExpression : ExpressionWord → Data → Tree → List Text → List Text → Type 0
  ReadsExpression w = ReadsWorded (expression_text w) (expression_head w) (expression_row w)

  -- an object has this word, which names its node, or it has none
  abbrev pub HasExpressionWord : Option ExpressionWord → Data → Type 0
  HasExpressionWord None d = get (codes "k") d ≡ None
  HasExpressionWord (Some w) d = HasWord (expression_text w) d × (nodes_of spans an_expression d ≡ Some (expression_of w))

  -- an object with a word is read as the expression, and one without as a type or an identifier, but for its span
  abbrev pub ReadsExpressionOf : Option ExpressionWord → Data → Tree → List Text → List Text → Type 0
  ReadsExpressionOf None = ReadsTypeOrIdentifier
  ReadsExpressionOf (Some w) = ReadsExpression w

  -- the members that it may have: those of its word, or those of a type or an identifier
  abbrev pub row_of_expression : Option ExpressionWord → Row
  row_of_expression None = (type_or_identifier_node spans).row
  row_of_expression (Some w) = (expression_of w).row

  -- the node that an object with this word of an attribute is
  abbrev pub attribute_of : AttributeWord → Node
  attribute_of w = worded_node attribute_node (attribute_text w) (fixed (kind (attribute_kind w))) (attribute_row w)

  -- an object has only the members of an attribute with this word, and is read as the tree, but for its span
  abbrev pub ReadsAttribute : AttributeWord → Data → Tree → List Text → List Text → Type 0
  ReadsAttribute w = ReadsWorded (attribute_text w) (fixed (kind (attribute_kind w))) (attribute_row w)

  -- an object has this word, which names its node; that of an attribute without operand does so in form 2 alone
  abbrev pub HasAttributeWord : AttributeWord → Data → Type 0
  HasAttributeWord w d = HasWord (attribute_text w) d × (nodes_of spans an_attribute d ≡ Some (attribute_of w))

  -- the node that a value names as the word of an expression; none where it is no such word
  abbrev pub expression_named : Data → Option Node
  expression_named d = option_and_then (look (all_expression_words spans)) (as_str d)

  -- the node that a value names as the word of an attribute; none where it is no such word
  abbrev pub attribute_named : Data → Option Node
  attribute_named d = option_and_then (look (all_attribute_words spans)) (as_str d)
