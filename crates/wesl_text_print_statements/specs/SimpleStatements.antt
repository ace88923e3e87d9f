-- Statements that may stand in a `for`, and what is assigned to.
use Rattle.std.specs.Prelude.{List, [], ◌∷◌, if◌then◌else◌, Some, Vec, codes}
use Rattle.std.specs.declared.alloc.Global.{Global}
use Rattle.wesl_tree_names.specs.Path.{Text}
use Rattle.wesl_tree_syntax.specs.Tree.{Tree, assignment, at, expression_node, forest_of, respell_label}
use Rattle.wesl_tree_syntax.specs.Unit.{name_in}
use Rattle.wesl_tree_syntax.specs.View.{attributes_tree, expression_tree, statement_view}
use Rattle.wesl_tree_syntax.specs.declared.span.Spanned.{Spanned}
use Rattle.wesl_tree_syntax.specs.declared.attribute.Attribute.{Attribute}
use Rattle.wesl_tree_syntax.specs.declared.expression.Expression.{Expression}
use Rattle.wesl_tree_syntax.specs.declared.statement.AssignmentOperator.{AssignmentOperator}
use Rattle.wesl_tree_syntax.specs.declared.statement.AssignmentOperator.TheVariants as operators
use Rattle.wesl_tree_syntax.specs.declared.statement.Statement.{Statement}
use Rattle.wesl_text_tokens.specs.declared.symbol.Symbol.{Symbol}
use Rattle.wesl_text_form.specs.Productions.{a_bare_statement}
use Rattle.wesl_text_form.specs.Spelling.{Slots, followed, is_simple, is_wildcard, named, signed}
use Rattle.wesl_text_print.specs.Printing.{expression_slots, only_if}
use Rattle.wesl_text_print_statements.specs.Parts.{attributes_slots}
use Rattle.wesl_text_operands.specs.Targets.{are_apart_in, is_target_in, spelled_in}
use Rattle.wesl_text_print_statements.specs.Variables.{unended_in}

-- an assignment as a tree
abbrev pub assignment_tree : Vec (Spanned Attribute) Global → AssignmentOperator → Spanned Expression → Spanned Expression → Tree
assignment_tree a o l r = record { label = assignment o; children = forest_of (attributes_tree a ∷ expression_tree l ∷ expression_tree r ∷ []) }

-- the same without its `;`
abbrev pub unended_assignment : List Text → Vec (Spanned Attribute) Global → AssignmentOperator → Spanned Expression → Spanned Expression → Slots
unended_assignment names a o l r = unended_in names a_bare_statement (assignment_tree a o l r)

-- what is assigned to; none where the expression leads to no place
abbrev pub target_slots : List Text → Expression → Slots
target_slots names x = only_if (is_target_in names x) (expression_slots names x)

-- the same of an assignment: `=` assigns also to `_`
abbrev pub assigned_slots : List Text → AssignmentOperator → Expression → Slots
assigned_slots names operators.Equal x = if is_wildcard (at expression_node 0 0) (spelled_in names x) then Some (named (codes "_") ∷ []) else target_slots names x
assigned_slots names o x = target_slots names x

-- an increment or a decrement without its `;`, by its sign
abbrev pub stepped_slots : List Text → Vec (Spanned Attribute) Global → Expression → Symbol → Slots
stepped_slots names a x s = only_if (are_apart_in names a x) (followed (attributes_slots names a) (followed (target_slots names x) (Some (signed s ∷ []))))

-- a statement that may stand in a `for`, without its `;`; none where it may not
abbrev pub simple_slots : List Text → Statement → Slots
simple_slots names s = only_if (is_simple (Some (respell_label (name_in names) (statement_view s).label))) (unended_in names a_bare_statement (statement_view s))
