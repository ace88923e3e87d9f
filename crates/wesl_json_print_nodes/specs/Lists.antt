-- What the nodes of a list are written as: its items, in the order of the nodes.
use Rattle.std.specs.Prelude.{List, Bool, Vec}
use Rattle.std.specs.declared.alloc.Global.{Global}
use Rattle.serde_json.specs.Data.{Items}
use Rattle.wesl_tree_names.specs.Path.{Text}
use Rattle.wesl_tree_syntax.specs.Tree.{clauses, list, member_node, members, parameters, statements}
use Rattle.wesl_tree_syntax.specs.View.{argument_view, attributes_tree, clause_view, declarations_tree, else_if_view, expression_tree, listed, member_view, parameter_view, placed, selector_view, statement_tree}
use Rattle.wesl_tree_syntax.specs.declared.attribute.Attribute.{Attribute}
use Rattle.wesl_tree_syntax.specs.declared.declaration.FormalParameter.{FormalParameter}
use Rattle.wesl_tree_syntax.specs.declared.declaration.GlobalDeclaration.{GlobalDeclaration}
use Rattle.wesl_tree_syntax.specs.declared.declaration.StructMember.{StructMember}
use Rattle.wesl_tree_syntax.specs.declared.expression.Expression.{Expression}
use Rattle.wesl_tree_syntax.specs.declared.expression.TemplateArg.{TemplateArg}
use Rattle.wesl_tree_syntax.specs.declared.span.Spanned.{Spanned}
use Rattle.wesl_tree_syntax.specs.declared.statement.CaseSelector.{CaseSelector}
use Rattle.wesl_tree_syntax.specs.declared.statement.ElseIfClause.{ElseIfClause}
use Rattle.wesl_tree_syntax.specs.declared.statement.Statement.{Statement}
use Rattle.wesl_tree_syntax.specs.declared.statement.SwitchClause.{SwitchClause}
use Rattle.wesl_json_form.specs.Schema.{a_case, a_clause, a_declaration, a_member, a_parameter, a_statement, a_template_argument, an_attribute, an_elif, an_expression}
use Rattle.wesl_json_words.specs.Values.{items_in}

-- the items of each list, of which each node is written by the name of its form:
abbrev pub attribute_items : Bool → List Text → Vec (Spanned Attribute) Global → Items
attribute_items spans names xs = items_in spans names an_attribute (attributes_tree xs).children

abbrev pub declaration_items : Bool → List Text → Vec (Spanned GlobalDeclaration) Global → Items
declaration_items spans names xs = items_in spans names a_declaration (declarations_tree xs).children

abbrev pub member_items : Bool → List Text → Vec (Spanned StructMember) Global → Items
member_items spans names xs = items_in spans names a_member (listed (placed member_view member_node) members xs).children

abbrev pub parameter_items : Bool → List Text → Vec FormalParameter Global → Items
parameter_items spans names xs = items_in spans names a_parameter (listed parameter_view parameters xs).children

abbrev pub expression_items : Bool → List Text → Vec (Spanned Expression) Global → Items
expression_items spans names xs = items_in spans names an_expression (listed expression_tree list xs).children

abbrev pub argument_items : Bool → List Text → Vec TemplateArg Global → Items
argument_items spans names xs = items_in spans names a_template_argument (listed argument_view list xs).children

abbrev pub statement_items : Bool → List Text → Vec (Spanned Statement) Global → Items
statement_items spans names xs = items_in spans names a_statement (listed statement_tree statements xs).children

abbrev pub elif_items : Bool → List Text → Vec ElseIfClause Global → Items
elif_items spans names xs = items_in spans names an_elif (listed else_if_view list xs).children

abbrev pub clause_items : Bool → List Text → Vec SwitchClause Global → Items
clause_items spans names xs = items_in spans names a_clause (listed clause_view clauses xs).children

abbrev pub case_items : Bool → List Text → Vec CaseSelector Global → Items
case_items spans names xs = items_in spans names a_case (listed selector_view list xs).children
