use Rattle.std.proofs.Common.{Some, rules}
use Rattle.wesl_tree_syntax.specs.Tree.{const_assert, declaration, kind}
use Rattle.wesl_tree_syntax.specs.View.{alias_view, assert_view, declaration_view, function_view, global_view, struct_view}
use Rattle.wesl_tree_syntax.specs.declared.declaration.GlobalDeclaration.TheVariants as globals
use Rattle.wesl_text_read_unit.specs.declared.declaration_start.DeclarationStart.TheVariants as starts
use Rattle.wesl_text_read_unit.proofs.Starts.{declaration_there, kind_there, label-known, no_declaration_there}
use Rattle.wesl_text_read_unit.proofs.declaration.bare_declaration.Goals as goal

pub read_global_variable-requires : goal.read_global_variable-requires
read_global_variable-requires c = label-known _ c.behind_attributes.ensures (Some (kind declaration)) (search rules)

pub read_global_assertion-requires : goal.read_global_assertion-requires
read_global_assertion-requires c = label-known _ c.behind_attributes.ensures (Some (kind const_assert)) (search rules)

pub returns-in-Some-Void : goal.returns-in-Some-Void
returns-in-Some-Void c = kind_there _ c.behind_attributes.ensures starts.Void (global_view c.void.result) (search rules) c.void.ensures

pub returns-in-Some-Variable : goal.returns-in-Some-Variable
returns-in-Some-Variable c = declaration_there _ c.behind_attributes.ensures (declaration_view c.read_global_variable.result) c.read_global_variable.ensures

pub returns-in-Some-Assertion : goal.returns-in-Some-Assertion
returns-in-Some-Assertion c = declaration_there _ c.behind_attributes.ensures (assert_view c.read_global_assertion.result) c.read_global_assertion.ensures

pub returns-in-Some-Alias : goal.returns-in-Some-Alias
returns-in-Some-Alias c = kind_there _ c.behind_attributes.ensures starts.Alias (alias_view c.alias.result) (search rules) c.alias.ensures

pub returns-in-Some-Struct : goal.returns-in-Some-Struct
returns-in-Some-Struct c = kind_there _ c.behind_attributes.ensures starts.Struct (struct_view c.structure.result) (search rules) c.structure.ensures

pub returns-in-Some-Function : goal.returns-in-Some-Function
returns-in-Some-Function c = kind_there _ c.behind_attributes.ensures starts.Function (function_view c.function.result) (search rules) c.function.ensures

pub returns-in-None : goal.returns-in-None
returns-in-None c = no_declaration_there _ c.behind_attributes.ensures (global_view globals.Void) (search rules) c.attributes-attributes.ensures c.wrong.ensures
