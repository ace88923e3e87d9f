-- The lists of what stands in units, and the trees of their items.
use Rattle.std.specs.Prelude.{Vec}
use Rattle.std.specs.Global.{Global}
use Rattle.wesl_tree_syntax.specs.Tree.{Tree, declaration_node, declarations, directive_list, directive_node, import_node, imports, list, member_node, members, parameters}
use Rattle.wesl_tree_syntax.specs.View.{directive_view, global_view, import_view, listed, member_view, parameter_view, placed}
use Rattle.wesl_tree_syntax.specs.declared.declaration.FormalParameter.{FormalParameter}
use Rattle.wesl_tree_syntax.specs.declared.declaration.GlobalDeclaration.{GlobalDeclaration}
use Rattle.wesl_tree_syntax.specs.declared.declaration.GlobalDirective.{GlobalDirective}
use Rattle.wesl_tree_syntax.specs.declared.declaration.StructMember.{StructMember}
use Rattle.wesl_tree_syntax.specs.declared.import.ImportStatement.{ImportStatement}
use Rattle.wesl_tree_syntax.specs.declared.span.Spanned.{Spanned}
use Rattle.wesl_json_form.specs.Schema.{Form, a_declaration, a_directive, a_member, a_parameter, an_entry, an_import, list_of}

-- the forms of lists: of imports, of the entries of an import's list, of directives, of global declarations,
-- of the members of a struct, of parameters
abbrev pub some_imports : Form
some_imports = list_of imports an_import

abbrev pub some_entries : Form
some_entries = list_of list an_entry

abbrev pub some_directives : Form
some_directives = list_of directive_list a_directive

abbrev pub some_globals : Form
some_globals = list_of declarations a_declaration

abbrev pub some_members : Form
some_members = list_of members a_member

abbrev pub some_parameters : Form
some_parameters = list_of parameters a_parameter

-- the trees of an import, of a directive, of a global declaration and of a member of a struct, each with its span
abbrev pub import_tree : Spanned ImportStatement → Tree
import_tree = placed import_view import_node

abbrev pub directive_tree : Spanned GlobalDirective → Tree
directive_tree = placed directive_view directive_node

abbrev pub global_tree : Spanned GlobalDeclaration → Tree
global_tree = placed global_view declaration_node

abbrev pub member_tree : Spanned StructMember → Tree
member_tree = placed member_view member_node

-- the trees of lists: of the members of a struct, and of the parameters of a function, which have no spans
abbrev pub members_tree : Vec (Spanned StructMember) Global → Tree
members_tree = listed member_tree members

abbrev pub parameters_tree : Vec FormalParameter Global → Tree
parameters_tree = listed parameter_view parameters
