-- What declarations begin with.
use Rattle.wesl_tree_syntax.specs.Tree.{Kind, kind, const_assert, declaration, function, struct, type_alias, void}
use Rattle.wesl_text_form.specs.Spelling.{Label}
use Rattle.wesl_text_read_unit.specs.declared.declaration_start.DeclarationStart.{DeclarationStart}
use Rattle.wesl_text_read_unit.specs.declared.declaration_start.DeclarationStart.TheVariants as starts

-- the kinds of the declarations that begin so
abbrev pub start_kind : DeclarationStart → Kind
start_kind starts.Void = void
start_kind starts.Variable = declaration
start_kind starts.Assertion = const_assert
start_kind starts.Alias = type_alias
start_kind starts.Struct = struct
start_kind starts.Function = function

-- their labels
abbrev pub start_label : DeclarationStart → Label
start_label s = kind (start_kind s)
