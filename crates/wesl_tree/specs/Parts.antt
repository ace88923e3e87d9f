-- What the parts of a unit stand for.
use Rattle.std.specs.Prelude.{List, Vec}
use Rattle.std.specs.declared.alloc.Global.{Global}
use Rattle.wesl_tree_names.specs.Path.{Text}
use Rattle.wesl_tree_syntax.specs.Unit.{UnitView}
use Rattle.wesl_tree_syntax.specs.View.{imports_tree, directives_tree, declarations_tree}
use Rattle.wesl_tree_syntax.specs.declared.span.Spanned.{Spanned}
use Rattle.wesl_tree_syntax.specs.declared.import.ImportStatement.{ImportStatement}
use Rattle.wesl_tree_syntax.specs.declared.declaration.GlobalDirective.{GlobalDirective}
use Rattle.wesl_tree_syntax.specs.declared.declaration.GlobalDeclaration.{GlobalDeclaration}

-- a table of names, with what these imports, directives and declarations say
abbrev pub parts_view : List Text → Vec (Spanned ImportStatement) Global → Vec (Spanned GlobalDirective) Global → Vec (Spanned GlobalDeclaration) Global → UnitView
parts_view names imports directives declarations =
    record { names = names; imports = imports_tree imports; directives = directives_tree directives; declarations = declarations_tree declarations }
