-- What a unit stands for.
use Rattle.wesl_tree_syntax.specs.Unit.{UnitView}
use Rattle.wesl_tree.specs.Parts.{parts_view}
use Rattle.wesl_tree.specs.declared.unit.TranslationUnit.{TranslationUnit}

-- its names, and what its imports, directives and declarations say
abbrev pub unit_view : TranslationUnit → UnitView
unit_view u = parts_view u.names u.imports u.directives u.declarations
