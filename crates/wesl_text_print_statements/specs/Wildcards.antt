-- What the target `_` is told of.
use Rattle.std.specs.Prelude.{List, [], ◌∷◌}
use Rattle.wesl_tree_names.specs.Path.{Text}
use Rattle.wesl_tree_syntax.specs.Tree.{branch, forest_of, respell_forest, type_or_identifier}
use Rattle.wesl_tree_syntax.specs.Unit.{name_in}
use Rattle.wesl_tree_syntax.specs.View.{type_view}
use Rattle.wesl_tree_syntax.specs.declared.expression.TypeExpression.{TypeExpression}
use Rattle.wesl_text_form.specs.Spelling.{Forest}

-- what stands below the node of an expression that is a type, where each identifier is its name
abbrev pub spelled_type : List Text → TypeExpression → Forest
spelled_type names t = respell_forest (name_in names) (forest_of (branch type_or_identifier (type_view t ∷ []) ∷ []))
