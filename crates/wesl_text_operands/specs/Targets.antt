-- What may be assigned to, told of expressions whose identifiers are their names in a table.
use Rattle.std.specs.Prelude.{Bool, not, ◌&&◌, List, [], ◌∷◌, map, Vec}
use Rattle.std.specs.declared.alloc.Global.{Global}
use Rattle.wesl_tree_names.specs.Path.{Text}
use Rattle.wesl_tree_syntax.specs.Tree.{attribute_node, forest_of, respell_forest}
use Rattle.wesl_tree_syntax.specs.Unit.{name_in}
use Rattle.wesl_tree_syntax.specs.View.{attribute_view, expression_view, placed}
use Rattle.wesl_tree_syntax.specs.declared.span.Spanned.{Spanned}
use Rattle.wesl_tree_syntax.specs.declared.attribute.Attribute.{Attribute}
use Rattle.wesl_tree_syntax.specs.declared.expression.Expression.{Expression}
use Rattle.wesl_text_form.specs.Operators.{class_of, is_tight}
use Rattle.wesl_text_form.specs.Spelling.{Forest, begins_enclosed, ends_open, label_at, leads_to_place}

-- what stands below the node of an expression, where each identifier is its name
abbrev pub spelled_in : List Text → Expression → Forest
spelled_in names x = respell_forest (name_in names) (forest_of (expression_view x ∷ []))

-- attributes, where each identifier is its name
abbrev pub spelled_attributes : List Text → List (Spanned Attribute) → Forest
spelled_attributes names xs = respell_forest (name_in names) (forest_of (map (placed attribute_view attribute_node) xs))

-- an attribute at no place
abbrev pub plain_attribute : Attribute → Spanned Attribute
plain_attribute a = record { node = a; span = record { start = 0; end = 0 } }

-- whether an expression may be assigned to
abbrev pub is_target_in : List Text → Expression → Bool
is_target_in names x = is_tight (class_of (label_at 0 (spelled_in names x))) && leads_to_place (spelled_in names x)

-- whether attributes end where an expression behind them begins
abbrev pub are_apart_in : List Text → Vec (Spanned Attribute) Global → Expression → Bool
are_apart_in names a x = not (ends_open (spelled_attributes names a.items) && begins_enclosed (spelled_in names x))
