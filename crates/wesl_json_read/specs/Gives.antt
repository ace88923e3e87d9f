-- Parts as trees, and what a result says of a member of JSON, where it is no fault.
use Rattle.std.specs.Prelude.{Bool, List, Option, Result, IfOk}
use Rattle.std.specs.Box.{box_value}
use Rattle.std.specs.Global.{Box}
use Rattle.wesl_tree_names.specs.Path.{Text}
use Rattle.wesl_tree_names.specs.declared.errors.Error as error
use Rattle.wesl_tree_syntax.specs.Tree.{Tree, attribute_node}
use Rattle.wesl_tree_syntax.specs.View.{attribute_view, expression_tree, optional, placed}
use Rattle.wesl_tree_syntax.specs.declared.attribute.Attribute.{Attribute}
use Rattle.wesl_tree_syntax.specs.declared.expression.Expression.{Expression}
use Rattle.wesl_tree_syntax.specs.declared.span.Spanned.{Spanned}
use Rattle.wesl_json_form.specs.Schema.{Form}
use Rattle.wesl_json_form.specs.View.{borrowed_view}
use Rattle.wesl_json_form.specs.declared.value.BorrowedValue.{BorrowedValue}
use Rattle.wesl_json_read.specs.Numbers.{ReadsMay}

-- the tree of an attribute, with its span
abbrev pub placed_attribute : Spanned Attribute → Tree
placed_attribute = placed attribute_view attribute_node

-- the tree of an expression in a box
abbrev pub boxed_expression : Box (Spanned Expression) → Tree
boxed_expression b = expression_tree (box_value b)

-- the member that may be there is read as the part, whether spans are read or not, and no name is numbered
abbrev pub GivesIfAlways : {A : Type 0} → Result (Option A) error.Error → (A → Tree) → Text → Form → BorrowedValue → Type 0
GivesIfAlways r view k f v = IfOk r (λ e. (spans : Bool) (names : List Text) → ReadsMay spans k f (borrowed_view v) (optional view e) names names)
