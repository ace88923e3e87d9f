-- The trees of nodes, by the trees of their parts.
use Rattle.std.proofs.Common.{◌≡◌, List, [], ◌∷◌, refl}
use Rattle.std.specs.Prelude.{Some, None}
use Rattle.wesl_tree_syntax.specs.Tree.{branch, list, Tree, binder, word, leaf, kind, absent, present, import_item, reference, type_expression}
use Rattle.wesl_tree_syntax.specs.View.{item_view, listed, optional, type_view, argument_view, boxed_path, ident_tree}
use Rattle.wesl_tree_syntax.specs.declared.import.ImportItem.{ImportItem}
use Rattle.wesl_tree_names.specs.declared.names.Ident.{Ident}
use Rattle.wesl_tree_syntax.specs.declared.expression.TypeExpression.{TypeExpression, out-TypeExpression}
use Rattle.wesl_tree_syntax.proofs.Views.{type_of}

-- types

-- the trees of the parts of a type
abbrev pub type_fields : TypeExpression → List Tree
type_fields t = optional boxed_path (out-TypeExpression t).path ∷ ident_tree reference (out-TypeExpression t).ident ∷ optional (listed argument_view list) (out-TypeExpression t).template_args ∷ []

pub view_any_type : (t : TypeExpression) → type_view t ≡ branch type_expression (type_fields t)
view_any_type t = type_of t (out-TypeExpression t).template_args refl

-- imports

pub item_none : (i : ImportItem) → i.rename ≡ None → item_view i ≡ branch import_item (ident_tree binder i.ident ∷ leaf (kind absent) ∷ [])
item_none i e = rw e refl

pub item_some : (i : ImportItem) (r : Ident) → i.rename ≡ Some r → item_view i ≡ branch import_item (ident_tree word i.ident ∷ branch present (ident_tree binder r ∷ []) ∷ [])
item_some i r e = rw e refl
