-- What is added for types, with template arguments and without; and what holds no node of any kind.
use Rattle.std.proofs.Common.{◌≡◌, true, refl, sym, subst, map, Vec, Global, [], ◌∷◌, Option, None, Some}
use Rattle.std.specs.Global.{Box}
use Rattle.wesl_tree_names.specs.declared.path.ModulePath.{ModulePath}
use Rattle.wesl_tree_syntax.specs.Tree.{Forest, Tree, absent, before, branch, end, forest_of, kind, leaf, list, literal, present, reference}
use Rattle.wesl_tree_syntax.specs.View.{argument_view, boxed_path, ident_tree, kind_tree, listed, literal_tree, optional, type_view}
use Rattle.wesl_tree_syntax.specs.declared.declaration.DeclarationKind.{DeclarationKind}
use Rattle.wesl_tree_syntax.specs.declared.declaration.DeclarationKind.TheVariants as kinds
use Rattle.wesl_tree_syntax.specs.declared.expression.Literal.{Literal}
use Rattle.wesl_tree_syntax.specs.declared.expression.Literal.TheVariants as literals
use Rattle.wesl_tree_syntax.specs.declared.expression.TemplateArg.{TemplateArg}
use Rattle.wesl_tree_syntax.specs.declared.expression.TypeExpression.{TypeExpression, out-TypeExpression}
use Rattle.wesl_visit_collect.specs.Held.{all_of, hollow_label}
use Rattle.wesl_visit_collect.specs.Sought.{Sought}
use Rattle.wesl_visit_collect.specs.Adds.{Adds}
use Rattle.wesl_visit_collect.specs.declared.collected.Collected.{Collected}
use Rattle.wesl_visit_collect.proofs.Adds.{beside, hollow, inside}
use Rattle.wesl_tree_syntax.proofs.Views.{view_type}

pub path_hollow : (p : Option (Box ModulePath)) (f : Forest) → all_of hollow_label f ≡ true → all_of hollow_label (before (optional boxed_path p) f) ≡ true
path_hollow None f h = h
path_hollow (Some p) f h = h

pub kind_hollow : (d : DeclarationKind) → all_of hollow_label (before (kind_tree d) end) ≡ true
kind_hollow kinds.Const = refl
kind_hollow kinds.Override = refl
kind_hollow kinds.Let = refl
kind_hollow (kinds.Var None) = refl
kind_hollow (kinds.Var (Some (s, None))) = refl
kind_hollow (kinds.Var (Some (s, Some a))) = refl

pub literal_hollow : (l : Literal) → all_of hollow_label (before (branch literal (literal_tree l ∷ [])) end) ≡ true
literal_hollow (literals.Bool b) = refl
literal_hollow (literals.Text s) = refl

module _ {T : Type 0} {k : Sought} {view : T → Tree} {a b : Collected T} where
  of_type : (t : TypeExpression) (o : Option (Vec TemplateArg Global)) → (out-TypeExpression t).template_args ≡ o → Adds k view a (before (optional (listed argument_view list) o) end) b → Adds k view a (type_view t).children b
  of_type t o is w =
      subst (λ x. Adds k view a x.children b) (sym (view_type t)) (beside (hollow (before (optional boxed_path (out-TypeExpression t).path) end) (path_hollow _ end refl))
      (beside (hollow (before (ident_tree reference (out-TypeExpression t).ident) end) refl) (subst (λ x. Adds k view a (before (optional (listed argument_view list) x) end) b) (sym is) w)))

  pub type_some : (t : TypeExpression) (v : Vec TemplateArg Global) → (out-TypeExpression t).template_args ≡ Some v → Adds k view a (forest_of (map argument_view v.items)) b → Adds k view a (type_view t).children b
  type_some t v is w = of_type t (Some v) is (inside (kind present) refl (λ f. refl) (inside (kind list) refl (λ f. refl) w))

module _ {T : Type 0} {k : Sought} {view : T → Tree} {a : Collected T} where
  pub type_none : (t : TypeExpression) → (out-TypeExpression t).template_args ≡ None → Adds k view a (type_view t).children a
  type_none t is = of_type t None is (hollow (before (leaf (kind absent)) end) refl)
