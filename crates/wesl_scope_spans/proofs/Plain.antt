-- Trees without identifiers.
use Rattle.std.proofs.Common.{◌≡◌, [], refl, Option, None, Some}
use Rattle.std.specs.Global.{Box}
use Rattle.wesl_tree_base.specs.declared.span.Span.{Span}
use Rattle.wesl_tree_names.specs.declared.path.ModulePath.{ModulePath}
use Rattle.wesl_tree_syntax.specs.Tree.{before, end}
use Rattle.wesl_tree_syntax.specs.View.{boxed_path, kind_tree, literal_tree, optional, path_tree}
use Rattle.wesl_tree_syntax.specs.declared.declaration.DeclarationKind.{DeclarationKind}
use Rattle.wesl_tree_syntax.specs.declared.declaration.DeclarationKind.TheVariants as kinds
use Rattle.wesl_tree_syntax.specs.declared.expression.Literal.{Literal}
use Rattle.wesl_tree_syntax.specs.declared.expression.Literal.TheVariants as literals
use Rattle.wesl_scope_spans.specs.Spans.{located_in}

pub literal_plain : (s : Span) (l : Literal) → located_in s (before (literal_tree l) end) ≡ []
literal_plain s (literals.Bool b) = refl
literal_plain s (literals.Text t) = refl

pub path_plain : (s : Span) (o : Option ModulePath) → located_in s (before (optional path_tree o) end) ≡ []
path_plain s None = refl
path_plain s (Some p) = refl

pub boxed_path_plain : (s : Span) (o : Option (Box ModulePath)) → located_in s (before (optional boxed_path o) end) ≡ []
boxed_path_plain s None = refl
boxed_path_plain s (Some p) = refl

pub kind_plain : (s : Span) (k : DeclarationKind) → located_in s (before (kind_tree k) end) ≡ []
kind_plain s kinds.Const = refl
kind_plain s kinds.Override = refl
kind_plain s kinds.Let = refl
kind_plain s (kinds.Var None) = refl
kind_plain s (kinds.Var (Some (p, None))) = refl
kind_plain s (kinds.Var (Some (p, Some a))) = refl
