-- Nodes whose parts take numbers one after the other.
use Rattle.std.proofs.Common.{◌≡◌, List, [], ◌∷◌, ◌∙◌, ap, refl, sym}
use Rattle.std.specs.Prelude.{None, Option, Some, String}
use Rattle.std.specs.Global.{Box, Vec}
use Rattle.std.specs.declared.alloc.Global.{Global}
use Rattle.wesl_tree_names.specs.declared.path.ModulePath.{ModulePath}
use Rattle.wesl_tree_syntax.specs.Tree.{Kind, Tree, absent, assignment, binary, branch, forest_of, import_entry, kind, const_kind, let_kind, override_kind, template_argument, unary}
use Rattle.wesl_tree_syntax.specs.View.{argument_view, boxed_path, content_view, entry_view, expression_tree, kind_tree, literal_tree, names_tree, optional, placed, text_tree}
use Rattle.wesl_tree_syntax.specs.declared.expression.Expression.{Expression}
use Rattle.wesl_tree_syntax.specs.declared.expression.Literal.{Literal}
use Rattle.wesl_tree_syntax.specs.declared.expression.Literal.TheVariants as literals
use Rattle.wesl_tree_syntax.specs.declared.expression.TemplateArg.{TemplateArg, out-TemplateArg, roll-TemplateArg}
use Rattle.wesl_tree_syntax.specs.declared.import.Import.{Import, out-Import, roll-Import}
use Rattle.wesl_tree_syntax.specs.declared.import.ImportContent.{ImportContent}
use Rattle.wesl_tree_syntax.specs.declared.declaration.DeclarationKind.{DeclarationKind}
use Rattle.wesl_tree_syntax.specs.declared.declaration.DeclarationKind.TheVariants as kinds
use Rattle.wesl_tree_syntax.specs.declared.expression.BinaryOperator.{BinaryOperator}
use Rattle.wesl_tree_syntax.specs.declared.expression.UnaryOperator.{UnaryOperator}
use Rattle.wesl_tree_syntax.specs.declared.span.Spanned.{Spanned}
use Rattle.wesl_tree_syntax.specs.declared.statement.AssignmentOperator.{AssignmentOperator}
use Rattle.wesl_tree_copies.specs.Renumbered.{after, after_tree, renumbered, renumbered_tree}
use Rattle.wesl_tree_copies.proofs.Parts.{labelled}
use Rattle.wesl_tree_renumber.specs.Renumbers.{Renumbered}
use Rattle.wesl_tree_renumber.specs.declared.renumbering.Renumbering.{Renumbering}
use Rattle.wesl_tree_syntax.proofs.Views.{view_argument, view_argument_of, view_entry, view_entry_of}

-- some trees, one after the other
pub record RenumberedAll (old new : Renumbering) (originals results : List Tree) : Type 0 where
  pub trees : forest_of results ≡ renumbered (forest_of originals) old.rest.now
  pub rest : new.rest.now ≡ after (forest_of originals) old.rest.now

pub nothing : {s : Renumbering} → RenumberedAll s s [] []
nothing = record { trees = refl; rest = refl }

pub then : {s m e : Renumbering} {t u : Tree} {ts us : List Tree} → Renumbered s m t u → RenumberedAll m e ts us → RenumberedAll s e (t ∷ ts) (u ∷ us)
then p q = record { trees = rw (p.tree, q.trees, p.rest) refl; rest = rw (q.rest, p.rest) refl }

-- a node of such parts
pub of_kind : (k : Kind) {s e : Renumbering} {ts us : List Tree} → RenumberedAll s e ts us → Renumbered s e (branch k ts) (branch k us)
of_kind k p = record { tree = ap (λ f. record { label = kind k; children = f }) p.trees; rest = p.rest }

pub of_assignment : (o : AssignmentOperator) {s e : Renumbering} {ts us : List Tree} → RenumberedAll s e ts us → Renumbered s e (labelled (assignment o) ts) (labelled (assignment o) us)
of_assignment o p = record { tree = ap (λ f. record { label = assignment o; children = f }) p.trees; rest = p.rest }

pub of_unary : (o : UnaryOperator) {s e : Renumbering} {ts us : List Tree} → RenumberedAll s e ts us → Renumbered s e (labelled (unary o) ts) (labelled (unary o) us)
of_unary o p = record { tree = ap (λ f. record { label = unary o; children = f }) p.trees; rest = p.rest }

pub of_binary : (o : BinaryOperator) {s e : Renumbering} {ts us : List Tree} → RenumberedAll s e ts us → Renumbered s e (labelled (binary o) ts) (labelled (binary o) us)
of_binary o p = record { tree = ap (λ f. record { label = binary o; children = f }) p.trees; rest = p.rest }

-- as seen by its parts
pub seen : {s e : Renumbering} {t u v w : Tree} → t ≡ v → u ≡ w → Renumbered s e v w → Renumbered s e t u
seen {s} p q c = record {
  tree = q ∙ (c.tree ∙ ap (λ z. renumbered_tree z s.rest.now) (sym p));
  rest = c.rest ∙ ap (λ z. after_tree z s.rest.now) (sym p);
}

-- what stood before, by an equal node
pub from : {X : Type 0} {s e : Renumbering} {x y : X} {u : Tree} (view : X → Tree) → x ≡ y → Renumbered s e (view x) u → Renumbered s e (view y) u
from view is c = seen (ap view (sym is)) refl c

-- a node with its span
pub of_place : {A : Type 0} (view : A → Tree) (k : Kind) {s e : Renumbering} (x : Spanned A) (n : A) → Renumbered s e (view x.node) (view n) → Renumbered s e (placed view k x) (placed view k (record { node = n; span = x.span }))
of_place view k x n c = record { tree = rw c.tree refl; rest = c.rest }

-- the kind of a declaration has no number
pub untouched_kind : {s : Renumbering} (k : DeclarationKind) → Renumbered s s (kind_tree k) (kind_tree k)
untouched_kind kinds.Const = of_kind const_kind nothing
untouched_kind kinds.Override = of_kind override_kind nothing
untouched_kind kinds.Let = of_kind let_kind nothing
untouched_kind (kinds.Var None) = record { tree = refl; rest = refl }
untouched_kind (kinds.Var (Some (a, None))) = record { tree = refl; rest = refl }
untouched_kind (kinds.Var (Some (a, Some m))) = record { tree = refl; rest = refl }

-- what holds no identifier
pub untouched_path : {s : Renumbering} (p : Option (Box ModulePath)) → Renumbered s s (optional boxed_path p) (optional boxed_path p)
untouched_path None = of_kind absent nothing
untouched_path (Some p) = record { tree = refl; rest = refl }

pub untouched_text : {s : Renumbering} (x : String Global) → Renumbered s s (text_tree x) (text_tree x)
untouched_text x = record { tree = refl; rest = refl }

pub untouched_names : {s : Renumbering} (xs : Vec (String Global)) → Renumbered s s (names_tree xs) (names_tree xs)
untouched_names xs = record { tree = refl; rest = refl }

pub untouched_literal : {s : Renumbering} (l : Literal) → Renumbered s s (literal_tree l) (literal_tree l)
untouched_literal (literals.Bool b) = record { tree = refl; rest = refl }
untouched_literal (literals.Text x) = record { tree = refl; rest = refl }

-- a template argument by its expression, and an entry of imports by its content
pub argument_numbered : {s e : Renumbering} (x : TemplateArg) (n : Spanned Expression) → Renumbered s e (expression_tree (out-TemplateArg x).expression) (expression_tree n)
    → Renumbered s e (argument_view x) (argument_view (roll-TemplateArg (record { expression = n })))
argument_numbered x n c = seen (view_argument x) (view_argument_of n) (of_kind template_argument (then c nothing))

pub entry_numbered : {s e : Renumbering} (x : Import) (n : ImportContent) → Renumbered s e (content_view (out-Import x).content) (content_view n)
    → Renumbered s e (entry_view x) (entry_view (roll-Import (record { path = (out-Import x).path; content = n })))
entry_numbered x n c = seen (view_entry x) (view_entry_of _ n) (of_kind import_entry (then (untouched_names (out-Import x).path) (then c nothing)))
