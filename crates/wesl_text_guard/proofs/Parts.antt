-- Nodes whose parts get parentheses one after the other.
use Rattle.std.proofs.Common.{◌≡◌, Bool, true, false, List, [], ◌∷◌, ◌∙◌, ap, refl, subst, sym}
use Rattle.std.specs.Prelude.{None, Option, Some, String}
use Rattle.std.specs.Global.{Box, Vec}
use Rattle.std.specs.declared.alloc.Global.{Global}
use Rattle.wesl_tree_names.specs.declared.path.ModulePath.{ModulePath}
use Rattle.wesl_tree_syntax.specs.Tree.{Kind, Label, Role, Tree, Forest, at, before, branch, end, forest_of, kind, else_if_clause, template_argument}
use Rattle.wesl_tree_syntax.specs.View.{argument_view, attributes_tree, boxed_path, compound_view, else_if_view, expression_tree, ident_tree, kind_tree, literal_tree, names_tree, optional, placed, selector_view, text_tree}
use Rattle.wesl_tree_names.specs.declared.names.Ident.{Ident}
use Rattle.wesl_tree_syntax.specs.declared.expression.Expression.{Expression}
use Rattle.wesl_tree_syntax.specs.declared.expression.Literal.{Literal}
use Rattle.wesl_tree_syntax.specs.declared.expression.Literal.TheVariants as literals
use Rattle.wesl_tree_syntax.specs.declared.expression.TemplateArg.{TemplateArg, out-TemplateArg, roll-TemplateArg}
use Rattle.wesl_tree_syntax.specs.declared.declaration.DeclarationKind.{DeclarationKind}
use Rattle.wesl_tree_syntax.specs.declared.declaration.DeclarationKind.TheVariants as kinds
use Rattle.wesl_tree_syntax.specs.declared.span.Spanned.{Spanned}
use Rattle.wesl_tree_syntax.specs.declared.statement.ElseIfClause.{ElseIfClause, out-ElseIfClause}
use Rattle.wesl_tree_syntax.specs.declared.statement.CaseSelector.{CaseSelector}
use Rattle.wesl_tree_syntax.specs.declared.statement.CaseSelector.TheVariants as selectors
use Rattle.wesl_tree_copies.proofs.Parts.{labelled}
use Rattle.wesl_text_form.specs.Operators.{Class}
use Rattle.wesl_text_guard.specs.Guards.{Guarded, as_it_is, as_item, as_operand}
use Rattle.wesl_text_guard.specs.Parentheses.{fitted, with_parentheses, tree_with_parentheses}
use Rattle.wesl_text_guard.specs.declared.guard.Guard.{Guard}
use Rattle.wesl_tree_syntax.proofs.Views.{view_argument, view_argument_of, view_else_if}

-- some trees, one after the other
pub record GuardedAll (old new : Guard) (befores afters : List Tree) : Type 0 where
  pub same : new.comparisons ≡ old.comparisons
  pub noted : new.is_refused ≡ false → old.is_refused ≡ false
  pub whole : new.is_refused ≡ false → forest_of afters ≡ with_parentheses old.comparisons (forest_of befores)
  pub only : with_parentheses true (forest_of afters) ≡ with_parentheses true (forest_of befores)

pub nothing : {s : Guard} → GuardedAll s s [] []
nothing = record { same = refl; noted = λ h. h; whole = λ h. refl; only = refl }

pub then : {s m e : Guard} {t u : Tree} {ts us : List Tree} → Guarded as_it_is s m t u → GuardedAll m e ts us → GuardedAll s e (t ∷ ts) (u ∷ us)
then {s} {m} {e} {t} {u} {ts} {us} p q = record {
  same = q.same ∙ p.same;
  noted = λ h. p.noted (q.noted h);
  whole = λ h. ap (λ x. before x (forest_of us)) (p.whole (q.noted h)) ∙ ap (before (tree_with_parentheses s.comparisons t)) (q.whole h ∙ ap (λ b. with_parentheses b (forest_of ts)) p.same);
  only = ap (λ x. before x (with_parentheses true (forest_of us))) p.only ∙ ap (before (tree_with_parentheses true t)) q.only;
}

-- a node that puts no parentheses round its parts
pub of_label : (l : Label) → ((b : Bool) (f : Forest) → fitted b l f ≡ f) → {s e : Guard} {ts us : List Tree} → GuardedAll s e ts us → Guarded as_it_is s e (labelled l ts) (labelled l us)
of_label l plain {s} {e} {ts} {us} p = record {
  same = p.same;
  noted = p.noted;
  whole = λ h. ap (λ f. record { label = l; children = f }) (p.whole h ∙ sym (plain s.comparisons (with_parentheses s.comparisons (forest_of ts))));
  only = ap (λ f. record { label = l; children = fitted true l f }) p.only;
}

pub of_kind : (k : Kind) → ((b : Bool) (f : Forest) → fitted b (kind k) f ≡ f) → {s e : Guard} {ts us : List Tree} → GuardedAll s e ts us → Guarded as_it_is s e (branch k ts) (branch k us)
of_kind k plain p = of_label (kind k) plain p

-- as seen by its parts
pub seen : {place : Bool → Tree → Tree} {s e : Guard} {t u v w : Tree} → t ≡ v → u ≡ w → Guarded place s e v w → Guarded place s e t u
seen {place} {s} {e} {t} {u} {v} {w} p q c = subst (λ x. Guarded place s e x u) (sym p) (subst (λ x. Guarded place s e v x) (sym q) c)

-- what stood before, by an equal node
pub from : {X : Type 0} {place : Bool → Tree → Tree} {s e : Guard} {x y : X} {u : Tree} (view : X → Tree) → x ≡ y → Guarded place s e (view x) u → Guarded place s e (view y) u
from view is c = seen (ap view (sym is)) refl c

-- a node with its span, of a kind that puts no parentheses
pub of_place : {A : Type 0} (view : A → Tree) (k : Kind) {s e : Guard} (x : Spanned A) (n : A) → Guarded as_it_is s e (view x.node) (view n) → Guarded as_it_is s e (placed view k x) (placed view k (record { node = n; span = x.span }))
of_place view k {s} {e} x n c = record {
  same = c.same;
  noted = c.noted;
  whole = λ h. ap (λ t. record { label = at k x.span.start x.span.end; children = before t end }) (c.whole h);
  only = ap (λ t. record { label = at k x.span.start x.span.end; children = before t end }) c.only;
}

-- operations and their operands
pub of_operand : (l : Label) (takes : Class → Bool) → ((b : Bool) (t : Tree) → fitted b l (before t end) ≡ before (as_operand takes b t) end)
    → {s e : Guard} {t u : Tree} → Guarded (as_operand takes) s e t u → Guarded as_it_is s e (labelled l (t ∷ [])) (labelled l (u ∷ []))
of_operand l takes is {s} {e} {t} {u} p = record {
  same = p.same;
  noted = p.noted;
  whole = λ h. ap (λ f. record { label = l; children = f }) (ap (λ x. before x end) (p.whole h) ∙ sym (is s.comparisons (tree_with_parentheses s.comparisons t)));
  only = ap (λ f. record { label = l; children = f }) (is true (tree_with_parentheses true u) ∙ (ap (λ x. before x end) p.only ∙ sym (is true (tree_with_parentheses true t))));
}

-- two parts, each in its place
pub of_two : (l : Label) (first second : Bool → Tree → Tree) → ((b : Bool) (t u : Tree) → fitted b l (before t (before u end)) ≡ before (first b t) (before (second b u) end))
    → {s m e : Guard} {t u v w : Tree} → Guarded first s m t u → Guarded second m e v w → Guarded as_it_is s e (labelled l (t ∷ v ∷ [])) (labelled l (u ∷ w ∷ []))
of_two l first second is {s} {m} {e} {t} {u} {v} {w} p q = record {
  same = q.same ∙ p.same;
  noted = λ h. p.noted (q.noted h);
  whole = λ h. ap (λ f. record { label = l; children = f })
      (ap (λ x. before x (before w end)) (p.whole (q.noted h))
      ∙ (ap (λ x. before (first s.comparisons (tree_with_parentheses s.comparisons t)) (before x end)) (q.whole h ∙ ap (λ b. second b (tree_with_parentheses b v)) p.same)
      ∙ sym (is s.comparisons (tree_with_parentheses s.comparisons t) (tree_with_parentheses s.comparisons v))));
  only = ap (λ f. record { label = l; children = f })
      (is true (tree_with_parentheses true u) (tree_with_parentheses true w)
      ∙ (ap (λ x. before x (before (second true (tree_with_parentheses true w)) end)) p.only
      ∙ (ap (λ x. before (first true (tree_with_parentheses true t)) (before x end)) q.only
      ∙ sym (is true (tree_with_parentheses true t) (tree_with_parentheses true v)))));
}

-- three
pub of_three : (l : Label) (first second third : Bool → Tree → Tree)
    → ((b : Bool) (t u v : Tree) → fitted b l (before t (before u (before v end))) ≡ before (first b t) (before (second b u) (before (third b v) end)))
    → {s m n e : Guard} {t u v w x y : Tree} → Guarded first s m t u → Guarded second m n v w → Guarded third n e x y → Guarded as_it_is s e (labelled l (t ∷ v ∷ x ∷ [])) (labelled l (u ∷ w ∷ y ∷ []))
of_three l first second third is {s} {m} {n} {e} {t} {u} {v} {w} {x} {y} p q r = record {
  same = r.same ∙ (q.same ∙ p.same);
  noted = λ h. p.noted (q.noted (r.noted h));
  whole = λ h. ap (λ f. record { label = l; children = f })
      (ap (λ z. before z (before w (before y end))) (p.whole (q.noted (r.noted h)))
      ∙ (ap (λ z. before (first s.comparisons (tree_with_parentheses s.comparisons t)) (before z (before y end))) (q.whole (r.noted h) ∙ ap (λ b. second b (tree_with_parentheses b v)) p.same)
      ∙ (ap (λ z. before (first s.comparisons (tree_with_parentheses s.comparisons t)) (before (second s.comparisons (tree_with_parentheses s.comparisons v)) (before z end))) (r.whole h ∙ ap (λ b. third b (tree_with_parentheses b x)) (q.same ∙ p.same))
      ∙ sym (is s.comparisons (tree_with_parentheses s.comparisons t) (tree_with_parentheses s.comparisons v) (tree_with_parentheses s.comparisons x)))));
  only = ap (λ f. record { label = l; children = f })
      (is true (tree_with_parentheses true u) (tree_with_parentheses true w) (tree_with_parentheses true y)
      ∙ (ap (λ z. before z (before (second true (tree_with_parentheses true w)) (before (third true (tree_with_parentheses true y)) end))) p.only
      ∙ (ap (λ z. before (first true (tree_with_parentheses true t)) (before z (before (third true (tree_with_parentheses true y)) end))) q.only
      ∙ (ap (λ z. before (first true (tree_with_parentheses true t)) (before (second true (tree_with_parentheses true v)) (before z end))) r.only
      ∙ sym (is true (tree_with_parentheses true t) (tree_with_parentheses true v) (tree_with_parentheses true x))))));
}

-- what is no expression gets no parentheses
pub as_such : {place : Bool → Tree → Tree} {s : Guard} (t : Tree) → ((b : Bool) → place b (tree_with_parentheses b t) ≡ t) → Guarded place s s t t
as_such {place} {s} t is = record { same = refl; noted = λ h. h; whole = λ h. sym (is s.comparisons); only = refl }

pub untouched_kind : {s : Guard} (k : DeclarationKind) → Guarded as_it_is s s (kind_tree k) (kind_tree k)
untouched_kind kinds.Const = as_such (kind_tree kinds.Const) (λ b. refl)
untouched_kind kinds.Override = as_such (kind_tree kinds.Override) (λ b. refl)
untouched_kind kinds.Let = as_such (kind_tree kinds.Let) (λ b. refl)
untouched_kind (kinds.Var None) = as_such (kind_tree (kinds.Var None)) (λ b. refl)
untouched_kind (kinds.Var (Some (a, None))) = as_such (kind_tree (kinds.Var (Some (a, None)))) (λ b. refl)
untouched_kind (kinds.Var (Some (a, Some m))) = as_such (kind_tree (kinds.Var (Some (a, Some m)))) (λ b. refl)

pub untouched_ident : {s : Guard} (r : Role) (i : Ident) → Guarded as_it_is s s (ident_tree r i) (ident_tree r i)
untouched_ident r i = as_such (ident_tree r i) (λ b. refl)

pub untouched_path : {s : Guard} (p : Option (Box ModulePath)) → Guarded as_it_is s s (optional boxed_path p) (optional boxed_path p)
untouched_path None = as_such (optional boxed_path None) (λ b. refl)
untouched_path (Some p) = as_such (optional boxed_path (Some p)) (λ b. refl)

pub untouched_text : {s : Guard} {place : Bool → Tree → Tree} (x : String Global) → ((b : Bool) → place b (text_tree x) ≡ text_tree x) → Guarded place s s (text_tree x) (text_tree x)
untouched_text x is = as_such (text_tree x) is

pub untouched_names : {s : Guard} (xs : Vec (String Global)) → Guarded as_it_is s s (names_tree xs) (names_tree xs)
untouched_names xs = as_such (names_tree xs) (λ b. refl)

pub untouched_literal : {s : Guard} (l : Literal) → Guarded as_it_is s s (literal_tree l) (literal_tree l)
untouched_literal (literals.Bool x) = as_such (literal_tree (literals.Bool x)) (λ b. refl)
untouched_literal (literals.Text x) = as_such (literal_tree (literals.Text x)) (λ b. refl)

-- a template argument by its expression
pub argument_guarded : {s e : Guard} (x : TemplateArg) (n : Spanned Expression) → Guarded as_item s e (expression_tree (out-TemplateArg x).expression) (expression_tree n)
    → Guarded as_it_is s e (argument_view x) (argument_view (roll-TemplateArg (record { expression = n })))
argument_guarded x n c = seen (view_argument x) (view_argument_of n) (of_operand (kind template_argument) (λ k. true) (λ b t. refl) c)

-- what is no expression gets no parentheses as an item of a list
pub listed_so : {s e : Guard} (k j : Kind) (ts us : List Tree) {t u : Tree} → t ≡ branch k ts → u ≡ branch j us → Guarded as_it_is s e t u → Guarded as_item s e t u
listed_so {s} {e} k j ts us {t} {u} p q c = seen p q (by (seen (sym p) (sym q) c)) where
  by : Guarded as_it_is s e (branch k ts) (branch j us) → Guarded as_item s e (branch k ts) (branch j us)
  by c = record { same = c.same; noted = c.noted; whole = c.whole; only = c.only }

pub selector_listed : {s e : Guard} (x y : CaseSelector) → Guarded as_it_is s e (selector_view x) (selector_view y) → Guarded as_item s e (selector_view x) (selector_view y)
selector_listed selectors.Default selectors.Default c = record { same = c.same; noted = c.noted; whole = c.whole; only = c.only }
selector_listed selectors.Default (selectors.Expression e) c = record { same = c.same; noted = c.noted; whole = c.whole; only = c.only }
selector_listed (selectors.Expression e) selectors.Default c = record { same = c.same; noted = c.noted; whole = c.whole; only = c.only }
selector_listed (selectors.Expression e) (selectors.Expression f) c = record { same = c.same; noted = c.noted; whole = c.whole; only = c.only }

pub argument_listed : {s e : Guard} (x : TemplateArg) (n : Spanned Expression) → Guarded as_item s e (expression_tree (out-TemplateArg x).expression) (expression_tree n)
    → Guarded as_item s e (argument_view x) (argument_view (roll-TemplateArg (record { expression = n })))
argument_listed x n c = listed_so template_argument template_argument (expression_tree (out-TemplateArg x).expression ∷ []) (expression_tree n ∷ []) (view_argument x) (view_argument_of n) (argument_guarded x n c)

parts_of_else_if : ElseIfClause → List Tree
parts_of_else_if x = attributes_tree (out-ElseIfClause x).attributes ∷ expression_tree (out-ElseIfClause x).expression ∷ compound_view (out-ElseIfClause x).body ∷ []

pub else_if_listed : {s e : Guard} (x y : ElseIfClause) → Guarded as_it_is s e (else_if_view x) (else_if_view y) → Guarded as_item s e (else_if_view x) (else_if_view y)
unfolding parts_of_else_if
else_if_listed x y c = listed_so else_if_clause else_if_clause (parts_of_else_if x) (parts_of_else_if y) (view_else_if x) (view_else_if y) c
