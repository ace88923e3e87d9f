-- An operand gets its parentheses, and the parentheses round it.
use Rattle.std.proofs.Common.{◌≡◌, ◌⊎◌, inl, inr, Bool, true, false, not, ◌&&◌, if◌then◌else◌, [], ◌∷◌, Some, refl, ap, ◌∙◌, sym as turned, true≢false}
use Rattle.std.specs.Box.{box_value, with_value}
use Rattle.std.specs.Global.{Box}
use Rattle.wesl_tree_base.specs.declared.span.Span.{Span}
use Rattle.wesl_tree_syntax.specs.Tree.{Tree, Forest, at, before, branch, end, parenthesized, expression_node}
use Rattle.wesl_tree_syntax.specs.declared.expression.Expression as made
use Rattle.wesl_tree_syntax.specs.View.{expression_tree, expression_view}
use Rattle.wesl_tree_syntax.specs.declared.expression.Expression.{Expression}
use Rattle.wesl_tree_syntax.specs.declared.span.Spanned.{Spanned}
use Rattle.wesl_text_form.specs.Operators.{Class, primary}
use Rattle.wesl_text_guard.specs.Enclosing.{Encloses, enclosed_tree}
use Rattle.wesl_text_guard.specs.Guards.{Guarded, as_it_is, as_operand}
use Rattle.wesl_text_guard.specs.Parentheses.{enclosed, stands_as_operand, tree_with_parentheses}
use Rattle.wesl_text_guard.specs.declared.guard.Guard.{Guard}
use Rattle.wesl_text_guard.proofs.Absorbed.{more_enclosed}
use Rattle.wesl_tree_syntax.proofs.Views.{view_parenthesized}

-- an expression that was put into a box of its span, and that in parentheses into its place
pub put_in : (inner : Box (Spanned Expression)) (node : Spanned Expression) → (box_value inner).span ≡ node.span
    → expression_tree (record { node = made.Parenthesized (with_value inner (record { node = node.node; span = (box_value inner).span })); span = node.span }) ≡ enclosed_tree (expression_tree node)
put_in inner node h =
    ap (λ t. record { label = at expression_node node.span.start node.span.end; children = before t end }) (view_parenthesized (with_value inner (record { node = node.node; span = (box_value inner).span })))
    ∙ ap (λ (s : Span). record { label = at expression_node node.span.start node.span.end; children = before (branch parenthesized (record { label = at expression_node s.start s.end; children = before (expression_view node.node) end } ∷ [])) end }) h

-- what an operand becomes that stands without parentheses, and one that does not
stands_so : (takes : Class → Bool) (b c : Bool) (x : Spanned Expression) → stands_as_operand b takes (Some (expression_view x.node).label) ≡ true
    → as_operand takes b (tree_with_parentheses c (expression_tree x)) ≡ tree_with_parentheses c (expression_tree x)
stands_so takes b c x h = let t : Tree = tree_with_parentheses c (expression_tree x) in ap (λ (z : Bool). record { label = t.label; children = if not z then enclosed t.label t.children else t.children }) h

falls_so : (takes : Class → Bool) (b c : Bool) (x : Spanned Expression) → stands_as_operand b takes (Some (expression_view x.node).label) ≡ false
    → as_operand takes b (tree_with_parentheses c (expression_tree x)) ≡ enclosed_tree (tree_with_parentheses c (expression_tree x))
falls_so takes b c x h = let t : Tree = tree_with_parentheses c (expression_tree x) in ap (λ (z : Bool). record { label = t.label; children = if not z then enclosed t.label t.children else t.children }) h

-- one in parentheses is left so
enclosed_so : (takes : Class → Bool) → takes primary ≡ true → (y : Spanned Expression) → as_operand takes true (tree_with_parentheses true (enclosed_tree (expression_tree y))) ≡ enclosed_tree (tree_with_parentheses true (expression_tree y))
enclosed_so takes p y =
    let t : Tree = tree_with_parentheses true (expression_tree y) in
    let f : Forest = enclosed t.label t.children in
    ap (λ (z : Bool). record { label = t.label; children = if not (z && true) then enclosed t.label f else f }) p

module _ (takes : Class → Bool) (p : takes primary ≡ true) {s m e : Guard} (x y z : Spanned Expression) (g : Guarded as_it_is s m (expression_tree x) (expression_tree y)) where
  pub operand_stands : stands_as_operand s.comparisons takes (Some (expression_view x.node).label) ≡ true → e ≡ m → z ≡ y → Guarded (as_operand takes) s e (expression_tree x) (expression_tree z)
  operand_stands h i j = rw (i, j) (record {
    same = g.same;
    noted = g.noted;
    whole = λ n. g.whole n ∙ turned (stands_so takes s.comparisons s.comparisons x h);
    only = ap (as_operand takes true) g.only;
  })

  pub operand_falls : stands_as_operand s.comparisons takes (Some (expression_view x.node).label) ≡ false → Encloses m e y z → Guarded (as_operand takes) s e (expression_tree x) (expression_tree z)
  operand_falls h c = by c.put where
    b : Bool
    b = s.comparisons

    by : ((m.is_refused ≡ false) × (expression_tree z ≡ enclosed_tree (expression_tree y))) ⊎ ((e.is_refused ≡ true) × (z ≡ y)) → Guarded (as_operand takes) s e (expression_tree x) (expression_tree z)
    by (inl q) = record {
      same = c.same ∙ g.same;
      noted = λ n. g.noted q.0;
      whole = λ n. q.1 ∙ (ap enclosed_tree (g.whole q.0) ∙ turned (falls_so takes s.comparisons s.comparisons x h));
      only = ap (λ t. as_operand takes true (tree_with_parentheses true t)) q.1 ∙ (enclosed_so takes p y ∙ (ap enclosed_tree g.only
          ∙ turned (falls_so takes true true x (more_enclosed takes s.comparisons (Some (expression_view x.node).label) h))));
    }
    by (inr q) = record {
      same = c.same ∙ g.same;
      noted = λ n. absurd (true≢false (turned q.0 ∙ n));
      whole = λ n. absurd (true≢false (turned q.0 ∙ n));
      only = ap (λ (w : Spanned Expression). as_operand takes true (tree_with_parentheses true (expression_tree w))) q.1 ∙ ap (as_operand takes true) g.only;
    }

  pub operand_fits : (stands : Bool) → stands ≡ stands_as_operand s.comparisons takes (Some (expression_view x.node).label) → (stands ≡ true → (e ≡ m) × (z ≡ y)) → (stands ≡ false → Encloses m e y z)
      → Guarded (as_operand takes) s e (expression_tree x) (expression_tree z)
  operand_fits true h stays encloses = operand_stands (turned h) (stays refl).0 (stays refl).1
  operand_fits false h stays encloses = operand_falls (turned h) (encloses refl)
