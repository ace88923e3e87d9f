-- Parentheses hold no identifiers: the numbers of a tree stay, and stay below a bound.
use Rattle.std.proofs.Common.{◌≡◌, ℕ, Bool, true, false, not, ◌&&◌, if◌then◌else◌, List, [], ◌∷◌, ◌++◌, refl, ap, ◌∙◌, sym as turned}
use Rattle.wesl_tree_syntax.specs.Tree.{LabelOf, Forest, ForestOf, Tree, before, end, tree, kind, at, ident, unary, binary, expression_node, present, parenthesized, named_component, indexing, list, template_argument, expression_case, workgroup_size, identifiers, label_below, forest_below, tree_below}
use Rattle.wesl_text_form.specs.Operators.{Class, primary, same_class, operator_class, is_tight, takes_left, takes_right}
use Rattle.wesl_text_guard.specs.Parentheses.{first_label, enclosed, fit, fit_option, first_fits, second_fits, each_fits, options_fit, others_fit, stands_listed, stands_as_operand, fitted, with_parentheses, tree_with_parentheses}
use mathlib.Core.Bool.{and-true}

append_none : {A : Type 0} (xs : List A) → xs ++ [] ≡ xs
append_none [] = refl
append_none (x ∷ xs) = ap (λ ys. x ∷ ys) (append_none xs)

-- What is said of trees side by side may be kept where it is said of a tree and of those behind it, and parentheses say nothing.
module _ {I A : Type 0} (said : ForestOf I → A) (joined : LabelOf I → A → A → A)
    (is : (l : LabelOf I) (children others : ForestOf I) → said (tree l children others) ≡ joined l (said children) (said others))
    (quiet : (s e : ℕ) (children others : A) → joined (at expression_node s e) (joined (kind parenthesized) (joined (at expression_node s e) children (said end)) (said end)) others ≡ joined (at expression_node s e) children others)
    (b : Bool) where
  kept_fit : (takes : Class → Bool) (l : LabelOf I) (children others : ForestOf I) → said (before (fit (stands_as_operand b takes) (record { label = l; children = children })) others) ≡ said (tree l children others)
  kept_fit takes (at expression_node s e) children others = by (stands_as_operand b takes (first_label children)) where
    l : LabelOf I
    l = at expression_node s e

    by : (t : Bool) → said (tree (at expression_node s e) (if not t then enclosed (at expression_node s e) children else children) others) ≡ said (tree (at expression_node s e) children others)
    by true = refl
    by false =
        is (at expression_node s e) (enclosed (at expression_node s e) children) others
        ∙ (ap (λ a. joined (at expression_node s e) a (said others)) (is (kind parenthesized) (tree (at expression_node s e) children end) end ∙ ap (λ a. joined (kind parenthesized) a (said end)) (is (at expression_node s e) children end))
        ∙ (quiet s e (said children) (said others) ∙ turned (is (at expression_node s e) children others)))
  kept_fit takes l children others = refl

  kept_under : (l : LabelOf I) (us vs others : ForestOf I) → said us ≡ said vs → said (tree l us others) ≡ said (tree l vs others)
  kept_under l us vs others e = is l us others ∙ (ap (λ a. joined l a (said others)) e ∙ turned (is l vs others))

  kept_behind : (l : LabelOf I) (children us vs : ForestOf I) → said us ≡ said vs → said (tree l children us) ≡ said (tree l children vs)
  kept_behind l children us vs e = is l children us ∙ (ap (joined l (said children)) e ∙ turned (is l children vs))

  kept_first : (takes : Class → Bool) (ts : ForestOf I) → said (first_fits (stands_as_operand b takes) ts) ≡ said ts
  kept_first takes end = refl
  kept_first takes (tree l children others) = kept_fit takes l children others

  kept_second : (takes : Class → Bool) (ts : ForestOf I) → said (second_fits (stands_as_operand b takes) ts) ≡ said ts
  kept_second takes end = refl
  kept_second takes (tree l children others) = kept_behind l children (first_fits (stands_as_operand b takes) others) others (kept_first takes others)

  kept_each : (ts : ForestOf I) → said (each_fits (stands_listed b) ts) ≡ said ts
  kept_each end = refl
  kept_each (tree l children others) = kept_fit (λ c. true) l children (each_fits (stands_listed b) others) ∙ kept_behind l children (each_fits (stands_listed b) others) others (kept_each others)

  kept_option : (l : LabelOf I) (children others : ForestOf I) → said (before (fit_option (stands_listed b) (record { label = l; children = children })) others) ≡ said (tree l children others)
  kept_option (kind present) children others = kept_under (kind present) (first_fits (stands_listed b) children) children others (kept_first (λ c. true) children)
  kept_option l children others = refl

  kept_options : (ts : ForestOf I) → said (options_fit (stands_listed b) ts) ≡ said ts
  kept_options end = refl
  kept_options (tree l children others) = kept_option l children (options_fit (stands_listed b) others) ∙ kept_behind l children (options_fit (stands_listed b) others) others (kept_options others)

  kept_others : (ts : ForestOf I) → said (others_fit (stands_listed b) ts) ≡ said ts
  kept_others end = refl
  kept_others (tree l children others) = kept_behind l children (options_fit (stands_listed b) others) others (kept_options others)

  pub kept_fitted : (l : LabelOf I) (ts : ForestOf I) → said (fitted b l ts) ≡ said ts
  kept_fitted (unary o) ts = kept_first is_tight ts
  kept_fitted (binary o) ts = kept_second (takes_right (operator_class o)) (first_fits (stands_as_operand b (takes_left (operator_class o))) ts) ∙ kept_first (takes_left (operator_class o)) ts
  kept_fitted (kind named_component) ts = kept_first (same_class primary) ts
  kept_fitted (kind indexing) ts = kept_second (λ c. true) (first_fits (stands_as_operand b (same_class primary)) ts) ∙ kept_first (same_class primary) ts
  kept_fitted (kind list) ts = kept_each ts
  kept_fitted (kind template_argument) ts = kept_first (λ c. true) ts
  kept_fitted (kind expression_case) ts = kept_first (λ c. true) ts
  kept_fitted (kind workgroup_size) ts = kept_others (first_fits (stands_listed b) ts) ∙ kept_first (λ c. true) ts
  kept_fitted l ts = refl

  pub kept : (ts : ForestOf I) → said (with_parentheses b ts) ≡ said ts
  kept end = refl
  kept (tree l children others) =
      kept_under l (fitted b l (with_parentheses b children)) children (with_parentheses b others) (kept_fitted l (with_parentheses b children) ∙ kept children)
      ∙ kept_behind l children (with_parentheses b others) others (kept others)

-- the numbers below a tree, and behind it
abbrev joined_identifiers : {I : Type 0} → LabelOf I → List I → List I → List I
joined_identifiers (ident r x) children others = x ∷ others
joined_identifiers l children others = children ++ others

joined_so : {I : Type 0} (l : LabelOf I) (children others : ForestOf I) → identifiers (tree l children others) ≡ joined_identifiers l (identifiers children) (identifiers others)
joined_so (ident r x) children others = refl
joined_so l children others = refl

pub identifiers_kept : {I : Type 0} (b : Bool) (ts : ForestOf I) → identifiers (with_parentheses b ts) ≡ identifiers ts
identifiers_kept b ts = kept identifiers joined_identifiers joined_so (λ s e children others. ap (λ xs. xs ++ others) (append_none (children ++ []) ∙ append_none children)) b ts

pub below_kept : (n : ℕ) (b : Bool) (ts : Forest) → forest_below n (with_parentheses b ts) ≡ forest_below n ts
below_kept n b ts = kept (forest_below n) (λ l children others. label_below n l && children && others) (λ l children others. refl)
    (λ s e children others. ap (λ z. z && others) (and-true (children && true) ∙ and-true children)) b ts

pub tree_below_kept : (n : ℕ) (b : Bool) (t : Tree) → tree_below n (tree_with_parentheses b t) ≡ tree_below n t
tree_below_kept n b t = ap (λ z. label_below n t.label && z) (kept_fitted (forest_below n) (λ l children others. label_below n l && children && others) (λ l children others. refl)
    (λ s e children others. ap (λ z. z && others) (and-true (children && true) ∙ and-true children)) b t.label (with_parentheses b t.children) ∙ below_kept n b t.children)
