-- Parentheses do not rest on what identifiers are: they may be put before each is spelled, or behind.
use Rattle.std.proofs.Common.{◌≡◌, ℕ, Bool, true, false, not, if◌then◌else◌, Option, Some, None, option_map, refl, ap, ◌∙◌}
use Rattle.wesl_tree_syntax.specs.Tree.{LabelOf, ForestOf, TreeOf, before, end, tree, kind, at, unary, binary, expression_node, present, named_component, indexing, list, template_argument, expression_case, workgroup_size, respell_label, respell_forest, respell}
use Rattle.wesl_text_form.specs.Operators.{Class, primary, same_class, operator_class, is_tight, takes_left, takes_right}
use Rattle.wesl_text_guard.specs.Parentheses.{first_label, enclosed, fit, fit_option, first_fits, second_fits, each_fits, options_fit, others_fit, stands_listed, stands_as_operand, fitted, with_parentheses, tree_with_parentheses}

module _ {I J : Type 0} (f : I → J) (b : Bool) where
  first_respelled : (ts : ForestOf I) → first_label (respell_forest f ts) ≡ option_map (respell_label f) (first_label ts)
  first_respelled end = refl
  first_respelled (tree l children others) = refl

  test_respelled : (takes : Class → Bool) (l : Option (LabelOf I)) → stands_as_operand b takes (option_map (respell_label f) l) ≡ stands_as_operand b takes l
  test_respelled takes None = refl
  test_respelled takes (Some (unary o)) = refl
  test_respelled takes (Some l) = refl

  chosen : (t : Bool) (s e : ℕ) (ts : ForestOf I)
      → (if not t then enclosed (at expression_node 0 0) (respell_forest f ts) else respell_forest f ts) ≡ respell_forest f (if not t then enclosed (at expression_node s e) ts else ts)
  chosen true s e ts = refl
  chosen false s e ts = refl

  fit_respelled : (takes : Class → Bool) (t : TreeOf I) → fit (stands_as_operand b takes) (respell f t) ≡ respell f (fit (stands_as_operand b takes) t)
  fit_respelled takes t = by t.label t.children where
    by : (l : LabelOf I) (ts : ForestOf I) → fit (stands_as_operand b takes) (respell f (record { label = l; children = ts })) ≡ respell f (fit (stands_as_operand b takes) (record { label = l; children = ts }))
    by (at expression_node s e) ts =
        ap (λ (z : Bool). record { label = at expression_node 0 0; children = if not z then enclosed (at expression_node 0 0) (respell_forest f ts) else respell_forest f ts })
        (ap (stands_as_operand b takes) (first_respelled ts) ∙ test_respelled takes (first_label ts))
        ∙ ap (λ us. record { label = at expression_node 0 0; children = us }) (chosen (stands_as_operand b takes (first_label ts)) s e ts)
    by l ts = refl

  first_fits_respelled : (takes : Class → Bool) (ts : ForestOf I) → first_fits (stands_as_operand b takes) (respell_forest f ts) ≡ respell_forest f (first_fits (stands_as_operand b takes) ts)
  first_fits_respelled takes end = refl
  first_fits_respelled takes (tree l children others) = ap (λ t. before t (respell_forest f others)) (fit_respelled takes (record { label = l; children = children }))

  second_fits_respelled : (takes : Class → Bool) (ts : ForestOf I) → second_fits (stands_as_operand b takes) (respell_forest f ts) ≡ respell_forest f (second_fits (stands_as_operand b takes) ts)
  second_fits_respelled takes end = refl
  second_fits_respelled takes (tree l children others) = ap (tree (respell_label f l) (respell_forest f children)) (first_fits_respelled takes others)

  each_fits_respelled : (ts : ForestOf I) → each_fits (stands_listed b) (respell_forest f ts) ≡ respell_forest f (each_fits (stands_listed b) ts)
  each_fits_respelled end = refl
  each_fits_respelled (tree l children others) =
      ap (λ t. before t (each_fits (stands_listed b) (respell_forest f others))) (fit_respelled (λ c. true) (record { label = l; children = children }))
      ∙ ap (before (respell f (fit (stands_listed b) (record { label = l; children = children })))) (each_fits_respelled others)

  option_respelled : (t : TreeOf I) → fit_option (stands_listed b) (respell f t) ≡ respell f (fit_option (stands_listed b) t)
  option_respelled t = by t.label t.children where
    by : (l : LabelOf I) (ts : ForestOf I) → fit_option (stands_listed b) (respell f (record { label = l; children = ts })) ≡ respell f (fit_option (stands_listed b) (record { label = l; children = ts }))
    by (kind present) ts = ap (λ us. record { label = kind present; children = us }) (first_fits_respelled (λ c. true) ts)
    by l ts = refl

  options_respelled : (ts : ForestOf I) → options_fit (stands_listed b) (respell_forest f ts) ≡ respell_forest f (options_fit (stands_listed b) ts)
  options_respelled end = refl
  options_respelled (tree l children others) =
      ap (λ t. before t (options_fit (stands_listed b) (respell_forest f others))) (option_respelled (record { label = l; children = children }))
      ∙ ap (before (respell f (fit_option (stands_listed b) (record { label = l; children = children })))) (options_respelled others)

  others_respelled : (ts : ForestOf I) → others_fit (stands_listed b) (respell_forest f ts) ≡ respell_forest f (others_fit (stands_listed b) ts)
  others_respelled end = refl
  others_respelled (tree l children others) = ap (tree (respell_label f l) (respell_forest f children)) (options_respelled others)

  fitted_respelled : (l : LabelOf I) (ts : ForestOf I) → fitted b (respell_label f l) (respell_forest f ts) ≡ respell_forest f (fitted b l ts)
  fitted_respelled (unary o) ts = first_fits_respelled is_tight ts
  fitted_respelled (binary o) ts = ap (second_fits (stands_as_operand b (takes_right (operator_class o)))) (first_fits_respelled (takes_left (operator_class o)) ts)
      ∙ second_fits_respelled (takes_right (operator_class o)) (first_fits (stands_as_operand b (takes_left (operator_class o))) ts)
  fitted_respelled (kind named_component) ts = first_fits_respelled (same_class primary) ts
  fitted_respelled (kind indexing) ts = ap (second_fits (stands_listed b)) (first_fits_respelled (same_class primary) ts) ∙ second_fits_respelled (λ c. true) (first_fits (stands_as_operand b (same_class primary)) ts)
  fitted_respelled (kind list) ts = each_fits_respelled ts
  fitted_respelled (kind template_argument) ts = first_fits_respelled (λ c. true) ts
  fitted_respelled (kind expression_case) ts = first_fits_respelled (λ c. true) ts
  fitted_respelled (kind workgroup_size) ts = ap (others_fit (stands_listed b)) (first_fits_respelled (λ c. true) ts) ∙ others_respelled (first_fits (stands_listed b) ts)
  fitted_respelled l ts = refl

  pub respelled : (ts : ForestOf I) → with_parentheses b (respell_forest f ts) ≡ respell_forest f (with_parentheses b ts)
  respelled end = refl
  respelled (tree l children others) =
      ap (λ us. tree (respell_label f l) us (with_parentheses b (respell_forest f others))) (ap (fitted b (respell_label f l)) (respelled children) ∙ fitted_respelled l (with_parentheses b children))
      ∙ ap (tree (respell_label f l) (respell_forest f (fitted b l (with_parentheses b children)))) (respelled others)

  pub tree_respelled : (t : TreeOf I) → tree_with_parentheses b (respell f t) ≡ respell f (tree_with_parentheses b t)
  tree_respelled t = ap (λ us. record { label = respell_label f t.label; children = us }) (ap (fitted b (respell_label f t.label)) (respelled t.children) ∙ fitted_respelled t.label (with_parentheses b t.children))
