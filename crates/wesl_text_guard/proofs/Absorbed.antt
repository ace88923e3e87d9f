-- Parentheses that stand are not put again: with all of them, what has some becomes what it would have become without.
use Rattle.std.proofs.Common.{◌≡◌, ℕ, Bool, true, false, not, ◌&&◌, if◌then◌else◌, Option, refl, ap, ◌∙◌, sym as turned}
use Rattle.wesl_tree_syntax.specs.Tree.{LabelOf, ForestOf, TreeOf, before, end, tree, kind, at, unary, binary, expression_node, present, named_component, indexing, list, template_argument, expression_case, workgroup_size}
use Rattle.wesl_text_form.specs.Operators.{Class, primary, product, sum, same_class, class_of, operator_class, is_tight, takes_left, takes_right}
use Rattle.wesl_text_guard.specs.Parentheses.{first_label, enclosed, fit, fit_option, first_fits, second_fits, each_fits, options_fit, others_fit, stands_listed, stands_as_operand, fitted, with_parentheses, tree_with_parentheses}

-- every operation takes what is primary
pub left_takes_primary : (c : Class) → takes_left c primary ≡ true
left_takes_primary product = refl
left_takes_primary c = refl

pub right_takes_primary : (c : Class) → takes_right c primary ≡ true
right_takes_primary sum = refl
right_takes_primary c = refl

module _ {I : Type 0} where
  -- the first label stays
  pub label_stays : (b : Bool) (f : ForestOf I) → first_label (with_parentheses b f) ≡ first_label f
  label_stays b end = refl
  label_stays b (tree l children others) = refl

  -- what gets parentheses gets them also where all are put
  pub more_enclosed : (takes : Class → Bool) (b : Bool) (l : Option (LabelOf I)) → stands_as_operand b takes l ≡ false → stands_as_operand true takes l ≡ false
  more_enclosed takes true l h = h
  more_enclosed takes false l h = by (takes (class_of l)) h where
    by : (t : Bool) → (t && true) ≡ false → (t && stands_listed true l) ≡ false
    by true e = absurd (Prim.cc e)
    by false e = refl

  module _ (takes : Class → Bool) (p : takes primary ≡ true) (b : Bool) where
    expression_absorbed : (s e : ℕ) (f : ForestOf I)
        → fit (stands_as_operand true takes) (tree_with_parentheses true (fit (stands_as_operand b takes) (record { label = at expression_node s e; children = f })))
        ≡ fit (stands_as_operand true takes) (tree_with_parentheses true (record { label = at expression_node s e; children = f }))
    expression_absorbed s e f = by (stands_as_operand b takes (first_label f)) refl where
      by : (t : Bool) → stands_as_operand b takes (first_label f) ≡ t
          → fit (stands_as_operand true takes) (tree_with_parentheses true (record { label = at expression_node s e; children = if not t then enclosed (at expression_node s e) f else f }))
          ≡ fit (stands_as_operand true takes) (tree_with_parentheses true (record { label = at expression_node s e; children = f }))
      by true h = refl
      by false h =
          let g : ForestOf I = with_parentheses true f in
          let x : stands_as_operand true takes (first_label g) ≡ false = ap (stands_as_operand true takes) (label_stays true f) ∙ more_enclosed takes b (first_label f) h in
          ap (λ (z : Bool). let t : TreeOf I = record { label = at expression_node s e; children = if not (z && true) then enclosed (at expression_node s e) (enclosed (at expression_node s e) g) else enclosed (at expression_node s e) g } in t) p
          ∙ turned (ap (λ (z : Bool). let t : TreeOf I = record { label = at expression_node s e; children = if not z then enclosed (at expression_node s e) g else g } in t) x)

    pub fit_absorbed : (t : TreeOf I) → fit (stands_as_operand true takes) (tree_with_parentheses true (fit (stands_as_operand b takes) t)) ≡ fit (stands_as_operand true takes) (tree_with_parentheses true t)
    fit_absorbed t = by t.label t.children where
      by : (l : LabelOf I) (f : ForestOf I)
          → fit (stands_as_operand true takes) (tree_with_parentheses true (fit (stands_as_operand b takes) (record { label = l; children = f })))
          ≡ fit (stands_as_operand true takes) (tree_with_parentheses true (record { label = l; children = f }))
      by (at expression_node s e) f = expression_absorbed s e f
      by l f = refl

    pub first_absorbed : (f : ForestOf I) → first_fits (stands_as_operand true takes) (with_parentheses true (first_fits (stands_as_operand b takes) f)) ≡ first_fits (stands_as_operand true takes) (with_parentheses true f)
    first_absorbed end = refl
    first_absorbed (tree l children others) = ap (λ t. before t (with_parentheses true others)) (fit_absorbed (record { label = l; children = children }))

    pub each_absorbed : (f : ForestOf I) → each_fits (stands_as_operand true takes) (with_parentheses true (each_fits (stands_as_operand b takes) f)) ≡ each_fits (stands_as_operand true takes) (with_parentheses true f)
    each_absorbed end = refl
    each_absorbed (tree l children others) =
        ap (λ t. before t (each_fits (stands_as_operand true takes) (with_parentheses true (each_fits (stands_as_operand b takes) others)))) (fit_absorbed (record { label = l; children = children }))
        ∙ ap (before (fit (stands_as_operand true takes) (tree_with_parentheses true (record { label = l; children = children })))) (each_absorbed others)

  pub both_absorbed : (left right : Class → Bool) → left primary ≡ true → right primary ≡ true → (b : Bool) (f : ForestOf I)
      → second_fits (stands_as_operand true right) (first_fits (stands_as_operand true left) (with_parentheses true (second_fits (stands_as_operand b right) (first_fits (stands_as_operand b left) f))))
      ≡ second_fits (stands_as_operand true right) (first_fits (stands_as_operand true left) (with_parentheses true f))
  both_absorbed left right p q b end = refl
  both_absorbed left right p q b (tree l children others) =
      ap (λ t. before t (first_fits (stands_as_operand true right) (with_parentheses true (first_fits (stands_as_operand b right) others)))) (fit_absorbed left p b (record { label = l; children = children }))
      ∙ ap (before (fit (stands_as_operand true left) (tree_with_parentheses true (record { label = l; children = children })))) (first_absorbed right q b others)

  option_absorbed : (b : Bool) (t : TreeOf I) → fit_option (stands_listed true) (tree_with_parentheses true (fit_option (stands_listed b) t)) ≡ fit_option (stands_listed true) (tree_with_parentheses true t)
  option_absorbed b t = by t.label t.children where
    by : (l : LabelOf I) (f : ForestOf I)
        → fit_option (stands_listed true) (tree_with_parentheses true (fit_option (stands_listed b) (record { label = l; children = f })))
        ≡ fit_option (stands_listed true) (tree_with_parentheses true (record { label = l; children = f }))
    by (kind present) f = ap (λ g. let t : TreeOf I = record { label = kind present; children = g } in t) (first_absorbed (λ c. true) refl b f)
    by l f = refl

  options_absorbed : (b : Bool) (f : ForestOf I) → options_fit (stands_listed true) (with_parentheses true (options_fit (stands_listed b) f)) ≡ options_fit (stands_listed true) (with_parentheses true f)
  options_absorbed b end = refl
  options_absorbed b (tree l children others) =
      ap (λ t. before t (options_fit (stands_listed true) (with_parentheses true (options_fit (stands_listed b) others)))) (option_absorbed b (record { label = l; children = children }))
      ∙ ap (before (fit_option (stands_listed true) (tree_with_parentheses true (record { label = l; children = children })))) (options_absorbed b others)

  sizes_absorbed : (b : Bool) (f : ForestOf I)
      → others_fit (stands_listed true) (first_fits (stands_listed true) (with_parentheses true (others_fit (stands_listed b) (first_fits (stands_listed b) f))))
      ≡ others_fit (stands_listed true) (first_fits (stands_listed true) (with_parentheses true f))
  sizes_absorbed b end = refl
  sizes_absorbed b (tree l children others) =
      ap (λ t. before t (options_fit (stands_listed true) (with_parentheses true (options_fit (stands_listed b) others)))) (fit_absorbed (λ c. true) refl b (record { label = l; children = children }))
      ∙ ap (before (fit (stands_listed true) (tree_with_parentheses true (record { label = l; children = children })))) (options_absorbed b others)

  fitted_absorbed : (b : Bool) (l : LabelOf I) (f : ForestOf I) → fitted true l (with_parentheses true (fitted b l f)) ≡ fitted true l (with_parentheses true f)
  fitted_absorbed b (unary o) f = first_absorbed is_tight refl b f
  fitted_absorbed b (binary o) f = both_absorbed (takes_left (operator_class o)) (takes_right (operator_class o)) (left_takes_primary (operator_class o)) (right_takes_primary (operator_class o)) b f
  fitted_absorbed b (kind named_component) f = first_absorbed (same_class primary) refl b f
  fitted_absorbed b (kind indexing) f = both_absorbed (same_class primary) (λ c. true) refl refl b f
  fitted_absorbed b (kind list) f = each_absorbed (λ c. true) refl b f
  fitted_absorbed b (kind template_argument) f = first_absorbed (λ c. true) refl b f
  fitted_absorbed b (kind expression_case) f = first_absorbed (λ c. true) refl b f
  fitted_absorbed b (kind workgroup_size) f = sizes_absorbed b f
  fitted_absorbed b l f = refl

  pub absorbed : (b : Bool) (f : ForestOf I) → with_parentheses true (with_parentheses b f) ≡ with_parentheses true f
  absorbed b end = refl
  absorbed b (tree l children others) =
      ap (λ f. tree l f (with_parentheses true (with_parentheses b others))) (fitted_absorbed b l (with_parentheses b children) ∙ ap (fitted true l) (absorbed b children))
      ∙ ap (λ f. tree l (fitted true l (with_parentheses true children)) f) (absorbed b others)

  pub tree_absorbed : (b : Bool) (t : TreeOf I) → tree_with_parentheses true (tree_with_parentheses b t) ≡ tree_with_parentheses true t
  tree_absorbed b t = ap (λ f. record { label = t.label; children = f }) (fitted_absorbed b t.label (with_parentheses b t.children) ∙ ap (fitted true t.label) (absorbed b t.children))
