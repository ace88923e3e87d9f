-- How deep expressions stand in one another, one part after another.
use Rattle.std.proofs.Common.{◌≡◌, ◌<◌, ◌≤◌, ◌⊎◌, ◌+◌, ◌-◌, inl, inr, ℕ, suc, max, Bool, true, false, ◌&&◌, nat_le, if◌then◌else◌, List, length, get_or, map, drop, drop-cons, add-one, refl, sym, ap, ◌∙◌, arith}
use Rattle.std.proofs.lemmas.Bool.{le-leb, lt-leb}
use Rattle.std.proofs.lemmas.Bool.Decides.{leb_tells}
use Rattle.std.proofs.lemmas.List.{drop_all}
use Rattle.std.proofs.Math.Nat.{max-le}
use Rattle.wesl_tree_names.specs.Path.{Text}
use Rattle.wesl_tree_syntax.specs.Tree.{Forest, LabelOf, Tree, end, tree, forest_of, kind, at, ident, text, texts, truth, path, unary, binary, assignment, space, access, respell_forest, respell_label, expression_node, compound, switch_clause, call_statement, import_entry}
use Rattle.wesl_tree_syntax.specs.View.{argument_step, argument_view, call_step, expression_step, expression_tree, type_step}
use Rattle.wesl_tree_syntax.specs.declared.expression.TemplateArg.{TemplateArg, out-TemplateArg}
use Rattle.wesl_tree_syntax.specs.declared.expression.Expression.TheFolds.{fold_out-TemplateArg}
use Rattle.wesl_text_form.specs.Says.{is_level, levels}
use Rattle.wesl_text_read.specs.Depth.{levels_in, levels_of}
use Rattle.wesl_tree_syntax.proofs.Views.{view_call}

pub alone : (a : ℕ) → max a 0 ≡ a
alone a = omega arith

pub nothing_more : (n : ℕ) → nat_le 0 n ≡ true
nothing_more n = le-leb 0 n (omega arith)

pub both_within : (a b n : ℕ) → nat_le (max a b) n ≡ nat_le a n && nat_le b n
both_within a b n = by (leb_tells a n) (leb_tells b n) where
  by : ((nat_le a n ≡ true) × (a ≤ n)) ⊎ ((nat_le a n ≡ false) × (n < a)) → ((nat_le b n ≡ true) × (b ≤ n)) ⊎ ((nat_le b n ≡ false) × (n < b)) → nat_le (max a b) n ≡ nat_le a n && nat_le b n
  by (inl x) (inl y) = le-leb (max a b) n (max-le x.1 y.1) ∙ sym (ap (λ z. z && nat_le b n) x.0 ∙ y.0)
  by (inl x) (inr y) = let h : n < b = y.1 in lt-leb (max a b) n (omega arith) ∙ sym (ap (λ z. z && nat_le b n) x.0 ∙ y.0)
  by (inr x) y = let h : n < a = x.1 in lt-leb (max a b) n (omega arith) ∙ sym (ap (λ z. z && nat_le b n) x.0)

-- a level more
pub one_within : (a n : ℕ) → 0 < n → nat_le (suc a) n ≡ nat_le a (n - 1)
one_within a n some = by (leb_tells a (n - 1)) where
  by : ((nat_le a (n - 1) ≡ true) × (a ≤ n - 1)) ⊎ ((nat_le a (n - 1) ≡ false) × (n - 1 < a)) → nat_le (suc a) n ≡ nat_le a (n - 1)
  by (inl x) = let h : a ≤ n - 1 = x.1 in le-leb (suc a) n (omega arith) ∙ sym x.0
  by (inr x) = let h : n - 1 < a = x.1 in lt-leb (suc a) n (omega arith) ∙ sym x.0

pub none_within : (a n : ℕ) → n ≤ 0 → nat_le (suc a) n ≡ false
none_within a n none = lt-leb (suc a) n (omega arith)

pub ruleset steps = (alone, both_within, nothing_more, one_within, none_within)

-- a template argument has the levels of its expression
pub argument_levels : (a : TemplateArg) → levels_in (argument_view a) ≡ levels_in (expression_tree (out-TemplateArg a).expression)
argument_levels a = ap levels_in (fold_out-TemplateArg Tree Tree Tree Tree expression_step call_step argument_step type_step a) ∙ alone _

pub ruleset calls = (alone, both_within, view_call)

-- ---- lists

module _ {A : Type 0} (view : A → Tree) (n : ℕ) where
  abbrev pub all_within : List A → Bool
  all_within xs = nat_le (levels_of (forest_of (map view xs))) n

  within_next : (xs : List A) (i : ℕ) (x : A) → i < length xs → x ≡ get_or xs i x → all_within (drop i xs) ≡ nat_le (levels_in (view x)) n && all_within (drop (i + 1) xs)
  within_next xs i x h is =
      rw (drop-cons xs i x h, ← is, add-one) (ap (λ z. nat_le (max z (levels_of (forest_of (map view (drop (suc i) xs))))) n) (sym (alone _)) ∙ both_within (levels_in (view x)) (levels_of (forest_of (map view (drop (suc i) xs)))) n)

  -- past one that is within
  pub next_within : (xs : List A) (i : ℕ) (x : A) → i < length xs → x ≡ get_or xs i x → nat_le (levels_in (view x)) n ≡ true → all_within xs ≡ all_within (drop i xs) → all_within xs ≡ all_within (drop (i + 1) xs)
  next_within xs i x h is within seen = seen ∙ within_next xs i x h is ∙ ap (λ b. b && all_within (drop (i + 1) xs)) within

  -- at one that is not
  pub not_within : (xs ys : List A) (i : ℕ) (x : A) → i < length xs → x ≡ get_or xs i x → xs ≡ ys → nat_le (levels_in (view x)) n ≡ false → all_within xs ≡ all_within (drop i xs) → false ≡ nat_le (max (levels_of (forest_of (map view ys))) 0) n
  not_within xs ys i x h is e outside seen =
      sym (ap (λ z. nat_le z n) (alone _) ∙ sym (ap all_within e) ∙ seen ∙ within_next xs i x h is ∙ ap (λ b. b && all_within (drop (i + 1) xs)) outside)

  -- past the last
  pub end_within : (xs ys : List A) (i : ℕ) → length xs ≤ i → xs ≡ ys → all_within xs ≡ all_within (drop i xs) → true ≡ nat_le (max (levels_of (forest_of (map view ys))) 0) n
  end_within xs ys i h e seen = sym (ap (λ z. nat_le z n) (alone _) ∙ sym (ap all_within e) ∙ seen ∙ ap all_within (drop_all i xs h) ∙ nothing_more n)

-- ---- names

label_spelled : (f g : ℕ → Text) (l : LabelOf ℕ) → is_level (respell_label f l) ≡ is_level (respell_label g l)
label_spelled f g (kind compound) = refl
label_spelled f g (kind switch_clause) = refl
label_spelled f g (kind call_statement) = refl
label_spelled f g (kind import_entry) = refl
label_spelled f g (kind k) = refl
label_spelled f g (at expression_node s e) = refl
label_spelled f g (at k s e) = refl
label_spelled f g (ident r i) = refl
label_spelled f g (text x) = refl
label_spelled f g (texts xs) = refl
label_spelled f g (truth b) = refl
label_spelled f g (unary o) = refl
label_spelled f g (binary o) = refl
label_spelled f g (assignment o) = refl
label_spelled f g (space s) = refl
label_spelled f g (access a) = refl
label_spelled f g (path p) = refl

-- the names of identifiers make no level
pub levels_spelled : (f g : ℕ → Text) (t : Forest) → levels (respell_forest f t) ≡ levels (respell_forest g t)
levels_spelled f g end = refl
levels_spelled f g (tree l c o) =
    ap (λ b. max (if b then suc (levels (respell_forest f c)) else levels (respell_forest f c)) (levels (respell_forest f o))) (label_spelled f g l)
    ∙ (ap (λ z. max (if is_level (respell_label g l) then suc z else z) (levels (respell_forest f o))) (levels_spelled f g c)
    ∙ ap (λ z. max (if is_level (respell_label g l) then suc (levels (respell_forest g c)) else levels (respell_forest g c)) z) (levels_spelled f g o))
