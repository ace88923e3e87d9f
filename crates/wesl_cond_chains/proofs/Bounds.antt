-- What is left of a module names nothing outside its table.
use Rattle.std.proofs.Common.{◌≡◌, ℕ, Bool, true, false, ◌&&◌, cond, Option, Some, None, nat_lt, refl, sym, ap, ◌∙◌}
use Rattle.wesl_cond_chains.specs.Residual.{residual_forest, residual_tree}
use Rattle.wesl_cond_chains.proofs.Natural.{through_natural}
use Rattle.wesl_cond_features.specs.Answers.{Answers}
use Rattle.wesl_tree_syntax.specs.Tree.{Label, Forest, Tree, LabelOf, ForestOf, end, tree, ident, truth, label_below, forest_below, tree_below, respell_label, respell_forest}
use Rattle.std.proofs.lemmas.Bool.{and_parts}

-- a number of a table of n names, as itself
abbrev within : ℕ → ℕ → Option ℕ
within n i = cond (nat_lt i n) (Some i) None

label_same : (n : ℕ) (l : Label) → label_below n l ≡ true → respell_label (within n) l ≡ respell_label Some l
label_same n (ident s i) h = ap (λ b. ident s (cond b (Some i) None)) h
label_same n l h = refl

forest_same : (n : ℕ) (f : Forest) → forest_below n f ≡ true → respell_forest (within n) f ≡ respell_forest Some f
forest_same n end h = refl
forest_same n (tree l c o) h =
    let front = and_parts (label_below n l && forest_below n c) (forest_below n o) h in
    let parts = and_parts (label_below n l) (forest_below n c) front.0 in
    rw (label_same n l parts.0, forest_same n c parts.1, forest_same n o front.1) refl

abbrev label_of : ForestOf (Option ℕ) → LabelOf (Option ℕ)
label_of end = truth true
label_of (tree l c o) = l

abbrev children_of : ForestOf (Option ℕ) → ForestOf (Option ℕ)
children_of end = end
children_of (tree l c o) = c

abbrev others_of : ForestOf (Option ℕ) → ForestOf (Option ℕ)
others_of end = end
others_of (tree l c o) = o

abbrev number_of : LabelOf (Option ℕ) → Option ℕ
number_of (ident s i) = i
number_of l = None

some_within : (b : Bool) (i : ℕ) → cond b (Some i) None ≡ Some i → b ≡ true
some_within true i e = refl
some_within false i e = cc

label_within : (n : ℕ) (l : Label) → respell_label (within n) l ≡ respell_label Some l → label_below n l ≡ true
label_within n (ident s i) e = some_within (nat_lt i n) i (ap number_of e)
label_within n l e = refl

forest_within : (n : ℕ) (f : Forest) → respell_forest (within n) f ≡ respell_forest Some f → forest_below n f ≡ true
forest_within n end e = refl
forest_within n (tree l c o) e = rw (label_within n l (ap label_of e), forest_within n c (ap children_of e), forest_within n o (ap others_of e)) refl

module _ (n : ℕ) (known : Answers ℕ) (outside : (i : ℕ) → nat_lt i n ≡ false → known i ≡ known n) where
  abbrev answered : Answers (Option ℕ)
  answered None = known n
  answered (Some i) = known i

  agrees : (i : ℕ) (b : Bool) → nat_lt i n ≡ b → known i ≡ answered (cond b (Some i) None)
  agrees i true e = refl
  agrees i false e = outside i e

  residual_below : (f : Forest) → forest_below n f ≡ true → forest_below n (residual_forest known f) ≡ true
  residual_below f h = forest_within n (residual_forest known f)
      (sym (through_natural (within n) known answered (λ i. agrees i (nat_lt i n) refl) false f)
      ∙ ap (residual_forest answered) (forest_same n f h)
      ∙ through_natural Some known answered (λ i. refl) false f)

  and_true : (b : Bool) → (b && true) ≡ b
  and_true true = refl
  and_true false = refl

  -- what is left of a tree keeps its label
  abbrev inner : Tree → Forest
  inner t = (residual_tree known t).children

  pub tree_left_below : (t : Tree) → tree_below n t ≡ true → tree_below n (residual_tree known t) ≡ true
  tree_left_below t h = sym (and_true (label_below n t.label && forest_below n (inner t))) ∙ residual_below (tree t.label t.children end) (and_true (label_below n t.label && forest_below n t.children) ∙ h)
