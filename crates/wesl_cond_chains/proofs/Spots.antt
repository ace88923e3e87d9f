-- How trees read among expressions, by two forms: the node of an expression, and any other tree.
use Rattle.std.proofs.Common.{◌≡◌, ℕ, ◌∷◌, refl}
use Rattle.wesl_cond_chains.specs.Formulas.{nowhere, reading, spots}
use Rattle.wesl_tree_syntax.specs.Tree.{LabelOf, ForestOf, end, tree, at, respell_label, respell_forest, expression_node}

abbrev pub below_first : {I : Type 0} → ForestOf I → ForestOf I
below_first end = end
below_first (tree l c others) = c

-- a tree that reads as it stands
abbrev pub ReadsPlainly : {I : Type 0} → LabelOf I → ForestOf I → Type 0
ReadsPlainly {I = I} l c = (others : ForestOf I) → spots (tree l c others) ≡ record { span = nowhere; form = reading l c (spots c) } ∷ spots others

module _ {I J : Type 0} (r : I → J) where
  -- What holds of the node of an expression, and of a tree that reads as it stands and does so with other identifiers, holds of every tree.
  pub by_reading : (P : LabelOf I → ForestOf I → Type 0) → ((s e : ℕ) (l : LabelOf I) (c : ForestOf I) → P (at expression_node s e) (tree l c end))
      → ((l : LabelOf I) (c : ForestOf I) → ReadsPlainly l c → ReadsPlainly (respell_label r l) (respell_forest r c) → P l c) → (l : LabelOf I) (c : ForestOf I) → P l c
  by_reading P node plain (at expression_node s e) (tree l c end) = node s e l c
  by_reading P node plain l c = plain l c (λ others. refl) (λ others. refl)
