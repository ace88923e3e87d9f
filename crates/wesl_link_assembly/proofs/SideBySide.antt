-- Trees side by side.
use Rattle.std.proofs.Common.{◌≡◌, List, [], ◌∷◌, ◌++◌, sym, refl, ◌∙◌, ap, append_assoc}
use Rattle.wesl_tree_syntax.specs.Tree.{ForestOf, TreeOf, end, tree, forest_of, kind, at, ident, text, texts, truth, unary, binary, assignment, space, access, path, identifiers, respell_label, respell_forest}
use Rattle.wesl_link_assembly.specs.Linked.{shape}
use Rattle.wesl_link_assembly.proofs.Retold.{forget}

abbrev pub side_by_side : {I : Type 0} → ForestOf I → ForestOf I → ForestOf I
side_by_side end g = g
side_by_side (tree l children others) g = tree l children (side_by_side others g)

module _ {I : Type 0} where
  pub forests_joined : (ts us : List (TreeOf I)) → forest_of (ts ++ us) ≡ side_by_side (forest_of ts) (forest_of us)
  forests_joined [] us = refl
  forests_joined (t ∷ ts) us = ap (λ f. tree t.label t.children f) (forests_joined ts us)

  pub shapes_joined : (f g : ForestOf I) → shape (side_by_side f g) ≡ side_by_side (shape f) (shape g)
  shapes_joined end g = refl
  shapes_joined (tree l children others) g = ap (λ x. tree (respell_label forget l) (respell_forest forget children) x) (shapes_joined others g)

  pub identifiers_joined : (f g : ForestOf I) → identifiers (side_by_side f g) ≡ identifiers f ++ identifiers g
  identifiers_joined end g = refl
  identifiers_joined (tree (ident r x) children others) g = ap (λ xs. x ∷ xs) (identifiers_joined others g)
  identifiers_joined (tree (kind k) children others) g = ap (λ xs. identifiers children ++ xs) (identifiers_joined others g) ∙ sym (append_assoc (identifiers children) (identifiers others) (identifiers g))
  identifiers_joined (tree (at k i j) children others) g = ap (λ xs. identifiers children ++ xs) (identifiers_joined others g) ∙ sym (append_assoc (identifiers children) (identifiers others) (identifiers g))
  identifiers_joined (tree (text y) children others) g = ap (λ xs. identifiers children ++ xs) (identifiers_joined others g) ∙ sym (append_assoc (identifiers children) (identifiers others) (identifiers g))
  identifiers_joined (tree (texts y) children others) g = ap (λ xs. identifiers children ++ xs) (identifiers_joined others g) ∙ sym (append_assoc (identifiers children) (identifiers others) (identifiers g))
  identifiers_joined (tree (truth y) children others) g = ap (λ xs. identifiers children ++ xs) (identifiers_joined others g) ∙ sym (append_assoc (identifiers children) (identifiers others) (identifiers g))
  identifiers_joined (tree (unary y) children others) g = ap (λ xs. identifiers children ++ xs) (identifiers_joined others g) ∙ sym (append_assoc (identifiers children) (identifiers others) (identifiers g))
  identifiers_joined (tree (binary y) children others) g = ap (λ xs. identifiers children ++ xs) (identifiers_joined others g) ∙ sym (append_assoc (identifiers children) (identifiers others) (identifiers g))
  identifiers_joined (tree (assignment y) children others) g = ap (λ xs. identifiers children ++ xs) (identifiers_joined others g) ∙ sym (append_assoc (identifiers children) (identifiers others) (identifiers g))
  identifiers_joined (tree (space y) children others) g = ap (λ xs. identifiers children ++ xs) (identifiers_joined others g) ∙ sym (append_assoc (identifiers children) (identifiers others) (identifiers g))
  identifiers_joined (tree (access y) children others) g = ap (λ xs. identifiers children ++ xs) (identifiers_joined others g) ∙ sym (append_assoc (identifiers children) (identifiers others) (identifiers g))
  identifiers_joined (tree (path y) children others) g = ap (λ xs. identifiers children ++ xs) (identifiers_joined others g) ∙ sym (append_assoc (identifiers children) (identifiers others) (identifiers g))
