-- Trees whose identifiers are replaced.
use Rattle.std.proofs.Common.{◌≡◌, List, ◌∷◌, ◌++◌, map, refl, sym, ◌∙◌, ap}
use Rattle.std.proofs.lemmas.List.{map-append}
use Rattle.wesl_tree_syntax.specs.Tree.{ForestOf, end, tree, kind, at, ident, text, texts, truth, unary, binary, assignment, space, access, path, identifiers, respell_forest}
use Rattle.wesl_link_assembly.proofs.Renumbered.{paired}

-- replaced twice, or once
module _ {I J L : Type 0} (g : I → J) (k : J → L) (h : I → L) (same : (x : I) → h x ≡ k (g x)) where
  pub replaced_twice : (f : ForestOf I) → respell_forest h f ≡ respell_forest k (respell_forest g f)
  replaced_twice end = refl
  replaced_twice (tree (ident r x) children others) = ap (λ y. tree (ident r y) (respell_forest h children) (respell_forest h others)) (same x) ∙ paired _ _ _ _ _ (replaced_twice children) (replaced_twice others)
  replaced_twice (tree (kind k) children others) = paired _ _ _ _ _ (replaced_twice children) (replaced_twice others)
  replaced_twice (tree (at k i j) children others) = paired _ _ _ _ _ (replaced_twice children) (replaced_twice others)
  replaced_twice (tree (text y) children others) = paired _ _ _ _ _ (replaced_twice children) (replaced_twice others)
  replaced_twice (tree (texts y) children others) = paired _ _ _ _ _ (replaced_twice children) (replaced_twice others)
  replaced_twice (tree (truth y) children others) = paired _ _ _ _ _ (replaced_twice children) (replaced_twice others)
  replaced_twice (tree (unary y) children others) = paired _ _ _ _ _ (replaced_twice children) (replaced_twice others)
  replaced_twice (tree (binary y) children others) = paired _ _ _ _ _ (replaced_twice children) (replaced_twice others)
  replaced_twice (tree (assignment y) children others) = paired _ _ _ _ _ (replaced_twice children) (replaced_twice others)
  replaced_twice (tree (space y) children others) = paired _ _ _ _ _ (replaced_twice children) (replaced_twice others)
  replaced_twice (tree (access y) children others) = paired _ _ _ _ _ (replaced_twice children) (replaced_twice others)
  replaced_twice (tree (path y) children others) = paired _ _ _ _ _ (replaced_twice children) (replaced_twice others)

module _ {I J : Type 0} (g : I → J) where
  joined : (xs ys : List I) (us vs : List J) → us ≡ map g xs → vs ≡ map g ys → us ++ vs ≡ map g (xs ++ ys)
  joined xs ys us vs e f = ap (λ z. z ++ vs) e ∙ (ap (λ z. map g xs ++ z) f ∙ sym (map-append g xs ys))

  pub identifiers_replaced : (f : ForestOf I) → identifiers (respell_forest g f) ≡ map g (identifiers f)
  identifiers_replaced end = refl
  identifiers_replaced (tree (ident r x) children others) = ap (λ xs. g x ∷ xs) (identifiers_replaced others)
  identifiers_replaced (tree (kind k) children others) = joined _ _ _ _ (identifiers_replaced children) (identifiers_replaced others)
  identifiers_replaced (tree (at k i j) children others) = joined _ _ _ _ (identifiers_replaced children) (identifiers_replaced others)
  identifiers_replaced (tree (text y) children others) = joined _ _ _ _ (identifiers_replaced children) (identifiers_replaced others)
  identifiers_replaced (tree (texts y) children others) = joined _ _ _ _ (identifiers_replaced children) (identifiers_replaced others)
  identifiers_replaced (tree (truth y) children others) = joined _ _ _ _ (identifiers_replaced children) (identifiers_replaced others)
  identifiers_replaced (tree (unary y) children others) = joined _ _ _ _ (identifiers_replaced children) (identifiers_replaced others)
  identifiers_replaced (tree (binary y) children others) = joined _ _ _ _ (identifiers_replaced children) (identifiers_replaced others)
  identifiers_replaced (tree (assignment y) children others) = joined _ _ _ _ (identifiers_replaced children) (identifiers_replaced others)
  identifiers_replaced (tree (space y) children others) = joined _ _ _ _ (identifiers_replaced children) (identifiers_replaced others)
  identifiers_replaced (tree (access y) children others) = joined _ _ _ _ (identifiers_replaced children) (identifiers_replaced others)
  identifiers_replaced (tree (path y) children others) = joined _ _ _ _ (identifiers_replaced children) (identifiers_replaced others)
