-- Trees without paths.
use Rattle.std.proofs.Common.{◌≡◌, Bool, true, false, List, ◌∷◌, ◌++◌, refl, ◌∙◌, ap}
use Rattle.std.specs.Prelude.{if◌then◌else◌}
use Rattle.wesl_tree_syntax.specs.Tree.{LabelOf, ForestOf, end, tree, kind, at, ident, text, texts, truth, unary, binary, assignment, space, access, path, identifiers, respell_forest}
use Rattle.wesl_tree_syntax.specs.Nodes.{is_type}
use Rattle.wesl_link_assembly.specs.Pathless.{without_path, has_words, without_paths}

module _ {I : Type 0} where
  one_lost : (f : ForestOf I) → identifiers (without_path f) ≡ identifiers f
  one_lost end = refl
  one_lost (tree (at k s e) children others) = refl
  one_lost (tree (ident r x) children others) = refl
  one_lost (tree (text v) children others) = refl
  one_lost (tree (texts v) children others) = refl
  one_lost (tree (truth v) children others) = refl
  one_lost (tree (unary v) children others) = refl
  one_lost (tree (binary v) children others) = refl
  one_lost (tree (assignment v) children others) = refl
  one_lost (tree (space v) children others) = refl
  one_lost (tree (access v) children others) = refl
  one_lost (tree (path v) children others) = refl
  one_lost (tree (kind j) end others) = refl
  one_lost (tree (kind j) (tree (at k s e) below beside) others) = refl
  one_lost (tree (kind j) (tree (ident r x) below beside) others) = refl
  one_lost (tree (kind j) (tree (text v) below beside) others) = refl
  one_lost (tree (kind j) (tree (texts v) below beside) others) = refl
  one_lost (tree (kind j) (tree (truth v) below beside) others) = refl
  one_lost (tree (kind j) (tree (unary v) below beside) others) = refl
  one_lost (tree (kind j) (tree (binary v) below beside) others) = refl
  one_lost (tree (kind j) (tree (assignment v) below beside) others) = refl
  one_lost (tree (kind j) (tree (space v) below beside) others) = refl
  one_lost (tree (kind j) (tree (access v) below beside) others) = refl
  one_lost (tree (kind j) (tree (kind i) below beside) others) = refl
  one_lost (tree (kind j) (tree (path v) end end) others) = refl
  one_lost (tree (kind j) (tree (path v) end (tree a b c)) others) = refl
  one_lost (tree (kind j) (tree (path v) (tree a b c) beside) others) = refl

  -- a path has no identifiers
  chosen_lost : (a b : Bool) (c d : ForestOf I) → identifiers d ≡ identifiers c → identifiers (if a then without_path d else if b then c else d) ≡ identifiers c
  chosen_lost true b c d e = one_lost d ∙ e
  chosen_lost false true c d e = refl
  chosen_lost false false c d e = e

  joined : (a b c d : List I) → a ≡ c → b ≡ d → a ++ b ≡ c ++ d
  joined a b c d e f = ap (λ x. x ++ b) e ∙ ap (λ x. c ++ x) f

  pub same_identifiers : (f : ForestOf I) → identifiers (without_paths f) ≡ identifiers f
  same_identifiers end = refl
  same_identifiers (tree (ident r x) children others) = ap (λ xs. x ∷ xs) (same_identifiers others)
  same_identifiers (tree (kind k) children others) = joined _ _ _ _ (chosen_lost (is_type {I = I} (kind k)) (has_words {I = I} (kind k)) children (without_paths children) (same_identifiers children)) (same_identifiers others)
  same_identifiers (tree (at k s e) children others) = joined _ _ _ _ (same_identifiers children) (same_identifiers others)
  same_identifiers (tree (text v) children others) = joined _ _ _ _ (same_identifiers children) (same_identifiers others)
  same_identifiers (tree (texts v) children others) = joined _ _ _ _ (same_identifiers children) (same_identifiers others)
  same_identifiers (tree (truth v) children others) = joined _ _ _ _ (same_identifiers children) (same_identifiers others)
  same_identifiers (tree (unary v) children others) = joined _ _ _ _ (same_identifiers children) (same_identifiers others)
  same_identifiers (tree (binary v) children others) = joined _ _ _ _ (same_identifiers children) (same_identifiers others)
  same_identifiers (tree (assignment v) children others) = joined _ _ _ _ (same_identifiers children) (same_identifiers others)
  same_identifiers (tree (space v) children others) = joined _ _ _ _ (same_identifiers children) (same_identifiers others)
  same_identifiers (tree (access v) children others) = joined _ _ _ _ (same_identifiers children) (same_identifiers others)
  same_identifiers (tree (path v) children others) = joined _ _ _ _ (same_identifiers children) (same_identifiers others)

module _ {I J : Type 0} (g : I → J) where
  one_respelled : (f : ForestOf I) → respell_forest g (without_path f) ≡ without_path (respell_forest g f)
  one_respelled end = refl
  one_respelled (tree (at k s e) children others) = refl
  one_respelled (tree (ident r x) children others) = refl
  one_respelled (tree (text v) children others) = refl
  one_respelled (tree (texts v) children others) = refl
  one_respelled (tree (truth v) children others) = refl
  one_respelled (tree (unary v) children others) = refl
  one_respelled (tree (binary v) children others) = refl
  one_respelled (tree (assignment v) children others) = refl
  one_respelled (tree (space v) children others) = refl
  one_respelled (tree (access v) children others) = refl
  one_respelled (tree (path v) children others) = refl
  one_respelled (tree (kind j) end others) = refl
  one_respelled (tree (kind j) (tree (at k s e) below beside) others) = refl
  one_respelled (tree (kind j) (tree (ident r x) below beside) others) = refl
  one_respelled (tree (kind j) (tree (text v) below beside) others) = refl
  one_respelled (tree (kind j) (tree (texts v) below beside) others) = refl
  one_respelled (tree (kind j) (tree (truth v) below beside) others) = refl
  one_respelled (tree (kind j) (tree (unary v) below beside) others) = refl
  one_respelled (tree (kind j) (tree (binary v) below beside) others) = refl
  one_respelled (tree (kind j) (tree (assignment v) below beside) others) = refl
  one_respelled (tree (kind j) (tree (space v) below beside) others) = refl
  one_respelled (tree (kind j) (tree (access v) below beside) others) = refl
  one_respelled (tree (kind j) (tree (kind i) below beside) others) = refl
  one_respelled (tree (kind j) (tree (path v) end end) others) = refl
  one_respelled (tree (kind j) (tree (path v) end (tree a b c)) others) = refl
  one_respelled (tree (kind j) (tree (path v) (tree a b c) beside) others) = refl

  chosen_respelled : (a b : Bool) (c d : ForestOf I) (d' : ForestOf J) → respell_forest g d ≡ d' → respell_forest g (if a then without_path d else if b then c else d) ≡ (if a then without_path d' else if b then respell_forest g c else d')
  chosen_respelled true b c d d' e = one_respelled d ∙ ap without_path e
  chosen_respelled false true c d d' e = refl
  chosen_respelled false false c d d' e = e

  paired : (l : LabelOf J) (a b c d : ForestOf J) → a ≡ c → b ≡ d → tree l a b ≡ tree l c d
  paired l a b c d e f = ap (λ x. tree l x b) e ∙ ap (λ x. tree l c x) f

  -- it is the same before and after identifiers are replaced
  pub respelled_without : (f : ForestOf I) → respell_forest g (without_paths f) ≡ without_paths (respell_forest g f)
  respelled_without end = refl
  respelled_without (tree (kind k) children others) = paired _ _ _ _ _ (chosen_respelled (is_type {I = I} (kind k)) (has_words {I = I} (kind k)) children (without_paths children) (without_paths (respell_forest g children)) (respelled_without children)) (respelled_without others)
  respelled_without (tree (at k s e) children others) = paired _ _ _ _ _ (respelled_without children) (respelled_without others)
  respelled_without (tree (ident r x) children others) = paired _ _ _ _ _ (respelled_without children) (respelled_without others)
  respelled_without (tree (text v) children others) = paired _ _ _ _ _ (respelled_without children) (respelled_without others)
  respelled_without (tree (texts v) children others) = paired _ _ _ _ _ (respelled_without children) (respelled_without others)
  respelled_without (tree (truth v) children others) = paired _ _ _ _ _ (respelled_without children) (respelled_without others)
  respelled_without (tree (unary v) children others) = paired _ _ _ _ _ (respelled_without children) (respelled_without others)
  respelled_without (tree (binary v) children others) = paired _ _ _ _ _ (respelled_without children) (respelled_without others)
  respelled_without (tree (assignment v) children others) = paired _ _ _ _ _ (respelled_without children) (respelled_without others)
  respelled_without (tree (space v) children others) = paired _ _ _ _ _ (respelled_without children) (respelled_without others)
  respelled_without (tree (access v) children others) = paired _ _ _ _ _ (respelled_without children) (respelled_without others)
  respelled_without (tree (path v) children others) = paired _ _ _ _ _ (respelled_without children) (respelled_without others)
