-- What is left of a module depends on the answers to its own flags alone: trees and modules.
use Rattle.std.proofs.Common.{◌≡◌, Bool, true, false, ◌&&◌, cond, not, List, [], ◌∷◌, ◌++◌, refl, sym, ap, ◌∙◌, subst}
use Rattle.wesl_cond_chains.specs.Chains.{residual_list}
use Rattle.wesl_cond_chains.specs.Conditions.{is_statements, is_list}
use Rattle.wesl_cond_chains.specs.Flags.{identifier, flags_in, flags_of, AgreesOn}
use Rattle.wesl_cond_chains.specs.Lists.{Element, element, elements, back, is_closed, is_compound, is_option, option_of, is_entered, holds_body, alone, closed_body, closed, judged, through}
use Rattle.wesl_cond_chains.specs.Picked.{Choice, picked_unit}
use Rattle.wesl_cond_chains.specs.Residual.{residual_tree, residual_unit}
use Rattle.wesl_cond_chains.proofs.Bodies.{pair_cases}
use Rattle.wesl_cond_chains.proofs.Passing.{attributes_through}
use Rattle.wesl_cond_chains.proofs.Picks.{picked_unit_again}
use Rattle.wesl_cond_chains.proofs.Same.{SameOn, AllSameAt, below, beside, outside, join, own, attributes_same, list_same}
use Rattle.wesl_cond_features.specs.Answers.{Answers, or_else}
use Rattle.wesl_cond_features.specs.declared.features.Truth.{Truth}
use Rattle.wesl_cond_features.specs.declared.features.Truth.TheVariants.{Yes, No, Undecided}
use Rattle.wesl_tree_syntax.specs.Nodes.{is_formula}
use Rattle.wesl_tree_syntax.specs.Tree.{LabelOf, ForestOf, TreeOf, end, tree, kind, compound, present, absent, statements}
use Rattle.wesl_tree_syntax.specs.Unit.{UnitOf}

pub listed_in : {I : Type 0} (l : LabelOf I) (held : Bool) → (is_list l && not (is_statements l && held)) ≡ true → is_compound l ≡ false
listed_in (kind compound) held e = cc
listed_in l held e = refl

module _ {I : Type 0} (F G : Answers I) where
  abbrev judge : Answers I → List (Element I) → List (Element I)
  judge known = residual_list element known

  first_flags : (l : LabelOf I) (c o : ForestOf I) → SameOn F G (flags_in false (tree l c o)) → SameOn F G (flags_in false (tree l c end))
  first_flags l c o h = join F G (identifier false l) (flags_in (is_formula l) c) [] (own F G false l c o h) (below F G false l c o h) tt

  -- the nodes of a list, judged inside
  passed_same : (b : Bool) (c : ForestOf I) → SameOn F G (flags_in false c) → AllSameAt F G (elements b (through (judge F) false c))
  passed_same b end h = tt
  passed_same b (tree l c o) h =
      (subst (λ al. SameOn F G (flags_in false al)) (sym (attributes_through (judge F) false (tree l c end))) (attributes_same F G (tree l c end) (first_flags l c o h)), passed_same b o (beside F G false l c o h))

  all_append : (xs ys : List (Element I)) → AllSameAt F G xs → AllSameAt F G ys → AllSameAt F G (xs ++ ys)
  all_append [] ys h k = k
  all_append (x ∷ xs) ys h k = (h.0, all_append xs ys h.1 k)

  alone_same : (c : ForestOf I) → SameOn F G (flags_in false c) → alone (judge F) (through (judge F) false c) ≡ alone (judge G) (through (judge F) false c)
  alone_same c h = ap (back false) (list_same F G (elements false (through (judge F) false c)) (passed_same false c h))

  kept_same : (c d : ForestOf I) → SameOn F G (flags_in false c) → SameOn F G (flags_in false d)
      → judge F (elements false (through (judge F) false c) ++ elements true (through (judge F) false d)) ≡ judge G (elements false (through (judge F) false c) ++ elements true (through (judge F) false d))
  kept_same c d h k = list_same F G (elements false (through (judge F) false c) ++ elements true (through (judge F) false d)) (all_append (elements false (through (judge F) false c)) (elements true (through (judge F) false d)) (passed_same false c h) (passed_same true d k))

  body_same : (body : ForestOf I) (o : LabelOf I) (last others : ForestOf I) → SameOn F G (flags_in false body) → SameOn F G (flags_in false last)
      → closed_body (judge F) (kind compound) (through (judge F) true body) o (through (judge F) false last) others ≡ closed_body (judge G) (kind compound) (through (judge F) true body) o (through (judge F) false last) others
  body_same end o last others h k = refl
  body_same (tree d y end) o last others h k = refl
  body_same (tree d y (tree (kind statements) list rest)) o last others h k =
      ap (λ kept. tree (kind compound) (tree d (cond (is_entered d) (judged (judge F) true d (through (judge F) (holds_body true d) y)) y) (tree (kind statements) (back false kept) (through (judge F) true rest))) (option_of (back true kept) others))
      (kept_same list last (below F G false (kind statements) list rest (beside F G false d y (tree (kind statements) list rest) h)) k)
  body_same (tree d y (tree s list rest)) o last others h k = refl

  abbrev inner : LabelOf I → ForestOf I → ForestOf I
  inner l c = cond (is_entered l) (judged (judge F) true l (through (judge F) (holds_body true l) c)) c

  pair_same : (b : LabelOf I) (body : ForestOf I) (o : LabelOf I) (last others : ForestOf I) → SameOn F G (flags_in false body) → SameOn F G (flags_in false last)
      → cond (is_compound b && is_option o) (closed_body (judge F) b (inner b body) o (inner o last) (through (judge F) true others)) (tree b (inner b body) (tree o (inner o last) (through (judge F) true others)))
      ≡ cond (is_compound b && is_option o) (closed_body (judge G) b (inner b body) o (inner o last) (through (judge F) true others)) (tree b (inner b body) (tree o (inner o last) (through (judge F) true others)))
  pair_same b body o last others h k =
      pair_cases (λ b o. cond (is_compound b && is_option o) (closed_body (judge F) b (inner b body) o (inner o last) (through (judge F) true others)) (tree b (inner b body) (tree o (inner o last) (through (judge F) true others)))
      ≡ cond (is_compound b && is_option o) (closed_body (judge G) b (inner b body) o (inner o last) (through (judge F) true others)) (tree b (inner b body) (tree o (inner o last) (through (judge F) true others))))
      (body_same body (kind present) last (through (judge F) true others) h k) (body_same body (kind absent) last (through (judge F) true others) h k) (λ b o e. rw e refl) b o

  children_flags : (l : LabelOf I) (c o : ForestOf I) → SameOn F G (flags_in false (tree l c o)) → SameOn F G (flags_in false c)
  children_flags l c o h = outside F G (is_formula l) c (below F G false l c o h)

  closed_same : (c : ForestOf I) → SameOn F G (flags_in false c) → closed (judge F) (through (judge F) true c) ≡ closed (judge G) (through (judge F) true c)
  closed_same end h = refl
  closed_same (tree a x end) h = refl
  closed_same (tree a x (tree b body end)) h = refl
  closed_same (tree a x (tree b body (tree o last others))) h =
      let k = beside F G false a x (tree b body (tree o last others)) h in
      ap (tree a (inner a x)) (pair_same b body o last others (children_flags b body (tree o last others) k) (children_flags o last others (beside F G false b body (tree o last others) k)))

  judged_same : (held : Bool) (l : LabelOf I) (c : ForestOf I) (v t : Bool) → is_closed l ≡ v → (is_list l && not (is_statements l && held)) ≡ t → SameOn F G (flags_in false c)
      → judged (judge F) held l (through (judge F) (holds_body held l) c) ≡ judged (judge G) held l (through (judge F) (holds_body held l) c)
  judged_same held l c true t e k h = rw e (closed_same c h)
  judged_same held l c false true e k h = rw (e, k, listed_in l held k) (alone_same c h)
  judged_same held l c false false e k h = rw (e, k) refl

  node_same : (held : Bool) (l : LabelOf I) (c : ForestOf I) → SameOn F G (flags_in false c) → through (judge F) (holds_body held l) c ≡ through (judge G) (holds_body held l) c
      → cond (is_entered l) (judged (judge F) held l (through (judge F) (holds_body held l) c)) c ≡ cond (is_entered l) (judged (judge G) held l (through (judge G) (holds_body held l) c)) c
  node_same held l c h ih = ap (λ x. cond (is_entered l) x c) (judged_same held l c (is_closed l) (is_list l && not (is_statements l && held)) refl refl h ∙ ap (judged (judge G) held l) ih)

  through_same : (held : Bool) (t : ForestOf I) → SameOn F G (flags_in false t) → through (judge F) held t ≡ through (judge G) held t
  through_same held end h = refl
  through_same held (tree l c o) h =
      let k = children_flags l c o h in
      ap (λ x. tree l x (through (judge F) held o)) (node_same held l c k (through_same (holds_body held l) c k))
      ∙ ap (tree l (cond (is_entered l) (judged (judge G) held l (through (judge G) (holds_body held l) c)) c)) (through_same held o (beside F G false l c o h))

  tree_same : (t : TreeOf I) → SameOn F G (flags_in false t.children) → residual_tree F t ≡ residual_tree G t
  tree_same t h = ap (λ c. record { label = t.label; children = c }) (node_same false t.label t.children h (through_same (holds_body false t.label) t.children h))

  same_first : (xs ys : List I) → SameOn F G (xs ++ ys) → SameOn F G xs
  same_first [] ys h = tt
  same_first (x ∷ xs) ys h = (h.0, same_first xs ys h.1)

  same_second : (xs ys : List I) → SameOn F G (xs ++ ys) → SameOn F G ys
  same_second [] ys h = h
  same_second (x ∷ xs) ys h = same_second xs ys h.1

  pub unit_same : (u : UnitOf I) → SameOn F G (flags_of u) → residual_unit F u ≡ residual_unit G u
  unit_same u h =
      let a = flags_in false u.imports.children in
      let b = flags_in false u.directives.children in
      let d = flags_in false u.declarations.children in
      let front = same_first (a ++ b) d h in
      rw (tree_same u.imports (same_first a b front), tree_same u.directives (same_second a b front), tree_same u.declarations (same_second (a ++ b) d h)) refl

-- what a choice leaves of an answer that it may not agree with
abbrev fit : Truth → Bool → Truth
fit Yes true = Yes
fit Yes false = Undecided
fit No true = Undecided
fit No false = No
fit Undecided b = Undecided

fit_agrees : (t : Truth) (b : Bool) → or_else (fit t b) (cond b Yes No) ≡ cond b Yes No
fit_agrees Yes true = refl
fit_agrees Yes false = refl
fit_agrees No true = refl
fit_agrees No false = refl
fit_agrees Undecided b = refl

fit_same : (t : Truth) (b : Bool) → or_else t (cond b Yes No) ≡ cond b Yes No → t ≡ fit t b
fit_same Yes true e = refl
fit_same Yes false e = cc
fit_same No true e = cc
fit_same No false e = refl
fit_same Undecided b e = refl

module _ {I : Type 0} (choice : Choice I) (known : Answers I) where
  abbrev fitted : Answers I
  fitted = λ i. fit (known i) (choice i)

  same_fitted : (flags : List I) → AgreesOn flags choice known → SameOn known fitted flags
  same_fitted [] h = tt
  same_fitted (i ∷ flags) h = (fit_same (known i) (choice i) h.0, same_fitted flags h.1)

  pub picked_unit_on : (u : UnitOf I) → AgreesOn (flags_of u) choice known → picked_unit choice (residual_unit known u) ≡ picked_unit choice u
  picked_unit_on u h = ap (picked_unit choice) (unit_same known fitted u (same_fitted (flags_of u) h)) ∙ picked_unit_again choice fitted (λ i. fit_agrees (known i) (choice i)) u
