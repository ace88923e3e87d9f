-- Whole modules in stages.
use Rattle.std.proofs.Common.{◌≡◌, List, ◌∷◌, ◌++◌, map, Bool, true, false, cond, ◌&&◌, Option, Some, None, refl, sym, ap, ◌∙◌, subst}
use mathlib.Core.Path.{fun_ext}
use Rattle.wesl_cond_features.specs.declared.features.Truth.{Truth}
use Rattle.wesl_cond_features.specs.declared.features.Truth.TheVariants.{Yes, No, Undecided}
use Rattle.wesl_cond_features.specs.declared.chain.Role.{Role}
use Rattle.wesl_cond_features.specs.Answers.{Answers, or_else, in_stages}
use Rattle.wesl_cond_chains.specs.Chains.{is_branch, branch, residual_list}
use Rattle.wesl_cond_chains.specs.Conditions.{is_void}
use Rattle.wesl_cond_features.specs.Branch.{fate, kept_after, decided_after}
use Rattle.wesl_cond_chains.proofs.Walk.{enact, scan}
use Rattle.wesl_cond_chains.specs.Lists.{Element, element, elements, back}
use Rattle.wesl_tree_syntax.specs.Unit.{UnitOf}
use Rattle.wesl_cond_chains.specs.Residual.{residual_forest, residual_tree, residual_unit}
use Rattle.wesl_cond_chains.proofs.ChainTurns.{scan_is}
use Rattle.wesl_cond_chains.proofs.ChainStages.{residual_list_in_stages}
use Rattle.wesl_cond_chains.proofs.NodeLaws.{element_laws}
use Rattle.wesl_cond_chains.proofs.Passing.{InOrder, AllOpen, AllClosing, Tidy, first_children, inside, scan-inside, through_again}
use Rattle.wesl_tree_syntax.specs.Tree.{LabelOf, ForestOf, TreeOf, end, tree}

or_else_itself : (t : Truth) → or_else t t ≡ t
or_else_itself Yes = refl
or_else_itself No = refl
or_else_itself Undecided = refl

module _ {I : Type 0} where
  abbrev open_one : LabelOf I → ForestOf I → Element I
  open_one l c = record { closes = false; label = l; children = c }

  abbrev closing_one : LabelOf I → ForestOf I → Element I
  closing_one l c = record { closes = true; label = l; children = c }

  closing_at : (F : Answers I) (o : Option Role) (v : Bool) (l : LabelOf I) (c : ForestOf I) (xs ys : List (Element I)) → AllClosing xs → AllClosing ys → AllClosing (cond v xs (enact element F o (closing_one l c) ys))
  closing_at F o true l c xs ys h k = h
  closing_at F None false l c xs ys h k = k
  closing_at F (Some role) false l c xs ys h k = (ap (λ r. element.in_role F role (closing_one l c) ∷ r) k.0, k.1)

  closing_scan : (F : Answers I) (k d : Bool) (c : ForestOf I) → AllClosing (scan element F k d (elements true c))
  closing_scan F k d end = (refl, refl)
  closing_scan F k d (tree l c o) =
      let x = closing_one l c in
      let k' = is_branch element x && k in
      let d' = is_branch element x && d in
      let b = branch element F x in
      closing_at F (fate k' d' b) (is_void l c) l c (scan element F k d (elements true o)) (scan element F (kept_after k' d' b) (decided_after d' b) (elements true o)) (closing_scan F k d o) (closing_scan F (kept_after k' d' b) (decided_after d' b) o)

  ordered_at : (F : Answers I) (o : Option Role) (v : Bool) (l : LabelOf I) (c : ForestOf I) (xs ys : List (Element I)) → InOrder xs → InOrder ys → InOrder (cond v xs (enact element F o (open_one l c) ys))
  ordered_at F o true l c xs ys h k = h
  ordered_at F None false l c xs ys h k = k
  ordered_at F (Some role) false l c xs ys h k = ap (λ r. element.in_role F role (open_one l c) ∷ r) k

  closing_in_order : (xs : List (Element I)) → AllClosing xs → InOrder xs
  closing_in_order xs h = ap (λ t. elements false t ++ elements true (back true xs)) h.1 ∙ h.0

  ordered_scan : (F : Answers I) (k d : Bool) (c e : ForestOf I) → InOrder (scan element F k d (elements false c ++ elements true e))
  ordered_scan F k d end e = closing_in_order _ (closing_scan F k d e)
  ordered_scan F k d (tree l c o) e =
      let x = open_one l c in
      let k' = is_branch element x && k in
      let d' = is_branch element x && d in
      let b = branch element F x in
      ordered_at F (fate k' d' b) (is_void l c) l c _ _ (ordered_scan F k d o e) (ordered_scan F (kept_after k' d' b) (decided_after d' b) o e)

  open_at : (F : Answers I) (o : Option Role) (v : Bool) (l : LabelOf I) (c : ForestOf I) (xs ys : List (Element I)) → AllOpen xs → AllOpen ys → AllOpen (cond v xs (enact element F o (open_one l c) ys))
  open_at F o true l c xs ys h k = h
  open_at F None false l c xs ys h k = k
  open_at F (Some role) false l c xs ys h k = ap (λ r. element.in_role F role (open_one l c) ∷ r) k

  open_scan : (F : Answers I) (k d : Bool) (c : ForestOf I) → AllOpen (scan element F k d (elements false c))
  open_scan F k d end = refl
  open_scan F k d (tree l c o) =
      let x = open_one l c in
      let k' = is_branch element x && k in
      let d' = is_branch element x && d in
      let b = branch element F x in
      open_at F (fate k' d' b) (is_void l c) l c _ _ (open_scan F k d o) (open_scan F (kept_after k' d' b) (decided_after d' b) o)

  pub residual_tidy : (F : Answers I) → Tidy (residual_list element F)
  residual_tidy F = record {
    natural = λ g xs. sym (scan_is element F (map (inside g) xs)) ∙ scan-inside g F false false xs ∙ ap (map (inside g)) (scan_is element F xs);
    in_order = λ c d. subst InOrder (scan_is element F (elements false c ++ elements true d)) (ordered_scan F false false c d);
    all_open = λ c. subst AllOpen (scan_is element F (elements false c)) (open_scan F false false c);
  }

  pub residual_forest_in_stages : (F G : Answers I) (t : ForestOf I) → residual_forest G (residual_forest F t) ≡ residual_forest (in_stages F G) t
  residual_forest_in_stages F G t =
      through_again (residual_list element F) (residual_list element G) (residual_list element (in_stages F G)) (residual_tidy F) (residual_list_in_stages element element_laws F G) false t

  pub residual_tree_in_stages : (F G : Answers I) (t : TreeOf I) → residual_tree G (residual_tree F t) ≡ residual_tree (in_stages F G) t
  residual_tree_in_stages F G t = ap (λ f. record { label = t.label; children = first_children f }) (residual_forest_in_stages F G (tree t.label t.children end))

  pub residual_unit_in_stages : (F G : Answers I) (u : UnitOf I) → residual_unit G (residual_unit F u) ≡ residual_unit (in_stages F G) u
  residual_unit_in_stages F G u = rw (residual_tree_in_stages F G u.imports, residual_tree_in_stages F G u.directives, residual_tree_in_stages F G u.declarations) refl

  pub same_stage : (F : Answers I) → in_stages F F ≡ F
  same_stage F = fun_ext (λ name. or_else_itself (F name))

  -- twice is once
  pub residual_unit_twice : (F : Answers I) (u : UnitOf I) → residual_unit F (residual_unit F u) ≡ residual_unit F u
  residual_unit_twice F u = residual_unit_in_stages F F u ∙ ap (λ G. residual_unit G u) (same_stage F)
