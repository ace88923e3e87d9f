-- What stays of a list, and of what closes it.
use Rattle.std.proofs.Common.{◌≡◌, ℕ, Bool, true, false, cond, ◌&&◌, List, [], ◌∷◌, ◌++◌, map, filter, Option, Some, None, refl, sym, ap, ◌∙◌, append-nil}
use Rattle.std.specs.List.{flat_map}
use Rattle.wesl_cond_features.specs.declared.chain.Role.{Role}
use Rattle.wesl_cond_chains.specs.Chains.{staying, residual_chain, residual_after, headed, later, live, chains, is_node, is_branch, branch}
use Rattle.wesl_cond_chains.specs.Conditions.{is_void}
use Rattle.wesl_cond_chains.specs.Judging.{closing}
use Rattle.wesl_cond_chains.specs.Lists.{Element, element, still, elements, back}
use Rattle.wesl_cond_chains.specs.Nodes.{as_element}
use Rattle.wesl_cond_chains.specs.Following.{IsTurn, Ends}
use Rattle.wesl_cond_features.specs.Branch.{fate, kept_after, decided_after}
use Rattle.wesl_cond_chains.proofs.Walk.{enact, scan}
use Rattle.wesl_cond_chains.proofs.ChainTurns.{scan_is, scan_after}
use Rattle.wesl_cond_chains.proofs.Taken.{elements_as}
use Rattle.wesl_cond_features.specs.Answers.{Answers}
use Rattle.wesl_tree_syntax.specs.Tree.{Label, Forest, Tree, end, tree, before, forest_of}

-- One branch.
abbrev pub open_one : Label → Forest → Element ℕ
open_one l c = record { closes = false; label = l; children = c }

abbrev pub fate_of : Answers ℕ → Bool → Bool → Element ℕ → Option Role
fate_of answers k d x = fate (is_branch still x && k) (is_branch still x && d) (branch still answers x)

abbrev pub next_kept : Answers ℕ → Bool → Bool → Element ℕ → Bool
next_kept answers k d x = kept_after (is_branch still x && k) (is_branch still x && d) (branch still answers x)

abbrev pub next_decided : Answers ℕ → Bool → Element ℕ → Bool
next_decided answers d x = decided_after (is_branch still x && d) (branch still answers x)

-- The nodes that stay, branch by branch.
module _ (answers : Answers ℕ) where
  same_later : (xs : List (Element ℕ)) → map (later still answers) xs ≡ xs
  same_later [] = refl
  same_later (x ∷ xs) = ap (λ r. x ∷ r) (same_later xs)

  same_headed : (xs : List (Element ℕ)) → headed still answers xs ≡ xs
  same_headed [] = refl
  same_headed (x ∷ xs) = ap (λ r. x ∷ r) (same_later xs)

  same_chains : (cs : List (List (Element ℕ))) → flat_map (residual_chain still answers) cs ≡ flat_map (live element answers) cs
  same_chains [] = refl
  same_chains (c ∷ cs) = ap (λ r. r ++ flat_map (residual_chain still answers) cs) (same_headed (live still answers c)) ∙ ap (λ r. live element answers c ++ r) (same_chains cs)

  pub staying_is : (xs : List (Element ℕ)) → staying element answers xs ≡ scan still answers false false xs
  staying_is xs = sym (scan_is still answers xs ∙ same_chains (chains still (filter (is_node still) xs)))

  -- Nodes of a list are not what closes it.
  same_last : (v : Bool) (o : Option Role) (l : Label) (c : Forest) (rs ss : List (Element ℕ)) (vs : List (Element ℕ)) → back true (rs ++ vs) ≡ back true vs → back true (ss ++ vs) ≡ back true vs
      → back true (cond v rs (enact still answers o (record { closes = false; label = l; children = c }) ss) ++ vs) ≡ back true vs
  same_last true o l c rs ss vs e d = e
  same_last false None l c rs ss vs e d = d
  same_last false (Some role) l c rs ss vs e d = d

  front_passed : (f : Forest) (k d : Bool) (vs : List (Element ℕ)) → back true (scan still answers k d (elements false f) ++ vs) ≡ back true vs
  front_passed end k d vs = refl
  front_passed (tree l c o) k d vs =
      let x = open_one l c in
      let k' = next_kept answers k d x in
      let d' = next_decided answers d x in
      same_last (is_void l c) (fate_of answers k d x) l c (scan still answers k d (elements false o)) (scan still answers k' d' (elements false o)) vs (front_passed o k d vs) (front_passed o k' d' vs)

  last_at : (b : Bool) (t : Tree) (k d k' d' : Bool) → IsTurn still answers k d (as_element true t) k' d' (as_element true t) b → back true (residual_after still answers k d (as_element true t ∷ [])) ≡ cond b (before t end) end
  last_at true t k d k' d' turn = ap (back true) (turn [])
  last_at false t k d k' d' turn = ap (back true) (turn [])

  -- whether what closes a list stays
  pub closing_is : {A : Type 0} (view : A → Tree) (xs : List A) (t : Tree) (k d k' d' k'' d'' b : Bool) → k ≡ false → d ≡ false → Ends still answers k d (map (λ x. as_element false (view x)) xs) k' d' → IsTurn still answers k' d' (as_element true t) k'' d'' (as_element true t) b
      → closing answers (forest_of (map view xs)) (before t end) ≡ cond b (before t end) end
  closing_is view xs t k d k' d' k'' d'' b e g ends turn =
      let last : List (Element ℕ) = as_element true t ∷ [] in
      let f = forest_of (map view xs) in
      ap (back true) (staying_is (elements false f ++ last) ∙ scan_after still answers false false (elements false f ++ last))
      ∙ ap (λ a. back true (residual_after still answers a false (elements false f ++ last))) (sym e)
      ∙ ap (λ a. back true (residual_after still answers k a (elements false f ++ last))) (sym g)
      ∙ ap (λ ys. back true (residual_after still answers k d (ys ++ last))) (sym (elements_as false view xs))
      ∙ ap (back true) (ends last)
      ∙ ap (λ ys. back true (residual_after still answers k d ys ++ residual_after still answers k' d' last)) (elements_as false view xs)
      ∙ ap (λ ys. back true (ys ++ residual_after still answers k' d' last)) (sym (scan_after still answers k d (elements false f)))
      ∙ front_passed f k d (residual_after still answers k' d' last)
      ∙ last_at b t k' d' k'' d'' turn

  -- nothing closes a list
  pub closing_none : (f : Forest) → closing answers f end ≡ end
  closing_none f = ap (back true) (staying_is (elements false f ++ [])) ∙ ap (λ xs. back true (scan still answers false false xs)) (append-nil (elements false f)) ∙ ap (back true) (sym (append-nil (scan still answers false false (elements false f)))) ∙ front_passed f false false []
