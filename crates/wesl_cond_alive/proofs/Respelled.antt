-- Identifiers replaced: the walk over a module with other identifiers is the walk over it, with those.
use Rattle.std.proofs.Common.{◌≡◌, ℕ, suc, ◌+◌, Bool, true, false, not, ◌&&◌, cond, List, [], ◌∷◌, ◌++◌, map, drop, refl, sym, ap, ◌∙◌, subst}
use Rattle.std.specs.Prelude.{◌||◌, Option, Some, None}
use Rattle.std.specs.Option.{option_map}
use Rattle.std.proofs.lemmas.List.{length-map, map-append}
use Rattle.wesl_cond_features.specs.declared.features.Feature.TheVariants.{Keep}
use Rattle.wesl_cond_features.specs.declared.features.Truth.TheVariants.{Undecided}
use Rattle.wesl_cond_chains.specs.Chains.{Condition, none, on, else_on, otherwise, follows_on}
use Rattle.wesl_cond_chains.specs.Conditions.{condition_at, attributes_in, is_statements, is_list}
use Rattle.wesl_cond_chains.specs.Faults.{and_rest, body_list, closed_list, condition_faults, conditions, list_at}
use Rattle.wesl_cond_chains.specs.FormulaFaults.{Fault, formula_faults}
use Rattle.wesl_cond_chains.specs.Formulas.{Form, always, never, flag, templated, within, negation, conjunction, disjunction, other, value_under}
use Rattle.wesl_cond_chains.specs.Lists.{Element, elements, is_closed, is_compound, is_option}
use Rattle.wesl_cond_chains.proofs.Natural.{respell_form, respell_condition, respell_element, attributes_natural, list_natural, statements_natural, closed_natural, compound_natural, option_natural, entered_natural, void_natural, cond_natural, attributes_in_natural, elements_natural, condition_natural, condition_in_natural}
use Rattle.wesl_tree_syntax.specs.Tree.{LabelOf, ForestOf, end, tree, ident, respell_label, respell_forest}
use Rattle.wesl_cond_alive.specs.Kept.{is_faultless}
use Rattle.wesl_cond_alive.specs.Positions.{size}
use Rattle.wesl_cond_alive.specs.Sets.{AreSet, value}
use Rattle.wesl_cond_alive.specs.Sound.{Outline, are_clean, are_clean_after, outline_of, is_conditional, opens_chain, is_rest_sound, is_chain_sound, is_whole}
use Rattle.wesl_cond_alive.specs.Walk.{Ahead, listed, leaf, bare, closing, body, last, Branch, Here, Mark, Node, State, after, ahead_in, bare_in, branches_of, entered, flagged, formula_of, in_set, is_held, judged, list_in, next, no_choices, or_marked, outlines_at, places_in, places_of, set_count, standing, statement_count, statements_ahead, body_ahead, last_ahead, walk}
use Rattle.wesl_cond_alive.proofs.FoundFlags.{formula_natural}
use Rattle.wesl_cond_alive.proofs.Turns.{faultless_both}

module _ {I J : Type 0} (r : I → J) where
  -- ---- conditions

  rest_natural : (c : Condition I) (cs : List (Condition I)) → and_rest (respell_condition r c) (map (respell_condition r) cs) ≡ map (respell_condition r) (and_rest c cs)
  rest_natural none cs = refl
  rest_natural (on x) cs = refl
  rest_natural (else_on x) cs = refl
  rest_natural otherwise cs = refl

  conditions_natural : (a : ForestOf I) → conditions (respell_forest r a) ≡ map (respell_condition r) (conditions a)
  conditions_natural end = refl
  conditions_natural (tree l a o) =
      ap (λ c. and_rest c (conditions (respell_forest r o))) (condition_natural r a)
      ∙ ap (and_rest (respell_condition r (condition_at a))) (conditions_natural o)
      ∙ rest_natural (condition_at a) (conditions o)

  both_faultless : (xs ys : List (Fault I)) (us vs : List (Fault J)) → is_faultless us ≡ is_faultless xs → is_faultless vs ≡ is_faultless ys → is_faultless (us ++ vs) ≡ is_faultless (xs ++ ys)
  both_faultless xs ys us vs e d = faultless_both us vs ∙ ((λ t. e t && d t) ∙ sym (faultless_both xs ys))

  form_faults_natural : (f : Form I) → is_faultless (formula_faults (λ flag. Keep) (respell_form r f)) ≡ is_faultless (formula_faults (λ flag. Keep) f)
  form_faults_natural always = refl
  form_faults_natural never = refl
  form_faults_natural (flag i c) = refl
  form_faults_natural (templated i c) = refl
  form_faults_natural (within p f) = form_faults_natural f
  form_faults_natural (negation p f) = form_faults_natural f
  form_faults_natural (conjunction p f q g) = both_faultless (formula_faults (λ flag. Keep) f) (formula_faults (λ flag. Keep) g) _ _ (form_faults_natural f) (form_faults_natural g)
  form_faults_natural (disjunction p f q g) = both_faultless (formula_faults (λ flag. Keep) f) (formula_faults (λ flag. Keep) g) _ _ (form_faults_natural f) (form_faults_natural g)
  form_faults_natural (other l c) = refl

  condition_faults_natural : (c : Condition I) → is_faultless (condition_faults (λ flag. Keep) (respell_condition r c)) ≡ is_faultless (condition_faults (λ flag. Keep) c)
  condition_faults_natural none = refl
  condition_faults_natural (on x) = form_faults_natural x.form
  condition_faults_natural (else_on x) = form_faults_natural x.form
  condition_faults_natural otherwise = refl

  clean_natural : (seen : Bool) (cs : List (Condition I)) → are_clean_after seen (map (respell_condition r) cs) ≡ are_clean_after seen cs
  clean_natural seen [] = refl
  clean_natural seen (c ∷ cs) = (λ t. not seen && (condition_faults_natural c t && clean_natural true cs t))

  follows_natural : (c : Condition I) → follows_on (respell_condition r c) ≡ follows_on c
  follows_natural none = refl
  follows_natural (on x) = refl
  follows_natural (else_on x) = refl
  follows_natural otherwise = refl

  conditional_natural : (c : Condition I) → is_conditional (respell_condition r c) ≡ is_conditional c
  conditional_natural none = refl
  conditional_natural (on x) = refl
  conditional_natural (else_on x) = refl
  conditional_natural otherwise = refl

  opens_natural : (c : Condition I) → opens_chain (respell_condition r c) ≡ opens_chain c
  opens_natural none = refl
  opens_natural (on x) = refl
  opens_natural (else_on x) = refl
  opens_natural otherwise = refl

  formula_of_natural : (c : Condition I) → formula_of (respell_condition r c) ≡ option_map (respell_form r) (formula_of c)
  formula_of_natural none = refl
  formula_of_natural (on x) = refl
  formula_of_natural (else_on x) = refl
  formula_of_natural otherwise = refl

  -- ---- judged lists

  abbrev pub respell_outline : Outline I → Outline J
  respell_outline x = record { is_void = x.is_void; condition = respell_condition r x.condition; is_clean = x.is_clean }

  outline_natural : (x : Element I) → outline_of (respell_element r x) ≡ respell_outline (outline_of x)
  outline_natural x =
      let attributes = attributes_in (tree x.label x.children end) in
      λ t. record {
        is_void = void_natural r x.label x.children t;
        condition = condition_in_natural r (λ i. Undecided) (λ j. Undecided) (λ i. refl) x t;
        is_clean = (ap (λ a. are_clean (conditions a)) (attributes_in_natural r (tree x.label x.children end)) ∙ (ap are_clean (conditions_natural attributes) ∙ clean_natural false (conditions attributes))) t;
      }

  outlines_natural : (xs : List (Element I)) → map outline_of (map (respell_element r) xs) ≡ map respell_outline (map outline_of xs)
  outlines_natural [] = refl
  outlines_natural (x ∷ xs) = (λ t. outline_natural x t ∷ outlines_natural xs t)

  rest_sound_natural : (opened : Bool) (xs : List (Outline I)) → is_rest_sound opened (map respell_outline xs) ≡ is_rest_sound opened xs
  rest_sound_natural opened [] = refl
  rest_sound_natural opened (x ∷ xs) =
      λ t. cond x.is_void (rest_sound_natural opened xs t)
      (cond (follows_natural x.condition t) (opened && (x.is_clean && (ap (λ o. is_rest_sound o (map respell_outline xs)) (opens_natural x.condition) ∙ rest_sound_natural (opens_chain x.condition) xs) t)) true)

  chain_sound_natural : (x : Outline I) (xs : List (Outline I)) → is_chain_sound (respell_outline x) (map respell_outline xs) ≡ is_chain_sound x xs
  chain_sound_natural x xs = ap (λ b. x.is_clean && b) (ap (λ o. is_rest_sound o (map respell_outline xs)) (opens_natural x.condition) ∙ rest_sound_natural (opens_chain x.condition) xs)

  whole_natural : (whole : Bool) (x : Outline I) (xs : List (Outline I)) → is_whole whole (respell_outline x) (map respell_outline xs) ≡ is_whole whole x xs
  whole_natural whole x xs = λ t. cond (follows_natural x.condition t) whole (not (conditional_natural x.condition t && chain_sound_natural x xs t))

  abbrev pub respell_branch : Branch I → Branch J
  respell_branch b = record { holder = b.holder; begins = b.begins; formula = option_map (respell_form r) b.formula }

  branch_natural : (holder : ℕ) (c : Condition I)
      → record { holder = holder; begins = not (follows_on (respell_condition r c)); formula = formula_of (respell_condition r c) } ≡ respell_branch (record { holder = holder; begins = not (follows_on c); formula = formula_of c })
  branch_natural holder c = λ t. record { holder = holder; begins = not (follows_natural c t); formula = formula_of_natural c t }

  branches_natural : (holder : ℕ) (whole : Bool) (xs : List (Outline I)) → branches_of holder whole (map respell_outline xs) ≡ map respell_branch (branches_of holder whole xs)
  branches_natural holder whole [] = refl
  branches_natural holder whole (x ∷ xs) =
      cond_natural r (map respell_branch) x.is_void x.is_void (branches_of holder whole xs) _ _ _ refl (branches_natural holder whole xs)
      (cond_natural r (map respell_branch) (is_whole whole x xs) (is_whole whole (respell_outline x) (map respell_outline xs)) (branches_of holder true xs) _ _ _ (whole_natural whole x xs) (branches_natural holder true xs)
      (λ t. branch_natural holder x.condition t ∷ branches_natural holder false xs t))

  pub places_natural : (holder n : ℕ) (whole : Bool) (xs : List (Outline I)) → places_of holder n whole (map respell_outline xs) ≡ places_of holder n whole xs
  places_natural holder n whole [] = refl
  places_natural holder n whole (x ∷ xs) =
      λ t. cond x.is_void (in_set no_choices ∷ places_natural holder n whole xs t)
      (cond (whole_natural whole x xs t) (in_set holder ∷ places_natural holder n true xs t) (bare_in n ∷ places_natural holder (suc n) false xs t))

  -- ---- what the walk has found

  abbrev pub respell_mark : Mark I → Mark J
  respell_mark m = record { name = r m.name; set = m.set }

  abbrev pub respell_state : State I → State J
  respell_state s = record { branches = map respell_branch s.branches; marks = map respell_mark s.marks; flags = map r s.flags }

  judged_natural : (holder : ℕ) (xs : List (Outline I)) (s : State I) → judged holder (map respell_outline xs) (respell_state s) ≡ respell_state (judged holder xs s)
  judged_natural holder [] s = refl
  judged_natural holder (x ∷ xs) s =
      ap (λ bs. record (respell_state s) { branches = bs }) (ap (λ bs. map respell_branch s.branches ++ bs) (branches_natural holder true (x ∷ xs)) ∙ sym (map-append respell_branch s.branches (branches_of holder true (x ∷ xs))))

  pub places_in_natural : (holder : ℕ) (xs : List (Outline I)) (s : State I) → places_in holder (map respell_outline xs) (respell_state s) ≡ places_in holder xs s
  places_in_natural holder xs s = ap (λ n. places_of holder (2 + n) true (map respell_outline xs)) (length-map s.branches respell_branch) ∙ places_natural holder (set_count s) true xs

  flagged_natural : (l : LabelOf I) (here : Here) (b : Bool) (s : State I) → here.is_formula ≡ b → flagged (respell_label r l) here (respell_state s) ≡ respell_state (flagged l here s)
  flagged_natural (ident role x) here true s e = rw e (ap (λ fs. record (respell_state s) { flags = fs }) (sym (map-append r s.flags (x ∷ []))))
  flagged_natural (ident role x) here false s e = rw e refl
  flagged_natural l here b s e = refl

  marked_natural : (l : LabelOf I) (here : Here) (s found : State I) → or_marked (respell_label r l) here (respell_state s) (respell_state found) ≡ respell_state (or_marked l here s found)
  marked_natural (ident role x) here s found = ap (λ ms. record (respell_state found) { marks = ms }) (sym (map-append respell_mark s.marks (record { name = x; set = here.set } ∷ [])))
  marked_natural l here s found = refl

  -- ---- where nodes stand

  size_natural : (f : ForestOf I) → size (respell_forest r f) ≡ size f
  size_natural end = refl
  size_natural (tree l c o) = ap suc (size_natural o)

  count_natural : (f : ForestOf I) → statement_count (respell_forest r f) ≡ statement_count f
  count_natural (tree a own (tree s items rest)) = size_natural items
  count_natural (tree a own end) = refl
  count_natural end = refl

  next_natural : (ahead : Ahead) (c : ForestOf I) → next ahead (respell_forest r c) ≡ next ahead c
  next_natural (body hs) c = ap (λ n. last (drop n hs)) (count_natural c)
  next_natural (listed []) c = refl
  next_natural (listed (h ∷ hs)) c = refl
  next_natural ahead c = refl

  standing_natural : (here : Here) (ahead : Ahead) (c : ForestOf I) → standing here ahead (respell_forest r c) ≡ standing here ahead c
  standing_natural here bare c = ap (λ b. cond b (record here { set = no_choices }) here) (ap is_conditional (condition_natural r c) ∙ conditional_natural (condition_at c))
  standing_natural here (listed []) c = refl
  standing_natural here (listed (h ∷ hs)) c = refl
  standing_natural here ahead c = refl

  body_list_natural : (b z : ForestOf I) → body_list (respell_forest r b) (respell_forest r z) ≡ map (respell_element r) (body_list b z)
  body_list_natural end z = refl
  body_list_natural (tree a x end) z = refl
  body_list_natural (tree a x (tree s items rest)) z =
      cond_natural r (map (respell_element r)) (is_statements s) (is_statements (respell_label r s)) (elements false items ++ elements true z) [] _ _ (statements_natural r s)
      ((λ t. elements_natural r false items t ++ elements_natural r true z t) ∙ sym (map-append (respell_element r) (elements false items) (elements true z)))
      refl

  closed_list_natural : (c : ForestOf I) → closed_list (respell_forest r c) ≡ map (respell_element r) (closed_list c)
  closed_list_natural end = refl
  closed_list_natural (tree a x end) = refl
  closed_list_natural (tree a x (tree b c end)) = refl
  closed_list_natural (tree a x (tree b c (tree o z others))) =
      cond_natural r (map (respell_element r)) (is_compound b && is_option o) (is_compound (respell_label r b) && is_option (respell_label r o)) (body_list c z) [] _ _
      (λ t. compound_natural r b t && option_natural r o t) (body_list_natural c z) refl

  list_at_natural : (held : Bool) (l : LabelOf I) (c : ForestOf I) → list_at held (respell_label r l) (respell_forest r c) ≡ map (respell_element r) (list_at held l c)
  list_at_natural held l c =
      cond_natural r (map (respell_element r)) (is_closed l) (is_closed (respell_label r l)) (closed_list c) (cond (is_list l && not (is_statements l && held)) (elements false c) []) _ _ (closed_natural r l) (closed_list_natural c)
      (cond_natural r (map (respell_element r)) (is_list l && not (is_statements l && held)) (is_list (respell_label r l) && not (is_statements (respell_label r l) && held)) (elements false c) [] _ _
      (λ t. list_natural r l t && not (statements_natural r l t && held)) (elements_natural r false c) refl)

  list_in_natural : (ahead : Ahead) (l : LabelOf I) (c : ForestOf I) → list_in ahead (respell_label r l) (respell_forest r c) ≡ map (respell_element r) (list_in ahead l c)
  list_in_natural leaf l c = refl
  list_in_natural bare l c = refl
  list_in_natural ahead l c = list_at_natural (is_held ahead) l c

  outlines_at_natural : (node : Node) (l : LabelOf I) (c : ForestOf I) → outlines_at node (respell_label r l) (respell_forest r c) ≡ map respell_outline (outlines_at node l c)
  outlines_at_natural node l c = ap (map outline_of) (list_in_natural node.ahead l c) ∙ outlines_natural (list_in node.ahead l c)

  pub list_outlines : (c : ForestOf I) → map outline_of (elements false (respell_forest r c)) ≡ map respell_outline (map outline_of (elements false c))
  list_outlines c = ap (map outline_of) (elements_natural r false c) ∙ outlines_natural (elements false c)

  ahead_natural : (ahead : Ahead) (here : Here) (l : LabelOf I) (places : List Here) → ahead_in ahead here (respell_label r l) places ≡ ahead_in ahead here l places
  ahead_natural leaf here l places = ap (λ b. cond (b && here.is_bare) bare leaf) (attributes_natural r l)
  ahead_natural bare here l places = refl
  ahead_natural ahead here l places =
      λ t. cond (entered_natural r l t)
      (cond (closed_natural r l t) (closing places)
      (cond (statements_natural r l t) (statements_ahead ahead places)
      (cond (list_natural r l t) (listed places)
      (cond (compound_natural r l t) (body_ahead ahead) (last_ahead ahead)))))
      (cond (attributes_natural r l t && here.is_bare) bare leaf)

  -- a tree as its children see it
  inside_natural : (node : Node) (l : LabelOf I) (c : ForestOf I) (places : List Here) → entered node (respell_label r l) (respell_forest r c) places ≡ entered node l c places
  inside_natural node l c places =
      let is = standing_natural node.here node.ahead c in
      λ t. record {
        here = record { set = (is t).set; is_bare = cond (attributes_natural r l t) false (cond (list_natural r l t) false (is t).is_bare); is_formula = cond (formula_natural r l t) true (is t).is_formula };
        ahead = (ap (λ h. ahead_in node.ahead h (respell_label r l) places) is ∙ ahead_natural node.ahead (standing node.here node.ahead c) l places) t;
      }

  -- ---- the walk

  pub walk_natural : (f : ForestOf I) (node : Node) (s : State I) → walk node (respell_state s) (respell_forest r f) ≡ respell_state (walk node s f)
  walk_natural end node s = refl
  walk_natural (tree l c o) node s =
      let here = standing node.here node.ahead c in
      let list = outlines_at node l c in
      let into = entered node l c (places_in here.set list s) in
      let begun = judged here.set list (flagged l here s) in
      let found = walk into begun c in
      let start : judged here.set (map respell_outline list) (flagged (respell_label r l) here (respell_state s)) ≡ respell_state begun =
      ap (judged here.set (map respell_outline list)) (flagged_natural l here here.is_formula s refl) ∙ judged_natural here.set list (flagged l here s) in
      let one : Node → (List Here → Node) → Here → List (Outline J) → State J =
      λ next enter h xs. walk next (or_marked (respell_label r l) h (respell_state s) (walk (enter (places_in h.set xs (respell_state s))) (judged h.set xs (flagged (respell_label r l) h (respell_state s))) (respell_forest r c))) (respell_forest r o) in
      (λ t. one (record { here = (after node c).here; ahead = next_natural node.ahead c t }) (λ ps. inside_natural node l c ps t) (standing_natural node.here node.ahead c t) (outlines_at_natural node l c t))
      ∙ ((λ t. walk (after node c) (or_marked (respell_label r l) here (respell_state s) (walk (entered node l c (places_in_natural here.set list s t)) (start t) (respell_forest r c))) (respell_forest r o))
      ∙ (ap (λ x. walk (after node c) (or_marked (respell_label r l) here (respell_state s) x) (respell_forest r o)) (walk_natural c into begun)
      ∙ (ap (λ x. walk (after node c) x (respell_forest r o)) (marked_natural l here s found)
      ∙ walk_natural o (after node c) (or_marked l here s found))))

  -- ---- the sets of branches

  value_natural : (choice : J → Bool) (f : Form I) → value_under choice (respell_form r f) ≡ value_under (λ i. choice (r i)) f
  value_natural choice always = refl
  value_natural choice never = refl
  value_natural choice (flag i c) = refl
  value_natural choice (templated i c) = refl
  value_natural choice (within p f) = value_natural choice f
  value_natural choice (negation p f) = ap not (value_natural choice f)
  value_natural choice (conjunction p f q g) = (λ t. value_natural choice f t && value_natural choice g t)
  value_natural choice (disjunction p f q g) = (λ t. value_natural choice f t || value_natural choice g t)
  value_natural choice (other l c) = refl

  option_value : (choice : J → Bool) (o : Option (Form I)) → value choice (option_map (respell_form r) o) ≡ value (λ i. choice (r i)) o
  option_value choice None = refl
  option_value choice (Some f) = value_natural choice f

  pub sets_spelled : (choice : J → Bool) (has : ℕ → Bool) (bs : List (Branch I)) (n : ℕ) (free : Bool) → AreSet (λ i. choice (r i)) has n free bs → AreSet choice has n free (map respell_branch bs)
  sets_spelled choice has [] n free s = tt
  sets_spelled choice has (b ∷ bs) n free s = (
    s.0 ∙ ap (λ v. has b.holder && (cond b.begins true free && v)) (sym (option_value choice b.formula)),
    subst (λ f. AreSet choice has (suc n) f (map respell_branch bs)) (ap (λ v. cond b.begins true free && not v) (sym (option_value choice b.formula)))
        (sets_spelled choice has bs (suc n) (cond b.begins true free && not (value (λ i. choice (r i)) b.formula)) s.1),
  )

  pub sets_unspelled : (choice : J → Bool) (has : ℕ → Bool) (bs : List (Branch I)) (n : ℕ) (free : Bool) → AreSet choice has n free (map respell_branch bs) → AreSet (λ i. choice (r i)) has n free bs
  sets_unspelled choice has [] n free s = tt
  sets_unspelled choice has (b ∷ bs) n free s = (
    s.0 ∙ ap (λ v. has b.holder && (cond b.begins true free && v)) (option_value choice b.formula),
    sets_unspelled choice has bs (suc n) (cond b.begins true free && not (value (λ i. choice (r i)) b.formula))
        (subst (λ f. AreSet choice has (suc n) f (map respell_branch bs)) (ap (λ v. cond b.begins true free && not v) (option_value choice b.formula)) s.1),
  )
