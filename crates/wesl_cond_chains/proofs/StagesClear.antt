-- A module without a fault has none in a later stage, nor in both stages at once.
use Rattle.std.proofs.Common.{◌≡◌, Bool, true, false, not, ◌&&◌, cond, List, [], ◌∷◌, ◌++◌, map, refl, sym, ap, ◌∙◌, subst}
use Rattle.std.proofs.lemmas.List.{map-append}
use Rattle.std.specs.List.{flat_map}
use Rattle.wesl_cond_features.specs.declared.chain.Role.{Role}
use Rattle.wesl_cond_chains.specs.Chains.{residual_list, staying}
use Rattle.wesl_cond_chains.specs.Conditions.{is_statements, is_list, is_void, recast}
use Rattle.wesl_cond_chains.specs.Faults.{Stands, here, inside, beside, list_faults, list_at, closed_list, conditions, conditions_of, place_faults, condition_faults, opens}
use Rattle.wesl_cond_chains.specs.Laws.{IsFaultless}
use Rattle.wesl_cond_chains.specs.Lists.{Element, element, elements, back, is_closed, is_compound, is_option, is_entered, holds_body, alone, closed, judged, through}
use Rattle.wesl_cond_chains.specs.Residual.{residual_unit}
use Rattle.wesl_cond_chains.proofs.Bodies.{option_cases}
use Rattle.wesl_cond_chains.proofs.Clear.{Clear, ClearAt, stay, rebuilt, clear_end, clear_join, clear_others, clear_first, clear_leaf, clear_node, list_clear, inside_clear, clear_rebuilt, rebuilt_clear, each_of_back, back_of_each, clear_changed, none_among}
use Rattle.wesl_cond_chains.proofs.Kept.{Each, each_join, each_stays, each_left, stays_in_both, staying_inside}
use Rattle.wesl_cond_chains.proofs.ListFaults.{list_in_both, list_left}
use Rattle.wesl_cond_chains.proofs.Passing.{inside as judged_inside, elements_through, option_again, void_inside, attributes_through}
use Rattle.wesl_cond_chains.proofs.Then.{then_is_in_stages}
use Rattle.wesl_cond_chains.proofs.TreeStages.{residual_tidy}
use Rattle.wesl_cond_features.specs.Answers.{Answers}
use Rattle.wesl_cond_chains.specs.FormulaFaults.{Fault}
use Rattle.wesl_cond_features.specs.Features.{Replies, known, HoldsNoError, then_replies}
use Rattle.wesl_tree_syntax.specs.Tree.{LabelOf, ForestOf, end, tree, kind, compound, statements}
use Rattle.wesl_tree_syntax.specs.Unit.{UnitOf, forest_of_unit}
use Rattle.std.proofs.lemmas.Bool.{and_parts}
use Rattle.wesl_cond_chains.proofs.SameTrees.{listed_in}

-- The shapes of what a loop or a continuing block holds.
module _ {I : Type 0} where
  compound_is : (l : LabelOf I) → is_compound l ≡ true → l ≡ kind compound
  compound_is (kind compound) e = refl
  compound_is l e = cc

  statements_is : (l : LabelOf I) → is_statements l ≡ true → l ≡ kind statements
  statements_is (kind statements) e = refl
  statements_is l e = cc

  module _ (f : List (Element I) → List (Element I)) (a : LabelOf I) (x : ForestOf I) where
    apart_same : (b : LabelOf I) (body : ForestOf I) (o : LabelOf I) (last others : ForestOf I) → (is_compound b && is_option o) ≡ false → closed f (tree a x (tree b body (tree o last others))) ≡ tree a x (tree b body (tree o last others))
    apart_same b body o last others e = rw e refl

    empty_same : (o : LabelOf I) (last others : ForestOf I) → is_option o ≡ true → closed f (tree a x (tree (kind compound) end (tree o last others))) ≡ tree a x (tree (kind compound) end (tree o last others))
    empty_same o last others e = rw e refl

    short_same : (d : LabelOf I) (own : ForestOf I) (o : LabelOf I) (last others : ForestOf I) → is_option o ≡ true → closed f (tree a x (tree (kind compound) (tree d own end) (tree o last others))) ≡ tree a x (tree (kind compound) (tree d own end) (tree o last others))
    short_same d own o last others e = rw e refl

    other_same : (d : LabelOf I) (own : ForestOf I) (s : LabelOf I) (items rest : ForestOf I) (o : LabelOf I) (last others : ForestOf I) → is_option o ≡ true → is_statements s ≡ false
        → closed f (tree a x (tree (kind compound) (tree d own (tree s items rest)) (tree o last others))) ≡ tree a x (tree (kind compound) (tree d own (tree s items rest)) (tree o last others))
    other_same d own s items rest o last others e k = rw (e, k) refl

    closed_main : (reply : Replies I) (d : LabelOf I) (own items rest : ForestOf I) (o : LabelOf I) (last others : ForestOf I) → is_option o ≡ true
        → closed f (tree a x (tree (kind compound) (tree d own (tree (kind statements) items rest)) (tree o last others)))
        ≡ tree a x (rebuilt reply d own (back false (f (elements false items ++ elements true last))) rest (back true (f (elements false items ++ elements true last))) others)
    closed_main reply d own items rest o last others e = rw e refl

  module _ (a : LabelOf I) (x : ForestOf I) where
    apart_none : (b : LabelOf I) (body : ForestOf I) (o : LabelOf I) (last others : ForestOf I) → (is_compound b && is_option o) ≡ false → closed_list (tree a x (tree b body (tree o last others))) ≡ []
    apart_none b body o last others e = rw e refl

    empty_none : (o : LabelOf I) (last others : ForestOf I) → is_option o ≡ true → closed_list (tree a x (tree (kind compound) end (tree o last others))) ≡ []
    empty_none o last others e = rw e refl

    short_none : (d : LabelOf I) (own : ForestOf I) (o : LabelOf I) (last others : ForestOf I) → is_option o ≡ true → closed_list (tree a x (tree (kind compound) (tree d own end) (tree o last others))) ≡ []
    short_none d own o last others e = rw e refl

    other_none : (d : LabelOf I) (own : ForestOf I) (s : LabelOf I) (items rest : ForestOf I) (o : LabelOf I) (last others : ForestOf I) → is_option o ≡ true → is_statements s ≡ false
        → closed_list (tree a x (tree (kind compound) (tree d own (tree s items rest)) (tree o last others))) ≡ []
    other_none d own s items rest o last others e k = rw (e, k) refl

    main_list : (d : LabelOf I) (own items rest : ForestOf I) (o : LabelOf I) (last others : ForestOf I) → is_option o ≡ true
        → closed_list (tree a x (tree (kind compound) (tree d own (tree (kind statements) items rest)) (tree o last others))) ≡ elements false items ++ elements true last
    main_list d own items rest o last others e = rw e refl

module _ {I : Type 0} (first second : Replies I) (h : HoldsNoError second) where
  abbrev K : Answers I
  K = known first

  abbrev left : List (Element I) → List (Element I)
  left = residual_list element K

  -- the children of a node, in the first stage
  abbrev left_in : Bool → LabelOf I → ForestOf I → ForestOf I
  left_in held l c = cond (is_entered l) (judged left held l (through left (holds_body held l) c)) c

  -- a tree without a fault has none in the second stage
  abbrev GoesOn : LabelOf I → ForestOf I → Type 0
  GoesOn l c = (held : Bool) → Clear first held (tree l c end) → Clear second held (tree l (left_in held l c) end)

  -- all trees of a forest, at every depth
  abbrev AllGoOn : ForestOf I → Type 0
  AllGoOn end = Unit {0}
  AllGoOn (tree l c o) = GoesOn l c × AllGoOn c × AllGoOn o

  forest_on : (held : Bool) (t : ForestOf I) → AllGoOn t → Clear first held t → Clear second held (through left held t)
  forest_on held end all clear = clear_end second held
  forest_on held (tree l c o) all clear =
      clear_join second held l (left_in held l c) (through left held o) (all.0 held (clear_first first held l c o clear)) (forest_on held o all.2 (clear_others first held l c o clear))

  abbrev OneGoesOn : Element I → Type 0
  OneGoesOn x = GoesOn x.label x.children

  each_on : (b : Bool) (t : ForestOf I) → AllGoOn t → Each OneGoesOn (elements b t)
  each_on b end all = tt
  each_on b (tree l c o) all = (all.0, each_on b o all.2)

  -- Lists.

  -- faults of a list look at conditions alone
  faults_inside : (opened : Bool) (xs : List (Element I)) → list_faults second opened (map (judged_inside left) xs) ≡ list_faults second opened xs
  faults_inside opened [] = refl
  faults_inside opened (x ∷ xs) =
      let y = judged_inside left x in
      let same : conditions_of y ≡ conditions_of x = ap conditions (attributes_through left false (tree x.label x.children end)) in
      ap (λ v. cond v (list_faults second opened (map (judged_inside left) xs)) (place_faults opened (conditions_of y) ++ flat_map (condition_faults second) (conditions_of y) ++ list_faults second (opens (conditions_of y)) (map (judged_inside left) xs))) (void_inside left x.label x.children)
      ∙ ap (λ cs. cond (is_void x.label x.children) (list_faults second opened (map (judged_inside left) xs)) (place_faults opened cs ++ flat_map (condition_faults second) cs ++ list_faults second (opens cs) (map (judged_inside left) xs))) same
      ∙ ap (λ fs. cond (is_void x.label x.children) fs (place_faults opened (conditions_of x) ++ flat_map (condition_faults second) (conditions_of x) ++ list_faults second (opens (conditions_of x)) (map (judged_inside left) xs))) (faults_inside opened xs)
      ∙ ap (λ fs. cond (is_void x.label x.children) (list_faults second opened xs) (place_faults opened (conditions_of x) ++ flat_map (condition_faults second) (conditions_of x) ++ fs)) (faults_inside (opens (conditions_of x)) xs)

  list_on : (xs : List (Element I)) → list_faults first false xs ≡ [] → list_faults second false (left (map (judged_inside left) xs)) ≡ []
  list_on xs none =
      ap (list_faults second false) ((residual_tidy K).natural left xs) ∙ faults_inside false (left xs) ∙ list_left first second h xs none

  -- the nodes that stay
  one_on : (b : Bool) (x : Element I) → OneGoesOn x → ClearAt first b x → ClearAt second b (judged_inside left x)
  one_on b x on clear = λ goes. on false (clear goes)

  mapped : (b : Bool) (xs : List (Element I)) → Each OneGoesOn xs → Each (ClearAt first b) xs → Each (ClearAt second b) (map (judged_inside left) xs)
  mapped b [] on clear = tt
  mapped b (x ∷ xs) on clear = (one_on b x on.0 clear.0, mapped b xs on.1 clear.1)

  in_any_role : (b : Bool) (r : Role) (x : Element I) → ClearAt second b x → ClearAt second b (element.in_role K r x)
  in_any_role b r x clear = λ goes. clear_changed second (recast K r) false (tree x.label x.children end) (clear goes)

  abbrev kept_on : List (Element I) → List (Element I)
  kept_on xs = staying element (known second) (left xs)

  stay_on : (b : Bool) (xs : List (Element I)) → Each OneGoesOn xs → Clear first false (back b (stay first xs)) → Clear second false (back b (kept_on (map (judged_inside left) xs)))
  stay_on b xs on clear =
      let ys = map (judged_inside left) xs in
      let stayed : Each (ClearAt second b) (map (judged_inside left) (stay first xs)) = mapped b (stay first xs) (each_stays OneGoesOn element K xs on) (each_of_back first b (stay first xs) clear) in
      back_of_each second b (kept_on ys)
      (each_stays (ClearAt second b) element (known second) (left ys)
      (each_left (ClearAt second b) element K (in_any_role b) ys (subst (Each (ClearAt second b)) (sym (staying_inside left K xs)) stayed)))

  -- A judged list by itself.
  alone_elements : (c : ForestOf I) → elements false (alone left (through left false c)) ≡ left (map (judged_inside left) (elements false c))
  alone_elements c = (residual_tidy K).all_open (through left false c) ∙ ap left (elements_through left false c)

  alone_list : (c : ForestOf I) → list_faults first false (elements false c) ≡ [] → list_faults second false (elements false (alone left (through left false c))) ≡ []
  alone_list c none = ap (list_faults second false) (alone_elements c) ∙ list_on (elements false c) none

  alone_on : (c : ForestOf I) → AllGoOn c → Clear first false (alone (stay first) c) → Clear second false (alone (stay second) (alone left (through left false c)))
  alone_on c all clear = subst (λ xs. Clear second false (back false (stay second xs))) (sym (alone_elements c)) (stay_on false (elements false c) (each_on false c all) clear)

  -- A list with what closes it.
  both_elements : (c d : ForestOf I) → left (elements false (through left false c) ++ elements true (through left false d)) ≡ left (map (judged_inside left) (elements false c ++ elements true d))
  both_elements c d = ap left (
      ap (λ xs. xs ++ elements true (through left false d)) (elements_through left false c)
      ∙ ap (λ xs. map (judged_inside left) (elements false c) ++ xs) (elements_through left true d)
      ∙ sym (map-append (judged_inside left) (elements false c) (elements true d)))

  closed_list_rebuilt : (a : LabelOf I) (x : ForestOf I) (d : LabelOf I) (own items rest last others : ForestOf I) → closed_list (tree a x (rebuilt first d own items rest last others)) ≡ elements false items ++ elements true last
  closed_list_rebuilt a x d own items rest end others = refl
  closed_list_rebuilt a x d own items rest (tree l c o) others = refl

  -- the children of a loop or a continuing block in the first stage
  abbrev held_left : ForestOf I → ForestOf I
  held_left c = closed left (through left true c)

  abbrev ListGoesOn : ForestOf I → Type 0
  ListGoesOn c = list_faults first false (closed_list c) ≡ [] → list_faults second false (closed_list (held_left c)) ≡ []

  abbrev InsideGoesOn : ForestOf I → Type 0
  InsideGoesOn c = AllGoOn c → Clear first true (closed (stay first) c) → Clear second true (closed (stay second) (held_left c))

  -- statements and what closes them
  body_list_on : (a : LabelOf I) (x : ForestOf I) (d : LabelOf I) (own items rest last others : ForestOf I) → list_faults first false (elements false items ++ elements true last) ≡ []
      → list_faults second false (closed_list (tree a x (rebuilt first d own (back false (left (elements false (through left false items) ++ elements true (through left false last)))) rest (back true (left (elements false (through left false items) ++ elements true (through left false last)))) others))) ≡ []
  body_list_on a x d own items rest last others none =
      let kept = left (elements false (through left false items) ++ elements true (through left false last)) in
      ap (list_faults second false) (
      closed_list_rebuilt a x d own (back false kept) rest (back true kept) others
      ∙ (residual_tidy K).in_order (through left false items) (through left false last)
      ∙ both_elements items last)
      ∙ list_on (elements false items ++ elements true last) none

  each_both : (items last : ForestOf I) → AllGoOn items → AllGoOn last → Each OneGoesOn (elements false items ++ elements true last)
  each_both items last p q = each_join OneGoesOn (elements false items) (elements true last) (each_on false items p) (each_on true last q)

  -- what closes them
  body_on : (a : LabelOf I) (x : ForestOf I) (d : LabelOf I) (own items rest last others : ForestOf I) (a' d' : LabelOf I) (x' own' rest' others' : ForestOf I) → AllGoOn items → AllGoOn last
      → (Clear first true (tree a x end) → Clear second true (tree a' x' end)) → (Clear first true (tree d own end) → Clear second true (tree d' own' end)) → (Clear first true rest → Clear second true rest') → (Clear first true others → Clear second true others')
      → Clear first true (tree a x (rebuilt first d own (back false (stay first (elements false items ++ elements true last))) rest (back true (stay first (elements false items ++ elements true last))) others))
      → Clear second true (closed (stay second) (tree a' x' (rebuilt first d' own' (back false (left (elements false (through left false items) ++ elements true (through left false last)))) rest' (back true (left (elements false (through left false items) ++ elements true (through left false last)))) others')))
  body_on a x d own items rest last others a' d' x' own' rest' others' p q on_a on_d on_rest on_others clear =
      let xs = elements false items ++ elements true last in
      let kept = left (elements false (through left false items) ++ elements true (through left false last)) in
      let parts = rebuilt_clear first a x d own (back false (stay first xs)) rest (back true (stay first xs)) others clear in
      let each = each_both items last p q in
      let order : elements false (back false kept) ++ elements true (back true kept) ≡ left (map (judged_inside left) xs) = (residual_tidy K).in_order (through left false items) (through left false last) ∙ both_elements items last in
      let stays = stay second (elements false (back false kept) ++ elements true (back true kept)) in
      subst (Clear second true) (sym (option_again left (stay second) kept_on (residual_tidy K) (λ ys. refl) a' x' d' own' (back false kept) rest' (back true kept) others'))
      (clear_rebuilt second a' x' d' own' (back false stays) rest' (back true stays) others' (record {
        at_first = on_a parts.at_first;
        at_own = on_d parts.at_own;
        at_items = subst (λ ys. Clear second false (back false (stay second ys))) (sym order) (stay_on false xs each parts.at_items);
        at_rest = on_rest parts.at_rest;
        at_last = subst (λ ys. Clear second false (back true (stay second ys))) (sym order) (stay_on true xs each parts.at_last);
        at_others = on_others parts.at_others;
      }))

  -- the optional child of a loop or a continuing block
  option_left : (o : LabelOf I) (last : ForestOf I) → is_option o ≡ true → left_in true o last ≡ through left false last
  option_left o last = option_cases (λ a. left_in true a last ≡ through left false last) refl refl o

  abbrev kept_with : ForestOf I → ForestOf I → List (Element I)
  kept_with items last = left (elements false (through left false items) ++ elements true (through left false last))

  held_main : (a : LabelOf I) (x : ForestOf I) (d : LabelOf I) (own items rest : ForestOf I) (o : LabelOf I) (last others : ForestOf I) → is_option o ≡ true
      → held_left (tree a x (tree (kind compound) (tree d own (tree (kind statements) items rest)) (tree o last others)))
      ≡ tree a (left_in true a x) (rebuilt first d (left_in true d own) (back false (kept_with items last)) (through left true rest) (back true (kept_with items last)) (through left true others))
  held_main a x d own items rest o last others e =
      ap (λ z. closed left (tree a (left_in true a x) (tree (kind compound) (tree d (left_in true d own) (tree (kind statements) (through left false items) (through left true rest))) (tree o z (through left true others))))) (option_left o last e)
      ∙ closed_main left a (left_in true a x) first d (left_in true d own) (through left false items) (through left true rest) o (through left false last) (through left true others) e

  -- where the list is judged apart, or there is none
  unchanged_list : (c : ForestOf I) → ((f : List (Element I) → List (Element I)) → closed f (through left true c) ≡ through left true c) → closed_list (through left true c) ≡ [] → ListGoesOn c
  unchanged_list c same none unused = ap (λ y. list_faults second false (closed_list y)) (same left) ∙ ap (list_faults second false) none

  unchanged_inside : (c : ForestOf I) → ((f : List (Element I) → List (Element I)) → closed f c ≡ c) → ((f : List (Element I) → List (Element I)) → closed f (through left true c) ≡ through left true c) → InsideGoesOn c
  unchanged_inside c before same all clear =
      subst (Clear second true) (sym (ap (closed (stay second)) (same left) ∙ same (stay second))) (forest_on true c all (subst (Clear first true) (before (stay first)) clear))

  abbrev BothGoOn : ForestOf I → Type 0
  BothGoOn c = ListGoesOn c × InsideGoesOn c

  main_on : (a : LabelOf I) (x : ForestOf I) (d : LabelOf I) (own items rest : ForestOf I) (o : LabelOf I) (last others : ForestOf I) → is_option o ≡ true
      → BothGoOn (tree a x (tree (kind compound) (tree d own (tree (kind statements) items rest)) (tree o last others)))
  main_on a x d own items rest o last others e = (
    λ none.
        ap (λ y. list_faults second false (closed_list y)) (held_main a x d own items rest o last others e)
        ∙ body_list_on a (left_in true a x) d (left_in true d own) items (through left true rest) last (through left true others) (ap (list_faults first false) (sym (main_list a x d own items rest o last others e)) ∙ none),
    λ all clear.
        subst (λ y. Clear second true (closed (stay second) y)) (sym (held_main a x d own items rest o last others e))
        (body_on a x d own items rest last others a d (left_in true a x) (left_in true d own) (through left true rest) (through left true others) all.2.1.2.1 all.2.2.1 (all.0 true) (all.2.1.0 true) (forest_on true rest all.2.1.2.2) (forest_on true others all.2.2.2)
        (subst (Clear first true) (closed_main (stay first) a x first d own items rest o last others e) clear)),
  )

  statements_on : (a : LabelOf I) (x : ForestOf I) (d : LabelOf I) (own : ForestOf I) (s : LabelOf I) (items rest : ForestOf I) (o : LabelOf I) (last others : ForestOf I) (q : Bool) → is_option o ≡ true → is_statements s ≡ q
      → BothGoOn (tree a x (tree (kind compound) (tree d own (tree s items rest)) (tree o last others)))
  statements_on a x d own s items rest o last others true e k =
      subst (λ l. BothGoOn (tree a x (tree (kind compound) (tree d own (tree l items rest)) (tree o last others)))) (sym (statements_is s k)) (main_on a x d own items rest o last others e)
  statements_on a x d own s items rest o last others false e k =
      let c = tree a x (tree (kind compound) (tree d own (tree s items rest)) (tree o last others)) in
      let same : (f : List (Element I) → List (Element I)) → closed f (through left true c) ≡ through left true c = λ f. other_same f a (left_in true a x) d (left_in true d own) s (left_in true s items) (through left true rest) o (left_in true o last) (through left true others) e k in
      (unchanged_list c same (other_none a (left_in true a x) d (left_in true d own) s (left_in true s items) (through left true rest) o (left_in true o last) (through left true others) e k), unchanged_inside c (λ f. other_same f a x d own s items rest o last others e k) same)

  bodies_on : (a : LabelOf I) (x body : ForestOf I) (o : LabelOf I) (last others : ForestOf I) → is_option o ≡ true → BothGoOn (tree a x (tree (kind compound) body (tree o last others)))
  bodies_on a x end o last others e =
      let c = tree a x (tree (kind compound) end (tree o last others)) in
      let same : (f : List (Element I) → List (Element I)) → closed f (through left true c) ≡ through left true c = λ f. empty_same f a (left_in true a x) o (left_in true o last) (through left true others) e in
      (unchanged_list c same (empty_none a (left_in true a x) o (left_in true o last) (through left true others) e), unchanged_inside c (λ f. empty_same f a x o last others e) same)
  bodies_on a x (tree d own end) o last others e =
      let c = tree a x (tree (kind compound) (tree d own end) (tree o last others)) in
      let same : (f : List (Element I) → List (Element I)) → closed f (through left true c) ≡ through left true c = λ f. short_same f a (left_in true a x) d (left_in true d own) o (left_in true o last) (through left true others) e in
      (unchanged_list c same (short_none a (left_in true a x) d (left_in true d own) o (left_in true o last) (through left true others) e), unchanged_inside c (λ f. short_same f a x d own o last others e) same)
  bodies_on a x (tree d own (tree s items rest)) o last others e = statements_on a x d own s items rest o last others _ e refl

  pair_on : (a : LabelOf I) (x : ForestOf I) (b : LabelOf I) (body : ForestOf I) (o : LabelOf I) (last others : ForestOf I) (p : Bool) → (is_compound b && is_option o) ≡ p → BothGoOn (tree a x (tree b body (tree o last others)))
  pair_on a x b body o last others true e =
      let parts = and_parts (is_compound b) (is_option o) e in
      subst (λ l. BothGoOn (tree a x (tree l body (tree o last others)))) (sym (compound_is b parts.0)) (bodies_on a x body o last others parts.1)
  pair_on a x b body o last others false e =
      let c = tree a x (tree b body (tree o last others)) in
      let same : (f : List (Element I) → List (Element I)) → closed f (through left true c) ≡ through left true c = λ f. apart_same f a (left_in true a x) b (left_in true b body) o (left_in true o last) (through left true others) e in
      (unchanged_list c same (apart_none a (left_in true a x) b (left_in true b body) o (left_in true o last) (through left true others) e), unchanged_inside c (λ f. apart_same f a x b body o last others e) same)

  held_on : (c : ForestOf I) → BothGoOn c
  held_on end = (λ none. refl, λ all clear. clear_end second true)
  held_on (tree a x end) = (λ none. refl, λ all clear. forest_on true (tree a x end) all clear)
  held_on (tree a x (tree b body end)) = (λ none. refl, λ all clear. forest_on true (tree a x (tree b body end)) all clear)
  held_on (tree a x (tree b body (tree o last others))) = pair_on a x b body o last others _ refl

  -- One node.
  closed_node : (l : LabelOf I) (c : ForestOf I) (held : Bool) → is_entered l ≡ true → is_closed l ≡ true → AllGoOn c → Clear first held (tree l c end) → Clear second held (tree l (left_in held l c) end)
  closed_node l c held e v all clear =
      let holds : holds_body held l ≡ true = rw v refl in
      let its_list : (y : ForestOf I) → list_at held l y ≡ closed_list y = λ y. rw v refl in
      let judges : (f : List (Element I) → List (Element I)) (y : ForestOf I) → judged f held l y ≡ closed f y = λ f y. rw v refl in
      let left_is : left_in held l c ≡ held_left c = rw (e, v) refl in
      let none = ap (list_faults first false) (sym (its_list c)) ∙ list_clear first held l c e clear in
      let inner = subst (λ y. Clear first true y) (judges (stay first) c) (subst (λ b. Clear first b (judged (stay first) held l c)) holds (inside_clear first held l c e clear)) in
      subst (λ y. Clear second held (tree l y end)) (sym left_is)
      (clear_node second held l (held_left c) (ap (list_faults second false) (its_list (held_left c)) ∙ (held_on c).0 none)
      (subst (λ b. Clear second b (judged (stay second) held l (held_left c))) (sym holds) (subst (λ y. Clear second true y) (sym (judges (stay second) (held_left c))) ((held_on c).1 all inner))))

  listed_node : (l : LabelOf I) (c : ForestOf I) (held : Bool) → is_entered l ≡ true → is_closed l ≡ false → (is_list l && not (is_statements l && held)) ≡ true → is_compound l ≡ false → AllGoOn c → Clear first held (tree l c end) → Clear second held (tree l (left_in held l c) end)
  listed_node l c held e v t b all clear =
      let holds : holds_body held l ≡ false = rw (v, b) refl in
      let its_list : (y : ForestOf I) → list_at held l y ≡ elements false y = λ y. rw (v, t) refl in
      let judges : (f : List (Element I) → List (Element I)) (y : ForestOf I) → judged f held l y ≡ alone f y = λ f y. rw (v, t) refl in
      let now = alone left (through left false c) in
      let left_is : left_in held l c ≡ now = rw (e, v, t, b) refl in
      let none = ap (list_faults first false) (sym (its_list c)) ∙ list_clear first held l c e clear in
      let inner = subst (λ y. Clear first false y) (judges (stay first) c) (subst (λ b. Clear first b (judged (stay first) held l c)) holds (inside_clear first held l c e clear)) in
      subst (λ y. Clear second held (tree l y end)) (sym left_is)
      (clear_node second held l now (ap (list_faults second false) (its_list now) ∙ alone_list c none)
      (subst (λ b. Clear second b (judged (stay second) held l now)) (sym holds) (subst (λ y. Clear second false y) (sym (judges (stay second) now)) (alone_on c all inner))))

  other_node : (l : LabelOf I) (c : ForestOf I) (held : Bool) → is_entered l ≡ true → is_closed l ≡ false → (is_list l && not (is_statements l && held)) ≡ false → AllGoOn c → Clear first held (tree l c end) → Clear second held (tree l (left_in held l c) end)
  other_node l c held e v t all clear =
      let its_list : (y : ForestOf I) → list_at held l y ≡ [] = λ y. rw (v, t) refl in
      let judges : (f : List (Element I) → List (Element I)) (y : ForestOf I) → judged f held l y ≡ y = λ f y. rw (v, t) refl in
      let now = through left (holds_body held l) c in
      let left_is : left_in held l c ≡ now = ap (λ b. cond b (judged left held l now) c) e ∙ judges left now in
      subst (λ y. Clear second held (tree l y end)) (sym left_is)
      (clear_node second held l now (ap (list_faults second false) (its_list now))
      (subst (λ y. Clear second (holds_body held l) y) (sym (judges (stay second) now))
      (forest_on (holds_body held l) c all (subst (λ y. Clear first (holds_body held l) y) (judges (stay first) c) (inside_clear first held l c e clear)))))

  node_on : (l : LabelOf I) (c : ForestOf I) (held : Bool) (w v t : Bool) → is_entered l ≡ w → is_closed l ≡ v → (is_list l && not (is_statements l && held)) ≡ t → AllGoOn c → Clear first held (tree l c end) → Clear second held (tree l (left_in held l c) end)
  node_on l c held false v t e k d all clear = clear_leaf second held l (left_in held l c) e
  node_on l c held true true t e k d all clear = closed_node l c held e k all clear
  node_on l c held true false true e k d all clear = listed_node l c held e k d (listed_in l held d) all clear
  node_on l c held true false false e k d all clear = other_node l c held e k d all clear

  all_on : (t : ForestOf I) → AllGoOn t
  all_on end = tt
  all_on (tree l c o) = (λ held. node_on l c held _ _ _ refl refl refl (all_on c), all_on c, all_on o)

  pub later_clear : (t : ForestOf I) → Clear first false t → Clear second false (through left false t)
  later_clear t clear = forest_on false t (all_on t) clear

  -- a module in a later stage
  pub later_faultless : (u : UnitOf I) → IsFaultless first u → IsFaultless second (residual_unit K u)
  later_faultless u clear = later_clear (forest_of_unit u) clear

-- Both stages at once.
module _ {I : Type 0} (first second : Replies I) (e : HoldsNoError first) (h : HoldsNoError second) where
  abbrev both : Replies I
  both = then_replies first second

  stay_in_both : (Q : Element I → Type 0) (xs : List (Element I)) → Each Q (stay first xs) → Each Q (stay both xs)
  stay_in_both Q xs each = subst (λ a. Each Q (staying element a xs)) (sym (then_is_in_stages first second e)) (stays_in_both Q element (known first) (known second) xs each)

  back_in_both : (b : Bool) (xs : List (Element I)) → Clear first false (back b (stay first xs)) → Clear first false (back b (stay both xs))
  back_in_both b xs clear = back_of_each first b (stay both xs) (stay_in_both (ClearAt first b) xs (each_of_back first b (stay first xs) clear))

  abbrev InsideInBoth : ForestOf I → Type 0
  InsideInBoth c = Clear first true (closed (stay first) c) → Clear first true (closed (stay both) c)

  body_in_both : (a : LabelOf I) (x : ForestOf I) (d : LabelOf I) (own items rest last others : ForestOf I)
      → Clear first true (tree a x (rebuilt first d own (back false (stay first (elements false items ++ elements true last))) rest (back true (stay first (elements false items ++ elements true last))) others))
      → Clear first true (tree a x (rebuilt first d own (back false (stay both (elements false items ++ elements true last))) rest (back true (stay both (elements false items ++ elements true last))) others))
  body_in_both a x d own items rest last others clear =
      let xs = elements false items ++ elements true last in
      let parts = rebuilt_clear first a x d own (back false (stay first xs)) rest (back true (stay first xs)) others clear in
      clear_rebuilt first a x d own (back false (stay both xs)) rest (back true (stay both xs)) others (record {
        at_first = parts.at_first;
        at_own = parts.at_own;
        at_items = back_in_both false xs parts.at_items;
        at_rest = parts.at_rest;
        at_last = back_in_both true xs parts.at_last;
        at_others = parts.at_others;
      })

  unchanged_in_both : (c : ForestOf I) → ((f : List (Element I) → List (Element I)) → closed f c ≡ c) → InsideInBoth c
  unchanged_in_both c same clear = subst (Clear first true) (same (stay first) ∙ sym (same (stay both))) clear

  statements_in_both : (a : LabelOf I) (x : ForestOf I) (d : LabelOf I) (own : ForestOf I) (s : LabelOf I) (items rest : ForestOf I) (o : LabelOf I) (last others : ForestOf I) (q : Bool) → is_option o ≡ true → is_statements s ≡ q
      → InsideInBoth (tree a x (tree (kind compound) (tree d own (tree s items rest)) (tree o last others)))
  statements_in_both a x d own s items rest o last others true e k =
      subst (λ l. InsideInBoth (tree a x (tree (kind compound) (tree d own (tree l items rest)) (tree o last others)))) (sym (statements_is s k))
      (λ clear. subst (Clear first true) (sym (closed_main (stay both) a x first d own items rest o last others e))
      (body_in_both a x d own items rest last others (subst (Clear first true) (closed_main (stay first) a x first d own items rest o last others e) clear)))
  statements_in_both a x d own s items rest o last others false e k = unchanged_in_both (tree a x (tree (kind compound) (tree d own (tree s items rest)) (tree o last others))) (λ f. other_same f a x d own s items rest o last others e k)

  bodies_in_both : (a : LabelOf I) (x body : ForestOf I) (o : LabelOf I) (last others : ForestOf I) → is_option o ≡ true → InsideInBoth (tree a x (tree (kind compound) body (tree o last others)))
  bodies_in_both a x end o last others e = unchanged_in_both (tree a x (tree (kind compound) end (tree o last others))) (λ f. empty_same f a x o last others e)
  bodies_in_both a x (tree d own end) o last others e = unchanged_in_both (tree a x (tree (kind compound) (tree d own end) (tree o last others))) (λ f. short_same f a x d own o last others e)
  bodies_in_both a x (tree d own (tree s items rest)) o last others e = statements_in_both a x d own s items rest o last others _ e refl

  pair_in_both : (a : LabelOf I) (x : ForestOf I) (b : LabelOf I) (body : ForestOf I) (o : LabelOf I) (last others : ForestOf I) (p : Bool) → (is_compound b && is_option o) ≡ p → InsideInBoth (tree a x (tree b body (tree o last others)))
  pair_in_both a x b body o last others true e =
      let parts = and_parts (is_compound b) (is_option o) e in
      subst (λ l. InsideInBoth (tree a x (tree l body (tree o last others)))) (sym (compound_is b parts.0)) (bodies_in_both a x body o last others parts.1)
  pair_in_both a x b body o last others false e = unchanged_in_both (tree a x (tree b body (tree o last others))) (λ f. apart_same f a x b body o last others e)

  held_in_both : (c : ForestOf I) → InsideInBoth c
  held_in_both end clear = clear
  held_in_both (tree a x end) clear = clear
  held_in_both (tree a x (tree b body end)) clear = clear
  held_in_both (tree a x (tree b body (tree o last others))) clear = pair_in_both a x b body o last others _ refl clear

  node_in_both : (held : Bool) (l : LabelOf I) (c : ForestOf I) (v t : Bool) → is_closed l ≡ v → (is_list l && not (is_statements l && held)) ≡ t → Clear first (holds_body held l) (judged (stay first) held l c) → Clear first (holds_body held l) (judged (stay both) held l c)
  node_in_both held l c true t k d clear =
      let holds : holds_body held l ≡ true = rw k refl in
      let judges : (f : List (Element I) → List (Element I)) → judged f held l c ≡ closed f c = λ f. rw k refl in
      subst (λ b. Clear first b (judged (stay both) held l c)) (sym holds) (subst (Clear first true) (sym (judges (stay both)))
      (held_in_both c (subst (Clear first true) (judges (stay first)) (subst (λ b. Clear first b (judged (stay first) held l c)) holds clear))))
  node_in_both held l c false true k d clear =
      let holds : holds_body held l ≡ false = rw (k, listed_in l held d) refl in
      let judges : (f : List (Element I) → List (Element I)) → judged f held l c ≡ alone f c = λ f. rw (k, d) refl in
      subst (λ b. Clear first b (judged (stay both) held l c)) (sym holds) (subst (Clear first false) (sym (judges (stay both)))
      (back_in_both false (elements false c) (subst (Clear first false) (judges (stay first)) (subst (λ b. Clear first b (judged (stay first) held l c)) holds clear))))
  node_in_both held l c false false k d clear =
      let judges : (f : List (Element I) → List (Element I)) → judged f held l c ≡ c = λ f. rw (k, d) refl in
      subst (Clear first (holds_body held l)) (judges (stay first) ∙ sym (judges (stay both))) clear

  none_in_both_stages : (held : Bool) (t : ForestOf I) (f : Fault I) → Stands both held t f → Clear first held t → ⊥
  none_in_both_stages held end f s clear = clear_end both held f s
  none_in_both_stages held (tree l c o) f (here en among) clear =
      none_among both f (list_faults both false (list_at held l c)) (list_in_both first second h false (list_at held l c) (list_clear first held l c en (clear_first first held l c o clear))) among
  none_in_both_stages held (tree l c o) f (inside en n s) clear =
      none_in_both_stages (holds_body held l) (judged (stay both) held l c) f s (node_in_both held l c _ _ refl refl (inside_clear first held l c en (clear_first first held l c o clear)))
  none_in_both_stages held (tree l c o) f (beside s) clear = none_in_both_stages held o f s (clear_others first held l c o clear)

  -- a module in both stages at once
  pub both_faultless : (u : UnitOf I) → IsFaultless first u → IsFaultless both u
  both_faultless u clear f s = none_in_both_stages false (forest_of_unit u) f s clear
