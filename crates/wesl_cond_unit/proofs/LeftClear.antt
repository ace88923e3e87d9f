-- What is left of a module in which no fault stands has none under the same answers.
use Rattle.std.proofs.Common.{◌≡◌, ℕ, Bool, true, false, not, ◌&&◌, cond, List, [], ◌∷◌, ◌++◌, map, refl, sym, ap, ◌∙◌, subst}
use Rattle.std.proofs.lemmas.List.{map-append}
use Rattle.wesl_cond_features.specs.Answers.{Answers}
use Rattle.wesl_cond_features.specs.Features.{Replies, known}
use Rattle.wesl_cond_features.specs.declared.chain.Role.{Role}
use Rattle.wesl_cond_chains.specs.Chains.{residual_list, staying}
use Rattle.wesl_cond_chains.specs.Conditions.{is_statements, is_list, recast}
use Rattle.wesl_cond_chains.specs.Faults.{list_faults, list_at, closed_list}
use Rattle.wesl_cond_chains.specs.Lists.{Element, element, elements, back, is_closed, is_compound, is_option, is_entered, holds_body, alone, closed, judged, through}
use Rattle.wesl_cond_chains.proofs.Bodies.{option_cases, pair_cases}
use Rattle.wesl_cond_chains.proofs.Clear.{Clear, ClearAt, stay, rebuilt, clear_end, clear_join, clear_others, clear_first, clear_leaf, clear_node, list_clear, inside_clear, clear_rebuilt, rebuilt_clear, each_of_back, back_of_each, clear_changed}
use Rattle.wesl_cond_chains.proofs.Kept.{Each, each_join, each_stays, each_left, staying_inside}
use Rattle.wesl_cond_chains.proofs.Passing.{inside, elements_through, option_again}
use Rattle.wesl_cond_chains.proofs.TreeStages.{residual_tidy}
use Rattle.wesl_cond_unit.proofs.LeftFormulas.{list_left_inside}
use Rattle.wesl_cond_unit.specs.Left.{LeavesNoFault}
use Rattle.wesl_tree_syntax.specs.Tree.{Label, Forest, end, tree, kind, compound, statements, present, absent}
use Rattle.wesl_tree_syntax.specs.Unit.{forest_of_unit}

not_compound : (l : Label) (held : Bool) → (is_list l && not (is_statements l && held)) ≡ true → is_compound l ≡ false
not_compound (kind compound) held e = cc
not_compound l held e = refl

module _ (reply : Replies ℕ) where
  abbrev K : Answers ℕ
  K = known reply

  abbrev left : List (Element ℕ) → List (Element ℕ)
  left = residual_list element K

  -- The shapes of what a loop or a continuing block holds.

  -- where no list is judged with what closes it
  record Apart (c : Forest) : Type 0 where
    before : (f : List (Element ℕ) → List (Element ℕ)) → closed f c ≡ c
    after : (f : List (Element ℕ) → List (Element ℕ)) → closed f (through left true c) ≡ through left true c
    unlisted : closed_list (through left true c) ≡ []

  -- where one is
  abbrev body : Label → Forest → Label → Forest → Forest → Forest → Label → Forest → Forest → Forest
  body a x d own items rest o last others = tree a x (tree (kind compound) (tree d own (tree (kind statements) items rest)) (tree o last others))

  module _ (P : Forest → Type 0) (main : (a : Label) (x : Forest) (d : Label) (own items rest : Forest) (o : Label) (last others : Forest) → is_option o ≡ true → P (body a x d own items rest o last others)) (other : (c : Forest) → Apart c → P c) where
    by_body : (a : Label) (x b : Forest) (o : Label) (last others : Forest) → is_option o ≡ true → P (tree a x (tree (kind compound) b (tree o last others)))
    by_body a x end o last others e = other _ (record { before = λ f. rw e refl; after = λ f. rw e refl; unlisted = rw e refl })
    by_body a x (tree d own end) o last others e = other _ (record { before = λ f. rw e refl; after = λ f. rw e refl; unlisted = rw e refl })
    by_body a x (tree d own (tree (kind statements) items rest)) o last others e = main a x d own items rest o last others e
    by_body a x (tree d own (tree s items rest)) o last others e = other _ (record { before = λ f. rw e refl; after = λ f. rw e refl; unlisted = rw e refl })

    by_shape : (c : Forest) → P c
    by_shape end = other end (record { before = λ f. refl; after = λ f. refl; unlisted = refl })
    by_shape (tree a x end) = other (tree a x end) (record { before = λ f. refl; after = λ f. refl; unlisted = refl })
    by_shape (tree a x (tree b y end)) = other (tree a x (tree b y end)) (record { before = λ f. refl; after = λ f. refl; unlisted = refl })
    by_shape (tree a x (tree b y (tree o last others))) =
        pair_cases (λ b o. P (tree a x (tree b y (tree o last others))))
        (by_body a x y (kind present) last others refl) (by_body a x y (kind absent) last others refl)
        (λ b o e. other _ (record { before = λ f. rw e refl; after = λ f. rw e refl; unlisted = rw e refl })) b o

  -- the children of a node, as they are left
  abbrev left_in : Bool → Label → Forest → Forest
  left_in held l c = cond (is_entered l) (judged left held l (through left (holds_body held l) c)) c

  -- what is left of a tree without a fault has none
  abbrev GoesOn : Label → Forest → Type 0
  GoesOn l c = (held : Bool) → Clear reply held (tree l c end) → Clear reply held (tree l (left_in held l c) end)

  -- all trees of a forest, at every depth
  abbrev AllGoOn : Forest → Type 0
  AllGoOn end = Unit {0}
  AllGoOn (tree l c o) = GoesOn l c × AllGoOn c × AllGoOn o

  forest_on : (held : Bool) (t : Forest) → AllGoOn t → Clear reply held t → Clear reply held (through left held t)
  forest_on held end all clear = clear_end reply held
  forest_on held (tree l c o) all clear =
      clear_join reply held l (left_in held l c) (through left held o) (all.0 held (clear_first reply held l c o clear)) (forest_on held o all.2 (clear_others reply held l c o clear))

  abbrev OneGoesOn : Element ℕ → Type 0
  OneGoesOn x = GoesOn x.label x.children

  each_on : (b : Bool) (t : Forest) → AllGoOn t → Each OneGoesOn (elements b t)
  each_on b end all = tt
  each_on b (tree l c o) all = (all.0, each_on b o all.2)

  -- The nodes that stay.
  mapped : (b : Bool) (xs : List (Element ℕ)) → Each OneGoesOn xs → Each (ClearAt reply b) xs → Each (ClearAt reply b) (map (inside left) xs)
  mapped b [] on clear = tt
  mapped b (x ∷ xs) on clear = ((λ goes. on.0 false (clear.0 goes)), mapped b xs on.1 clear.1)

  in_any_role : (b : Bool) (r : Role) (x : Element ℕ) → ClearAt reply b x → ClearAt reply b (element.in_role K r x)
  in_any_role b r x clear = λ goes. clear_changed reply (recast K r) false (tree x.label x.children end) (clear goes)

  abbrev kept_on : List (Element ℕ) → List (Element ℕ)
  kept_on xs = staying element K (left xs)

  stay_on : (b : Bool) (xs : List (Element ℕ)) → Each OneGoesOn xs → Clear reply false (back b (stay reply xs)) → Clear reply false (back b (kept_on (map (inside left) xs)))
  stay_on b xs on clear =
      let ys = map (inside left) xs in
      let stayed : Each (ClearAt reply b) (map (inside left) (stay reply xs)) = mapped b (stay reply xs) (each_stays OneGoesOn element K xs on) (each_of_back reply b (stay reply xs) clear) in
      back_of_each reply b (kept_on ys)
      (each_stays (ClearAt reply b) element K (left ys)
      (each_left (ClearAt reply b) element K (in_any_role b) ys (subst (Each (ClearAt reply b)) (sym (staying_inside left K xs)) stayed)))

  -- A judged list by itself.
  alone_elements : (c : Forest) → elements false (alone left (through left false c)) ≡ left (map (inside left) (elements false c))
  alone_elements c = (residual_tidy K).all_open (through left false c) ∙ ap left (elements_through left false c)

  alone_on : (c : Forest) → AllGoOn c → Clear reply false (alone (stay reply) c) → Clear reply false (alone (stay reply) (alone left (through left false c)))
  alone_on c all clear = subst (λ xs. Clear reply false (back false (stay reply xs))) (sym (alone_elements c)) (stay_on false (elements false c) (each_on false c all) clear)

  -- A list with what closes it.
  both_elements : (c d : Forest) → left (elements false (through left false c) ++ elements true (through left false d)) ≡ left (map (inside left) (elements false c ++ elements true d))
  both_elements c d = ap left (
      ap (λ xs. xs ++ elements true (through left false d)) (elements_through left false c)
      ∙ ap (λ xs. map (inside left) (elements false c) ++ xs) (elements_through left true d)
      ∙ sym (map-append (inside left) (elements false c) (elements true d)))

  abbrev kept_with : Forest → Forest → List (Element ℕ)
  kept_with items last = left (elements false (through left false items) ++ elements true (through left false last))

  -- the children of a loop or a continuing block, as they are left
  abbrev held_left : Forest → Forest
  held_left c = closed left (through left true c)

  abbrev ListGoesOn : Forest → Type 0
  ListGoesOn c = list_faults reply false (closed_list c) ≡ [] → list_faults reply false (closed_list (held_left c)) ≡ []

  abbrev InsideGoesOn : Forest → Type 0
  InsideGoesOn c = AllGoOn c → Clear reply true (closed (stay reply) c) → Clear reply true (closed (stay reply) (held_left c))

  abbrev BothGoOn : Forest → Type 0
  BothGoOn c = ListGoesOn c × InsideGoesOn c

  apart_on : (c : Forest) → Apart c → BothGoOn c
  apart_on c h = (
    (λ none. ap (λ y. list_faults reply false (closed_list y)) (h.after left) ∙ ap (list_faults reply false) h.unlisted),
    λ all clear. subst (Clear reply true) (sym (ap (closed (stay reply)) (h.after left) ∙ h.after (stay reply))) (forest_on true c all (subst (Clear reply true) (h.before (stay reply)) clear)),
  )

  closed_main : (f : List (Element ℕ) → List (Element ℕ)) (a : Label) (x : Forest) (d : Label) (own items rest : Forest) (o : Label) (last others : Forest) → is_option o ≡ true
      → closed f (body a x d own items rest o last others) ≡ tree a x (rebuilt reply d own (back false (f (elements false items ++ elements true last))) rest (back true (f (elements false items ++ elements true last))) others)
  closed_main f a x d own items rest o last others e = rw e refl

  main_list : (a : Label) (x : Forest) (d : Label) (own items rest : Forest) (o : Label) (last others : Forest) → is_option o ≡ true → closed_list (body a x d own items rest o last others) ≡ elements false items ++ elements true last
  main_list a x d own items rest o last others e = rw e refl

  rebuilt_list : (a : Label) (x : Forest) (d : Label) (own items rest last others : Forest) → closed_list (tree a x (rebuilt reply d own items rest last others)) ≡ elements false items ++ elements true last
  rebuilt_list a x d own items rest end others = refl
  rebuilt_list a x d own items rest (tree l c o) others = refl

  option_left : (o : Label) (last : Forest) → is_option o ≡ true → left_in true o last ≡ through left false last
  option_left o last = option_cases (λ a. left_in true a last ≡ through left false last) refl refl o

  held_main : (a : Label) (x : Forest) (d : Label) (own items rest : Forest) (o : Label) (last others : Forest) → is_option o ≡ true
      → held_left (body a x d own items rest o last others)
      ≡ tree a (left_in true a x) (rebuilt reply d (left_in true d own) (back false (kept_with items last)) (through left true rest) (back true (kept_with items last)) (through left true others))
  held_main a x d own items rest o last others e =
      ap (λ z. closed left (body a (left_in true a x) d (left_in true d own) (through left false items) (through left true rest) o z (through left true others))) (option_left o last e)
      ∙ closed_main left a (left_in true a x) d (left_in true d own) (through left false items) (through left true rest) o (through left false last) (through left true others) e

  -- statements, with what closes them
  main_list_on : (a : Label) (x : Forest) (d : Label) (own items rest : Forest) (o : Label) (last others : Forest) → is_option o ≡ true → ListGoesOn (body a x d own items rest o last others)
  main_list_on a x d own items rest o last others e none =
      let kept = kept_with items last in
      ap (list_faults reply false) (
      ap closed_list (held_main a x d own items rest o last others e)
      ∙ rebuilt_list a (left_in true a x) d (left_in true d own) (back false kept) (through left true rest) (back true kept) (through left true others)
      ∙ (residual_tidy K).in_order (through left false items) (through left false last)
      ∙ both_elements items last)
      ∙ list_left_inside reply (elements false items ++ elements true last) (ap (list_faults reply false) (sym (main_list a x d own items rest o last others e)) ∙ none)

  main_inside_on : (a : Label) (x : Forest) (d : Label) (own items rest : Forest) (o : Label) (last others : Forest) → is_option o ≡ true → InsideGoesOn (body a x d own items rest o last others)
  main_inside_on a x d own items rest o last others e all clear =
      let xs = elements false items ++ elements true last in
      let kept = kept_with items last in
      let each = each_join OneGoesOn (elements false items) (elements true last) (each_on false items all.2.1.2.1) (each_on true last all.2.2.1) in
      let parts = rebuilt_clear reply a x d own (back false (stay reply xs)) rest (back true (stay reply xs)) others (subst (Clear reply true) (closed_main (stay reply) a x d own items rest o last others e) clear) in
      let order : elements false (back false kept) ++ elements true (back true kept) ≡ left (map (inside left) xs) = (residual_tidy K).in_order (through left false items) (through left false last) ∙ both_elements items last in
      let stays = stay reply (elements false (back false kept) ++ elements true (back true kept)) in
      subst (λ y. Clear reply true (closed (stay reply) y)) (sym (held_main a x d own items rest o last others e))
      (subst (Clear reply true) (sym (option_again left (stay reply) kept_on (residual_tidy K) (λ ys. refl) a (left_in true a x) d (left_in true d own) (back false kept) (through left true rest) (back true kept) (through left true others)))
      (clear_rebuilt reply a (left_in true a x) d (left_in true d own) (back false stays) (through left true rest) (back true stays) (through left true others) (record {
        at_first = all.0 true parts.at_first;
        at_own = all.2.1.0 true parts.at_own;
        at_items = subst (λ ys. Clear reply false (back false (stay reply ys))) (sym order) (stay_on false xs each parts.at_items);
        at_rest = forest_on true rest all.2.1.2.2 parts.at_rest;
        at_last = subst (λ ys. Clear reply false (back true (stay reply ys))) (sym order) (stay_on true xs each parts.at_last);
        at_others = forest_on true others all.2.2.2 parts.at_others;
      })))

  held_on : (c : Forest) → BothGoOn c
  held_on =
      by_shape BothGoOn (λ a x d own items rest o last others e. (main_list_on a x d own items rest o last others e, main_inside_on a x d own items rest o last others e)) apart_on

  -- One node.
  closed_node : (l : Label) (c : Forest) (held : Bool) → is_entered l ≡ true → is_closed l ≡ true → AllGoOn c → Clear reply held (tree l c end) → Clear reply held (tree l (left_in held l c) end)
  closed_node l c held e v all clear =
      let holds : holds_body held l ≡ true = rw v refl in
      let its_list : (y : Forest) → list_at held l y ≡ closed_list y = λ y. rw v refl in
      let judges : (f : List (Element ℕ) → List (Element ℕ)) (y : Forest) → judged f held l y ≡ closed f y = λ f y. rw v refl in
      let left_is : left_in held l c ≡ held_left c = rw (e, v) refl in
      let none = ap (list_faults reply false) (sym (its_list c)) ∙ list_clear reply held l c e clear in
      let inner = subst (λ y. Clear reply true y) (judges (stay reply) c) (subst (λ b. Clear reply b (judged (stay reply) held l c)) holds (inside_clear reply held l c e clear)) in
      subst (λ y. Clear reply held (tree l y end)) (sym left_is)
      (clear_node reply held l (held_left c) (ap (list_faults reply false) (its_list (held_left c)) ∙ (held_on c).0 none)
      (subst (λ b. Clear reply b (judged (stay reply) held l (held_left c))) (sym holds) (subst (λ y. Clear reply true y) (sym (judges (stay reply) (held_left c))) ((held_on c).1 all inner))))

  listed_node : (l : Label) (c : Forest) (held : Bool) → is_entered l ≡ true → is_closed l ≡ false → (is_list l && not (is_statements l && held)) ≡ true → is_compound l ≡ false → AllGoOn c → Clear reply held (tree l c end) → Clear reply held (tree l (left_in held l c) end)
  listed_node l c held e v t b all clear =
      let holds : holds_body held l ≡ false = rw (v, b) refl in
      let its_list : (y : Forest) → list_at held l y ≡ elements false y = λ y. rw (v, t) refl in
      let judges : (f : List (Element ℕ) → List (Element ℕ)) (y : Forest) → judged f held l y ≡ alone f y = λ f y. rw (v, t) refl in
      let now = alone left (through left false c) in
      let left_is : left_in held l c ≡ now = rw (e, v, t, b) refl in
      let none = ap (list_faults reply false) (sym (its_list c)) ∙ list_clear reply held l c e clear in
      let inner = subst (λ y. Clear reply false y) (judges (stay reply) c) (subst (λ b. Clear reply b (judged (stay reply) held l c)) holds (inside_clear reply held l c e clear)) in
      subst (λ y. Clear reply held (tree l y end)) (sym left_is)
      (clear_node reply held l now (ap (list_faults reply false) (its_list now ∙ alone_elements c) ∙ list_left_inside reply (elements false c) none)
      (subst (λ b. Clear reply b (judged (stay reply) held l now)) (sym holds) (subst (λ y. Clear reply false y) (sym (judges (stay reply) now)) (alone_on c all inner))))

  other_node : (l : Label) (c : Forest) (held : Bool) → is_entered l ≡ true → is_closed l ≡ false → (is_list l && not (is_statements l && held)) ≡ false → AllGoOn c → Clear reply held (tree l c end) → Clear reply held (tree l (left_in held l c) end)
  other_node l c held e v t all clear =
      let its_list : (y : Forest) → list_at held l y ≡ [] = λ y. rw (v, t) refl in
      let judges : (f : List (Element ℕ) → List (Element ℕ)) (y : Forest) → judged f held l y ≡ y = λ f y. rw (v, t) refl in
      let now = through left (holds_body held l) c in
      let left_is : left_in held l c ≡ now = ap (λ b. cond b (judged left held l now) c) e ∙ judges left now in
      subst (λ y. Clear reply held (tree l y end)) (sym left_is)
      (clear_node reply held l now (ap (list_faults reply false) (its_list now))
      (subst (λ y. Clear reply (holds_body held l) y) (sym (judges (stay reply) now))
      (forest_on (holds_body held l) c all (subst (λ y. Clear reply (holds_body held l) y) (judges (stay reply) c) (inside_clear reply held l c e clear)))))

  node_on : (l : Label) (c : Forest) (held : Bool) (w v t : Bool) → is_entered l ≡ w → is_closed l ≡ v → (is_list l && not (is_statements l && held)) ≡ t → AllGoOn c → Clear reply held (tree l c end) → Clear reply held (tree l (left_in held l c) end)
  node_on l c held false v t e k d all clear = clear_leaf reply held l (left_in held l c) e
  node_on l c held true true t e k d all clear = closed_node l c held e k all clear
  node_on l c held true false true e k d all clear = listed_node l c held e k d (not_compound l held d) all clear
  node_on l c held true false false e k d all clear = other_node l c held e k d all clear

  all_on : (t : Forest) → AllGoOn t
  all_on end = tt
  all_on (tree l c o) = (λ held. node_on l c held _ _ _ refl refl refl (all_on c), all_on c, all_on o)

pub left_faultless : LeavesNoFault
left_faultless reply u clear = forest_on reply false (forest_of_unit u) (all_on reply (forest_of_unit u)) clear
