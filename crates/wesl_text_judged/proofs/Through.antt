-- What answers leave of trees in which no fault stands, place by place.
use Rattle.std.proofs.Common.{◌≡◌, Bool, true, false, not, cond, ◌&&◌, ◌||◌, List, [], ◌∷◌, ◌++◌, map, filter, Option, Some, None, refl, sym as turned, ap, ap₂, ◌∙◌, subst, append-nil}
use mathlib.Core.Bool.{and-false}
use Rattle.std.specs.List.{flat_map}
use Rattle.wesl_tree_names.specs.Path.{Text}
use Rattle.wesl_tree_syntax.specs.Tree.{kind, at, end, tree, attributes, compound, statements, present, absent, imports, directive_list, declarations, members, parameters, clauses, statement_node, loop, continuing, assignment, declaration, increment, decrement, call_statement}
use Rattle.wesl_text_form.specs.Spelling.{Label, Forest, is_end, is_simple}
use Rattle.wesl_text_reading.proofs.Filled.{no_true}
use Rattle.wesl_cond_features.specs.declared.chain.Role.{Role}
use Rattle.wesl_cond_features.specs.Answers.{Answers}
use Rattle.wesl_cond_features.specs.Branch.{fate, kept_after, decided_after}
use Rattle.wesl_cond_features.specs.Features.{Replies, known}
use Rattle.wesl_cond_chains.specs.Chains.{is_node, is_branch, branch, chains, headed, later, live, residual_chain, residual_list, staying}
use Rattle.wesl_cond_chains.specs.Conditions.{recast, is_statements, is_list, attributes_in, is_void}
use Rattle.wesl_cond_chains.specs.Faults.{condition_faults, conditions, conditions_of, list_at, list_faults, opens, place_faults}
use Rattle.wesl_cond_chains.specs.FormulaFaults.{Fault}
use Rattle.wesl_cond_chains.specs.Lists.{Element, element, still, elements, goes_back, back, alone, closed, judged, through, is_closed, is_compound, is_option, option_of, is_entered, holds_body}
use Rattle.wesl_cond_chains.proofs.Bodies.{option_cases}
use Rattle.wesl_cond_chains.proofs.ChainTurns.{scan_is}
use Rattle.wesl_cond_chains.proofs.Clear.{Clear, stay, AllClear, clear_first, clear_others, list_clear, inside_clear, rebuilt_clear}
use Rattle.wesl_cond_chains.proofs.Faultless.{none_before, none_after}
use Rattle.wesl_cond_chains.proofs.Passing.{first_children, inside, inside_children, attributes_through, with_through, scan-inside, elements_through}
use Rattle.wesl_cond_chains.proofs.Walk.{enact, scan}
use Rattle.wesl_text_left.proofs.Begins.{IsClear}
use Rattle.wesl_text_judged.proofs.Relation.{body, is_body, is_part, IsLeft, ends, whole, entered, listed, bodied, shapeless, gone, stays}

-- ---- lists walked node by node

module _ (answers : Answers Text) where
  same_later : (xs : List (Element Text)) → map (later still answers) xs ≡ xs
  same_later [] = refl
  same_later (x ∷ xs) = ap (λ z. x ∷ z) (same_later xs)

  same_headed : (xs : List (Element Text)) → headed still answers xs ≡ xs
  same_headed [] = refl
  same_headed (x ∷ xs) = ap (λ z. x ∷ z) (same_later xs)

  same_chains : (cs : List (List (Element Text))) → flat_map (residual_chain still answers) cs ≡ flat_map (live element answers) cs
  same_chains [] = refl
  same_chains (c ∷ cs) = ap₂ (λ x y. x ++ y) (same_headed (live still answers c)) (same_chains cs)

  -- what stays, as it was
  stays_is : (xs : List (Element Text)) → staying element answers xs ≡ scan still answers false false xs
  stays_is xs = turned (scan_is still answers xs ∙ same_chains (chains still (filter (is_node still) xs)))

goes_to : (b : Bool) → goes_back b b ≡ true
goes_to true = refl
goes_to false = refl

module _ (reply : Replies Text) where
  abbrev K : Answers Text
  K = known reply

  abbrev left : List (Element Text) → List (Element Text)
  left = residual_list element K

  -- the children of a node, as they are left
  abbrev pub within : Label → Forest → Forest
  within l c = inside_children left l c

  -- what is left of a node and of those behind it, in its place
  abbrev Is : Label → Forest → Type 0
  Is l c = (o p : Forest) → Clear reply false (tree l c end) → IsLeft reply false o p → IsLeft reply false (tree l c o) (tree l (within l c) p)

  abbrev pub AllAre : Forest → Type 0
  AllAre end = Unit {0}
  AllAre (tree l c o) = Is l c × AllAre c × AllAre o

  trees_left : (f : Forest) → AllAre f → Clear reply false f → IsLeft reply false f (through left false f)
  trees_left end all clear = ends
  trees_left (tree l c o) all clear = all.0 o (through left false o) (clear_first reply false l c o clear) (trees_left o all.2 (clear_others reply false l c o clear))

  role_inside : (role : Role) (x : Element Text) → element.in_role K role (inside left x) ≡ inside left (element.in_role K role x)
  role_inside role x = ap (λ t. record { closes = x.closes; label = x.label; children = first_children t }) (with_through left (recast K role) false (tree x.label x.children end))

  -- a list as it is left, and as it was of what stays
  abbrev walked : Bool → Bool → List (Element Text) → List (Element Text)
  walked k d xs = map (inside left) (scan element K k d xs)

  abbrev kept : Bool → Bool → List (Element Text) → List (Element Text)
  kept k d xs = scan still K k d xs

  -- nodes before others, none of which goes back to their place
  module _ (b : Bool) (ys : List (Element Text)) (none : (k d : Bool) → back b (walked k d ys) ≡ end) where
    abbrev Left : Forest → Type 0
    Left f = (k d opened : Bool) → AllAre f → list_faults reply opened (elements b f ++ ys) ≡ [] → Clear reply false (back b (kept k d (elements b f ++ ys))) → IsLeft reply true f (back b (walked k d (elements b f ++ ys)))

    nodes_left : (f : Forest) → Left f
    nodes_left end k d opened all e clear = subst (IsLeft reply true end) (turned (none k d)) ends
    nodes_left (tree l c o) k d opened all e clear = by (is_void l c) (λ k d opened q h. nodes_left o k d opened all.2 q h) e clear where
      node : Element Text
      node = record { closes = b; label = l; children = c }

      k1 : Bool
      k1 = is_branch element node && k

      d1 : Bool
      d1 = is_branch element node && d

      k2 : Bool
      k2 = kept_after k1 d1 (branch element K node)

      d2 : Bool
      d2 = decided_after d1 (branch element K node)

      rest : List (Element Text)
      rest = elements b o ++ ys

      near : List (Fault Text)
      near = flat_map (condition_faults reply) (conditions_of node)

      others : List (Fault Text)
      others = list_faults reply (opens (conditions_of node)) rest

      place : List (Fault Text)
      place = place_faults opened (conditions_of node)

      More : Type 0
      More = (k d opened : Bool) → list_faults reply opened rest ≡ [] → Clear reply false (back b (kept k d rest)) → IsLeft reply true o (back b (walked k d rest))

      one : (r : Option Role) → More → near ≡ [] → others ≡ [] → Clear reply false (back b (enact still K r node (kept k2 d2 rest))) → IsLeft reply true (tree l c o) (back b (map (inside left) (enact element K r node (scan element K k2 d2 rest))))
      one None more q u h = gone l c (more k2 d2 (opens (conditions_of node)) u h)
      one (Some role) more q u h =
          let goes : cond (goes_back b b) (tree l c (back b (kept k2 d2 rest))) (back b (kept k2 d2 rest)) ≡ tree l c (back b (kept k2 d2 rest)) = ap (λ z. cond z (tree l c (back b (kept k2 d2 rest))) (back b (kept k2 d2 rest))) (goes_to b) in
          let h2 : Clear reply false (tree l c (back b (kept k2 d2 rest))) = subst (Clear reply false) goes h in
          let y : Element Text = inside left (element.in_role K role node) in
          let same : element.in_role K role (inside left node) ≡ y = role_inside role node in
          let clear : IsClear reply role (attributes_in (tree l (within l c) end)) = ap (λ z. flat_map (condition_faults reply) (conditions z)) (attributes_through left false (tree l c end)) ∙ q in
          subst (IsLeft reply true (tree l c o)) (turned (ap (λ z. cond z (tree l y.children (back b (walked k2 d2 rest))) (back b (walked k2 d2 rest))) (goes_to b)))
          (subst (λ z. IsLeft reply true (tree l c o) (tree l z.children (back b (walked k2 d2 rest)))) same
          (stays l role (all.0 end end (clear_first reply false l c (back b (kept k2 d2 rest)) h2) ends) clear
          (more k2 d2 (opens (conditions_of node)) u (clear_others reply false l c (back b (kept k2 d2 rest)) h2))))

      by : (z : Bool) → More → cond z (list_faults reply opened rest) (place ++ near ++ others) ≡ [] → Clear reply false (back b (cond z (kept k d rest) (enact still K (fate k1 d1 (branch element K node)) node (kept k2 d2 rest))))
          → IsLeft reply true (tree l c o) (back b (map (inside left) (cond z (scan element K k d rest) (enact element K (fate k1 d1 (branch element K node)) node (scan element K k2 d2 rest)))))
      by true more q h = gone l c (more k d opened q h)
      by false more q h = one (fate k1 d1 (branch element K node)) more (none_after place near (none_before (place ++ near) others q)) (none_after (place ++ near) others q) h

  -- what closes a list goes back to its own place
  passed : (v : Bool) (r : Option Role) (l : Label) (c : Forest) (xs ys : List (Element Text)) → back false (map (inside left) xs) ≡ end → back false (map (inside left) ys) ≡ end
      → back false (map (inside left) (cond v xs (enact element K r (record { closes = true; label = l; children = c }) ys))) ≡ end
  passed true r l c xs ys e g = e
  passed false None l c xs ys e g = g
  passed false (Some role) l c xs ys e g = g

  closing_apart : (f : Forest) (k d : Bool) → back false (walked k d (elements true f)) ≡ end
  closing_apart end k d = refl
  closing_apart (tree l c o) k d =
      let x : Element Text = record { closes = true; label = l; children = c } in
      let k1 : Bool = is_branch element x && k in
      let d1 : Bool = is_branch element x && d in
      let k2 : Bool = kept_after k1 d1 (branch element K x) in
      let d2 : Bool = decided_after d1 (branch element K x) in
      passed (is_void l c) (fate k1 d1 (branch element K x)) l c (scan element K k d (elements true o)) (scan element K k2 d2 (elements true o)) (closing_apart o k d) (closing_apart o k2 d2)

  -- behind the nodes of a list comes what closes it
  closing_left : (e f : Forest) (k d opened : Bool) → AllAre e → list_faults reply opened (elements false f ++ elements true e) ≡ [] → Clear reply false (back true (kept k d (elements false f ++ elements true e)))
      → IsLeft reply true e (back true (walked k d (elements false f ++ elements true e)))
  closing_left e end k d opened all q h =
      subst (λ z. IsLeft reply true e (back true (walked k d z))) (append-nil (elements true e))
      (nodes_left true [] (λ k d. refl) e k d opened all (ap (list_faults reply opened) (append-nil (elements true e)) ∙ q) (subst (λ z. Clear reply false (back true (kept k d z))) (turned (append-nil (elements true e))) h))
  closing_left e (tree l c o) k d opened all q h = by (is_void l c) q h (λ k d opened q h. closing_left e o k d opened all q h) where
    node : Element Text
    node = record { closes = false; label = l; children = c }

    k1 : Bool
    k1 = is_branch element node && k

    d1 : Bool
    d1 = is_branch element node && d

    k2 : Bool
    k2 = kept_after k1 d1 (branch element K node)

    d2 : Bool
    d2 = decided_after d1 (branch element K node)

    rest : List (Element Text)
    rest = elements false o ++ elements true e

    all_faults : List (Fault Text)
    all_faults = place_faults opened (conditions_of node) ++ flat_map (condition_faults reply) (conditions_of node)

    others : List (Fault Text)
    others = list_faults reply (opens (conditions_of node)) rest

    one : (r : Option Role) → Clear reply false (back true (enact still K r node (kept k2 d2 rest))) → (Clear reply false (back true (kept k2 d2 rest)) → IsLeft reply true e (back true (walked k2 d2 rest)))
        → IsLeft reply true e (back true (map (inside left) (enact element K r node (scan element K k2 d2 rest))))
    one None h f = f h
    one (Some role) h f = f h

    by : (z : Bool) → cond z (list_faults reply opened rest) (place_faults opened (conditions_of node) ++ flat_map (condition_faults reply) (conditions_of node) ++ others) ≡ []
        → Clear reply false (back true (cond z (kept k d rest) (enact still K (fate k1 d1 (branch element K node)) node (kept k2 d2 rest))))
        → ((k d opened : Bool) → list_faults reply opened rest ≡ [] → Clear reply false (back true (kept k d rest)) → IsLeft reply true e (back true (walked k d rest)))
        → IsLeft reply true e (back true (map (inside left) (cond z (scan element K k d rest) (enact element K (fate k1 d1 (branch element K node)) node (scan element K k2 d2 rest)))))
    by true q h f = f k d opened q h
    by false q h f = one (fate k1 d1 (branch element K node)) h (f k2 d2 (opens (conditions_of node)) (none_after all_faults others q))

  -- ---- a list by itself, and one with what closes it

  list_is : (xs : List (Element Text)) → left (map (inside left) xs) ≡ walked false false xs
  list_is xs = turned (scan_is element K (map (inside left) xs)) ∙ scan-inside left K false false xs

  alone_left : (c : Forest) → AllAre c → list_faults reply false (elements false c) ≡ [] → Clear reply false (alone (stay reply) c) → IsLeft reply true c (alone left (through left false c))
  alone_left c all e h =
      let is : alone left (through left false c) ≡ back false (walked false false (elements false c)) = ap (λ z. back false (left z)) (elements_through left false c) ∙ ap (back false) (list_is (elements false c)) in
      let nil : elements false c ++ [] ≡ elements false c = append-nil (elements false c) in
      subst (IsLeft reply true c) (turned is)
      (subst (λ z. IsLeft reply true c (back false (walked false false z))) nil
      (nodes_left false [] (λ k d. refl) c false false false all (ap (list_faults reply false) nil ∙ e)
      (subst (λ z. Clear reply false (back false (kept false false z))) (turned nil) (subst (λ z. Clear reply false (back false z)) (stays_is K (elements false c)) h))))

  abbrev both : Forest → Forest → List (Element Text)
  both items last = elements false items ++ elements true last

  abbrev both_left : Forest → Forest → List (Element Text)
  both_left items last = left (elements false (through left false items) ++ elements true (through left false last))

  joined_inside : (xs ys : List (Element Text)) → map (inside left) xs ++ map (inside left) ys ≡ map (inside left) (xs ++ ys)
  joined_inside [] ys = refl
  joined_inside (x ∷ xs) ys = ap (λ z. inside left x ∷ z) (joined_inside xs ys)

  both_is : (items last : Forest) → both_left items last ≡ walked false false (both items last)
  both_is items last = ap left (ap₂ (λ x y. x ++ y) (elements_through left false items) (elements_through left true last) ∙ joined_inside (elements false items) (elements true last)) ∙ list_is (both items last)

  -- ---- one node

  -- what a body is left as, and what the faults in it and its nodes that stay are
  abbrev BodyIs : Label → Forest → Forest → Forest → Forest → Label → Type 0
  BodyIs l x near items last m =
      within l (body x near items (tree m last end)) ≡ body x near (back false (both_left items last)) (option_of (back true (both_left items last)) end)

  abbrev BodyStays : Label → Forest → Forest → Forest → Forest → Label → Type 0
  BodyStays l x near items last m =
      Clear reply false (tree l (body x near items (tree m last end)) end)
      → (list_faults reply false (both items last) ≡ []) × Clear reply true (body x near (back false (stay reply (both items last))) (option_of (back true (stay reply (both items last))) end))

  body_is : (l : Label) → is_closed l ≡ true → (x near items last : Forest) (m : Label) → is_option m ≡ true → BodyIs l x near items last m
  body_is (kind loop) e x near items last m i = option_cases (BodyIs (kind loop) x near items last) refl refl m i
  body_is (kind continuing) e x near items last m i = option_cases (BodyIs (kind continuing) x near items last) refl refl m i
  body_is l e x near items last m i = absurd (no_true e)

  body_told : (l m : Label) (x near items last : Forest) → is_entered l ≡ true → Clear reply false (tree l (body x near items (tree m last end)) end)
      → (list_faults reply false (list_at false l (body x near items (tree m last end))) ≡ []) × Clear reply (holds_body false l) (judged (stay reply) false l (body x near items (tree m last end)))
  body_told l m x near items last e h = (list_clear reply false l (body x near items (tree m last end)) e h, inside_clear reply false l (body x near items (tree m last end)) e h)

  body_stays : (l : Label) → is_closed l ≡ true → (x near items last : Forest) (m : Label) → is_option m ≡ true → BodyStays l x near items last m
  body_stays (kind loop) e x near items last m i =
      option_cases (BodyStays (kind loop) x near items last) (λ h. body_told (kind loop) (kind present) x near items last refl h) (λ h. body_told (kind loop) (kind absent) x near items last refl h) m i
  body_stays (kind continuing) e x near items last m i =
      option_cases (BodyStays (kind continuing) x near items last) (λ h. body_told (kind continuing) (kind present) x near items last refl h) (λ h. body_told (kind continuing) (kind absent) x near items last refl h) m i
  body_stays l e x near items last m i = absurd (no_true e)

  body_left : (l : Label) → is_closed l ≡ true → (x near items last : Forest) (m : Label) → is_option m ≡ true → AllAre (body x near items (tree m last end)) → (o p : Forest)
      → Clear reply false (tree l (body x near items (tree m last end)) end) → IsLeft reply false o p
      → IsLeft reply false (tree l (body x near items (tree m last end)) o) (tree l (within l (body x near items (tree m last end))) p)
  body_left l e x near items last m i all o p h y =
      let s : (list_faults reply false (both items last) ≡ []) × Clear reply true (body x near (back false (stay reply (both items last))) (option_of (back true (stay reply (both items last))) end)) = body_stays l e x near items last m i h in
      let a : AllClear reply (kind attributes) x (kind attributes) near (back false (stay reply (both items last))) end (back true (stay reply (both items last))) end
      = rebuilt_clear reply (kind attributes) x (kind attributes) near (back false (stay reply (both items last))) end (back true (stay reply (both items last))) end s.1 in
      let first : IsLeft reply true items (back false (walked false false (both items last))) = nodes_left false (elements true last) (closing_apart last) items false false false all.2.1.2.1 s.0 (subst (λ z. Clear reply false (back false z)) (stays_is K (both items last)) a.at_items) in
      let second : IsLeft reply true last (back true (walked false false (both items last))) = closing_left last items false false false all.2.2.1 s.0 (subst (λ z. Clear reply false (back true z)) (stays_is K (both items last)) a.at_last) in
      subst (λ z. IsLeft reply false (tree l (body x near items (tree m last end)) o) (tree l z p)) (turned (body_is l e x near items last m i ∙ ap (λ z. body x near (back false z) (option_of (back true z) end)) (both_is items last)))
      (bodied l m x near e i first second y)

  -- a body, or none
  bodies : (l : Label) → is_closed l ≡ true → (c : Forest) → is_body c ≡ true → AllAre c → Is l c
  bodies l e (tree (kind attributes) x (tree (kind compound) (tree (kind attributes) near (tree (kind statements) items end)) (tree m last end))) i all o p h y = body_left l e x near items last m i all o p h y
  bodies l e c i all o p h y = absurd (no_true i)

  closed_ends : (c : Forest) → is_end c ≡ true → is_end (closed left (through left true c)) ≡ true
  closed_ends end e = refl
  closed_ends (tree l c o) e = absurd (no_true e)

  within_ends : (l : Label) → is_closed l ≡ true → (c : Forest) → is_end c ≡ true → is_end (within l c) ≡ true
  within_ends (kind loop) e c i = closed_ends c i
  within_ends (kind continuing) e c i = closed_ends c i
  within_ends l e c i = absurd (no_true e)

  closed_node : (l : Label) (c : Forest) → is_closed l ≡ true → AllAre c → Is l c
  closed_node l c e all o p h y = by (is_body c) refl where
    by : (z : Bool) → is_body c ≡ z → IsLeft reply false (tree l c o) (tree l (within l c) p)
    by true i = bodies l e c i all o p h y
    by false i = shapeless l e i (within_ends l e c) y

  -- a part of a `for` stays as it is
  simple_plain : (m : Label) → is_simple (Some m) ≡ true → is_entered m ≡ false
  simple_plain (assignment a) h = refl
  simple_plain (kind declaration) h = refl
  simple_plain (kind increment) h = refl
  simple_plain (kind decrement) h = refl
  simple_plain (kind call_statement) h = refl
  simple_plain l h = absurd (no_true h)

  part_is : (l : Label) (c : Forest) → is_part l c ≡ true → within l c ≡ c
  part_is (kind present) (tree (at statement_node a b) (tree m y end) end) h =
      ap (λ z. tree (at statement_node a b) (tree m (cond z (judged left false m (through left (holds_body false m) y)) y) end) end) (simple_plain m h)
  part_is l c h = absurd (no_true h)

  -- a list
  list_node : (l : Label) (c : Forest) → is_list l ≡ true → AllAre c → Clear reply false (tree l c end) → IsLeft reply true c (within l c)
  list_node (kind imports) c i all h = alone_left c all (list_clear reply false (kind imports) c refl h) (inside_clear reply false (kind imports) c refl h)
  list_node (kind directive_list) c i all h = alone_left c all (list_clear reply false (kind directive_list) c refl h) (inside_clear reply false (kind directive_list) c refl h)
  list_node (kind declarations) c i all h = alone_left c all (list_clear reply false (kind declarations) c refl h) (inside_clear reply false (kind declarations) c refl h)
  list_node (kind members) c i all h = alone_left c all (list_clear reply false (kind members) c refl h) (inside_clear reply false (kind members) c refl h)
  list_node (kind parameters) c i all h = alone_left c all (list_clear reply false (kind parameters) c refl h) (inside_clear reply false (kind parameters) c refl h)
  list_node (kind statements) c i all h = alone_left c all (list_clear reply false (kind statements) c refl h) (inside_clear reply false (kind statements) c refl h)
  list_node (kind clauses) c i all h = alone_left c all (list_clear reply false (kind clauses) c refl h) (inside_clear reply false (kind clauses) c refl h)
  list_node l c i all h = absurd (no_true i)

  -- any other node in which lists may lie
  held_plain : (l : Label) → is_closed l ≡ false → holds_body false l ≡ false
  held_plain l n = ap (λ z. z || (is_compound l && false)) n ∙ and-false (is_compound l)

  judged_plain : (f : List (Element Text) → List (Element Text)) (l : Label) (c : Forest) → is_closed l ≡ false → is_list l ≡ false → judged f false l c ≡ c
  judged_plain f l c n i = ap₂ (λ x y. cond x (closed f c) (cond (y && not (is_statements l && false)) (alone f c) c)) n i

  plain_node : (l : Label) (c : Forest) → is_entered l ≡ true → is_list l ≡ false → is_closed l ≡ false → AllAre c → Is l c
  plain_node l c e i n all o p h y = by (is_part l c) refl where
    is : within l c ≡ through left false c
    is = ap (λ z. cond z (judged left false l (through left (holds_body false l) c)) c) e ∙ (judged_plain left l (through left (holds_body false l) c) n i ∙ ap (λ z. through left z c) (held_plain l n))

    below : Clear reply false c
    below = subst (λ z. Clear reply z c) (held_plain l n) (subst (Clear reply (holds_body false l)) (judged_plain (stay reply) l c n i) (inside_clear reply false l c e h))

    by : (z : Bool) → is_part l c ≡ z → IsLeft reply false (tree l c o) (tree l (within l c) p)
    by true q = subst (λ z. IsLeft reply false (tree l c o) (tree l z p)) (turned (part_is l c q)) (whole l c y)
    by false q = subst (λ z. IsLeft reply false (tree l c o) (tree l z p)) (turned is) (entered l e (ap₂ (λ a b. a || b) i n) q (trees_left c all below) y)

  node_is : (l : Label) (c : Forest) → AllAre c → Is l c
  node_is l c all o p h y = by (is_entered l) refl (is_list l) refl (is_closed l) refl where
    by : (e : Bool) → is_entered l ≡ e → (i : Bool) → is_list l ≡ i → (n : Bool) → is_closed l ≡ n → IsLeft reply false (tree l c o) (tree l (within l c) p)
    by false e i j n k = subst (λ z. IsLeft reply false (tree l c o) (tree l (cond z (judged left false l (through left (holds_body false l) c)) c) p)) (turned e) (whole l c y)
    by true e true j n k = listed l j (list_node l c j all h) y
    by true e false j true k = closed_node l c k all o p h y
    by true e false j false k = plain_node l c e j k all o p h y

  pub all_are : (f : Forest) → AllAre f
  all_are end = tt
  all_are (tree l c o) = (node_is l c (all_are c), all_are c, all_are o)

  -- what is left of the nodes of a list
  pub list_left : (l : Label) (c : Forest) → is_list l ≡ true → Clear reply false (tree l c end) → IsLeft reply true c (within l c)
  list_left l c i h = list_node l c i (all_are c) h
