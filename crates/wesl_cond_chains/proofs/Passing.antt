-- Passing through the judged lists of a forest twice.
use Rattle.std.proofs.Common.{◌≡◌, List, [], ◌∷◌, ◌++◌, map, Bool, true, false, not, cond, ◌&&◌, Option, Some, None, refl, sym, ap, ◌∙◌}
use Rattle.std.proofs.lemmas.List.{map-append}
use Rattle.wesl_cond_features.specs.declared.chain.Role.{Role}
use Rattle.wesl_cond_features.specs.Answers.{Answers}
use Rattle.wesl_cond_chains.specs.Chains.{Judged, is_branch, branch}
use Rattle.wesl_cond_features.specs.Branch.{fate, kept_after, decided_after}
use Rattle.wesl_cond_chains.proofs.Bodies.{pair_cases}
use Rattle.wesl_cond_chains.proofs.Walk.{enact, scan}
use Rattle.wesl_cond_chains.specs.Conditions.{first_condition, recast, is_statements, is_list, attributes_in, with_attributes, is_void}
use Rattle.wesl_tree_syntax.specs.Nodes.{is_attributes}
use Rattle.wesl_tree_syntax.specs.Unit.{begins_void}
use Rattle.wesl_cond_chains.specs.Lists.{Element, element, elements, goes_back, back, is_closed, is_compound, is_option, option_of, alone, closed_body, closed, judged, is_entered, holds_body, through}
use Rattle.wesl_tree_syntax.specs.Tree.{LabelOf, ForestOf, end, tree, kind, at, attributes, void, compound, present, absent, statements}

-- Nodes changed where no condition looks.
module _ {I N : Type 0} (J : Judged I N) (i : N → N) (v : (n : N) → J.is_void (i n) ≡ J.is_void n) (c : (n : N) → J.condition_of (i n) ≡ J.condition_of n)
    (r : (F : Answers I) (role : Role) (n : N) → J.in_role F role (i n) ≡ i (J.in_role F role n)) where
  enact-map : (F : Answers I) (o : Option Role) (n : N) (rest : List N) → enact J F o (i n) (map i rest) ≡ map i (enact J F o n rest)
  enact-map F None n rest = refl
  enact-map F (Some role) n rest = ap (λ m. m ∷ map i rest) (r F role n)

  cond-map : (b : Bool) (xs ys xs' ys' : List N) → xs ≡ map i xs' → ys ≡ map i ys' → cond b xs ys ≡ map i (cond b xs' ys')
  cond-map true xs ys xs' ys' e d = e
  cond-map false xs ys xs' ys' e d = d

  pub scan-map : (F : Answers I) (k d : Bool) (ns : List N) → scan J F k d (map i ns) ≡ map i (scan J F k d ns)
  scan-map F k d [] = refl
  scan-map F k d (n ∷ ns) =
      let k' = is_branch J n && k in
      let d' = is_branch J n && d in
      let b = branch J F n in
      rw (v n, c n) (cond-map (J.is_void n) _ _ _ _ (scan-map F k d ns)
      (ap (enact J F (fate k' d' b) (i n)) (scan-map F (kept_after k' d' b) (decided_after d' b) ns)
      ∙ enact-map F (fate k' d' b) n (scan J F (kept_after k' d' b) (decided_after d' b) ns)))

module _ {I : Type 0} where
  abbrev pub first_children : ForestOf I → ForestOf I
  first_children end = end
  first_children (tree l c o) = c

  pub not_entered : (l : LabelOf I) → is_attributes l ≡ true → is_entered l ≡ false
  not_entered (kind attributes) e = refl
  not_entered l e = cc

  -- What stands inside a node.
  abbrev pub inside_children : (List (Element I) → List (Element I)) → LabelOf I → ForestOf I → ForestOf I
  inside_children g l c = cond (is_entered l) (judged g false l (through g (holds_body false l) c)) c

  abbrev pub inside : (List (Element I) → List (Element I)) → Element I → Element I
  inside g x = record { closes = x.closes; label = x.label; children = inside_children g x.label x.children }

  module _ (g : List (Element I) → List (Element I)) where
    closed_attributes : (t : ForestOf I) → attributes_in (closed g t) ≡ attributes_in t
    closed_attributes end = refl
    closed_attributes (tree a x end) = refl
    closed_attributes (tree a x (tree b body end)) = refl
    closed_attributes (tree a x (tree b body (tree o last others))) = refl

    maybe_attributes : (b : Bool) (t : ForestOf I) → attributes_in (cond b (closed g t) t) ≡ attributes_in t
    maybe_attributes true t = closed_attributes t
    maybe_attributes false t = refl

    attributes_at : (held : Bool) (l : LabelOf I) (c o : ForestOf I) (w a b : Bool) → is_entered l ≡ w → is_attributes l ≡ a → is_list l ≡ b
        → attributes_in (through g (holds_body held l) c) ≡ attributes_in c
        → attributes_in (through g held (tree l c o)) ≡ attributes_in (tree l c o)
    attributes_at held l c o false a b v e d ih = rw v refl
    attributes_at held l c o true true b v e d ih = let k = not_entered l e in cc
    attributes_at held l c o true false true v e d ih = rw (v, e, d) refl
    attributes_at held l c o true false false v e d ih = rw (v, e, d) (maybe_attributes (is_closed l) (through g (holds_body held l) c) ∙ ih)

    pub attributes_through : (held : Bool) (f : ForestOf I) → attributes_in (through g held f) ≡ attributes_in f
    attributes_through held end = refl
    attributes_through held (tree l c o) = attributes_at held l c o (is_entered l) (is_attributes l) (is_list l) refl refl refl (attributes_through (holds_body held l) c)

    pub closed_with : (change : ForestOf I → ForestOf I) (t : ForestOf I) → with_attributes change (closed g t) ≡ closed g (with_attributes change t)
    closed_with change end = refl
    closed_with change (tree a x end) = refl
    closed_with change (tree a x (tree b body end)) = refl
    closed_with change (tree a x (tree b body (tree o last others))) = refl

    maybe_with : (change : ForestOf I → ForestOf I) (b : Bool) (t : ForestOf I) → with_attributes change (cond b (closed g t) t) ≡ cond b (closed g (with_attributes change t)) (with_attributes change t)
    maybe_with change true t = closed_with change t
    maybe_with change false t = refl

    with_at : (change : ForestOf I → ForestOf I) (held : Bool) (l : LabelOf I) (c o : ForestOf I) (w a b : Bool) → is_entered l ≡ w → is_attributes l ≡ a → is_list l ≡ b
        → with_attributes change (through g (holds_body held l) c) ≡ through g (holds_body held l) (with_attributes change c)
        → with_attributes change (through g held (tree l c o)) ≡ through g held (with_attributes change (tree l c o))
    with_at change held l c o false a b v e d ih = rw v refl
    with_at change held l c o true true b v e d ih = let k = not_entered l e in cc
    with_at change held l c o true false true v e d ih = rw (v, e, d) refl
    with_at change held l c o true false false v e d ih = rw (v, e, d) (ap (λ x. tree l x (through g held o))
        (maybe_with change (is_closed l) (through g (holds_body held l) c) ∙ ap (λ x. cond (is_closed l) (closed g x) x) ih))

    pub with_through : (change : ForestOf I → ForestOf I) (held : Bool) (f : ForestOf I) → with_attributes change (through g held f) ≡ through g held (with_attributes change f)
    with_through change held end = refl
    with_through change held (tree l c o) = with_at change held l c o (is_entered l) (is_attributes l) (is_list l) refl refl refl (with_through change (holds_body held l) c)

    same_begin : (l : LabelOf I) (c c' o o' : ForestOf I) → begins_void (tree l c o) ≡ begins_void (tree l c' o')
    same_begin (kind void) c c' o o' = refl
    same_begin l c c' o o' = refl

    begins_through : (held : Bool) (c : ForestOf I) → begins_void (through g held c) ≡ begins_void c
    begins_through held end = refl
    begins_through held (tree l c o) = same_begin l _ c _ o

    begins_either : (b : Bool) (c : ForestOf I) → begins_void (cond b (through g false c) c) ≡ begins_void c
    begins_either true c = begins_through false c
    begins_either false c = refl

    pub void_inside : (l : LabelOf I) (c : ForestOf I) → is_void l (inside_children g l c) ≡ is_void l c
    void_inside (at k s e) c = begins_either (is_entered {I = I} (at k s e)) c
    void_inside l c = refl

    role_inside : (F : Answers I) (role : Role) (x : Element I) → element.in_role F role (inside g x) ≡ inside g (element.in_role F role x)
    role_inside F role x = ap (λ t. record { closes = x.closes; label = x.label; children = first_children t }) (with_through (recast F role) false (tree x.label x.children end))

    pub scan-inside : (F : Answers I) (k d : Bool) (xs : List (Element I)) → scan element F k d (map (inside g) xs) ≡ map (inside g) (scan element F k d xs)
    scan-inside F k d xs = scan-map element (inside g) (λ x. void_inside x.label x.children) (λ x. ap first_condition (attributes_through false (tree x.label x.children end))) role_inside F k d xs

    -- Lists and what goes back.
    pub elements_through : (b : Bool) (c : ForestOf I) → elements b (through g false c) ≡ map (inside g) (elements b c)
    elements_through b end = refl
    elements_through b (tree l c o) = ap (λ xs. inside g (record { closes = b; label = l; children = c }) ∷ xs) (elements_through b o)

    back_at : (v : Bool) (l : LabelOf I) (c rest rest' : ForestOf I) → through g false rest ≡ rest' → through g false (cond v (tree l c rest) rest) ≡ cond v (tree l (inside_children g l c) rest') rest'
    back_at true l c rest rest' e = ap (λ r. tree l (inside_children g l c) r) e
    back_at false l c rest rest' e = e

    pub back_through : (b : Bool) (xs : List (Element I)) → through g false (back b xs) ≡ back b (map (inside g) xs)
    back_through b [] = refl
    back_through b (x ∷ xs) = back_at (goes_back b x.closes) x.label x.children (back b xs) (back b (map (inside g) xs)) (back_through b xs)

    option_through : (w others : ForestOf I) → through g true (option_of w others) ≡ option_of (through g false w) (through g true others)
    option_through end others = refl
    option_through (tree l c o) others = refl

  -- Elements in order: those of the list, then what closes it.
  abbrev pub InOrder : List (Element I) → Type 0
  InOrder xs = elements false (back false xs) ++ elements true (back true xs) ≡ xs

  abbrev pub AllOpen : List (Element I) → Type 0
  AllOpen xs = elements false (back false xs) ≡ xs

  abbrev pub AllClosing : List (Element I) → Type 0
  AllClosing xs = (elements true (back true xs) ≡ xs) × (back false xs ≡ end)

-- how a list is judged: without regard to what stands inside its nodes, each going back to its place
pub record Tidy {I : Type 0} (f : List (Element I) → List (Element I)) : Type 0 where
  pub natural : (g : List (Element I) → List (Element I)) (xs : List (Element I)) → f (map (inside g) xs) ≡ map (inside g) (f xs)
  pub in_order : (c d : ForestOf I) → InOrder (f (elements false c ++ elements true d))
  pub all_open : (c : ForestOf I) → AllOpen (f (elements false c))

module _ {I : Type 0} where
  module _ (f g h : List (Element I) → List (Element I)) (tidy : Tidy f) (again : (xs : List (Element I)) → g (f xs) ≡ h xs) where
    -- judging a list, and passing through its nodes
    alone_passed : (c : ForestOf I) → through g false (alone f c) ≡ alone f (through g false c)
    alone_passed c =
        back_through g false (f (elements false c))
        ∙ ap (back false) (sym (tidy.natural g (elements false c)) ∙ ap f (sym (elements_through g false c)))

    kept_passed : (c d : ForestOf I) → f (elements false (through g false c) ++ elements true (through g false d)) ≡ map (inside g) (f (elements false c ++ elements true d))
    kept_passed c d =
        ap f (ap (λ xs. xs ++ elements true (through g false d)) (elements_through g false c)
        ∙ ap (λ xs. map (inside g) (elements false c) ++ xs) (elements_through g true d)
        ∙ sym (map-append (inside g) (elements false c) (elements true d)))
        ∙ tidy.natural g (elements false c ++ elements true d)

    abbrev rebuilt : LabelOf I → ForestOf I → ForestOf I → ForestOf I → ForestOf I → ForestOf I → ForestOf I
    rebuilt d cd list rest last others = tree (kind compound) (tree d cd (tree (kind statements) list rest)) (option_of last others)

    statements_passed : (d : LabelOf I) (cd cd' list rest rest' last others others' : ForestOf I) → through g true (tree d cd (tree (kind statements) (back false (f (elements false list ++ elements true last))) rest)) ≡ tree d cd' (tree (kind statements) (through g false (back false (f (elements false list ++ elements true last)))) rest') → through g true others ≡ others'
        → through g true (rebuilt d cd (back false (f (elements false list ++ elements true last))) rest (back true (f (elements false list ++ elements true last))) others)
        ≡ rebuilt d cd' (back false (f (elements false (through g false list) ++ elements true (through g false last)))) rest' (back true (f (elements false (through g false list) ++ elements true (through g false last)))) others'
    statements_passed d cd cd' list rest rest' last others others' e k =
        let kept = f (elements false list ++ elements true last) in
        let kept' = f (elements false (through g false list) ++ elements true (through g false last)) in
        let is : (b : Bool) → through g false (back b kept) ≡ back b kept' = λ b. back_through g b kept ∙ ap (back b) (sym (kept_passed list last)) in
        ap (λ x. tree (kind compound) x (through g true (option_of (back true kept) others))) e
        ∙ ap (λ x. tree (kind compound) (tree d cd' (tree (kind statements) (through g false (back false kept)) rest')) x) (option_through g (back true kept) others)
        ∙ ap (λ x. rebuilt d cd' x rest' (through g false (back true kept)) (through g true others)) (is false)
        ∙ ap (λ x. rebuilt d cd' (back false kept') rest' x (through g true others)) (is true)
        ∙ ap (λ x. rebuilt d cd' (back false kept') rest' (back true kept') x) k

    body_passed : (body : ForestOf I) (o : LabelOf I) (last last' others : ForestOf I) → is_option o ≡ true → last' ≡ through g false last
        → through g true (tree o last others) ≡ tree o last' (through g true others)
        → through g true (closed_body f (kind compound) body o last others) ≡ closed_body f (kind compound) (through g true body) o last' (through g true others)
    body_passed end o last last' others e d k = ap (λ x. tree (kind compound) end x) k
    body_passed (tree a x end) o last last' others e d k = ap (λ y. tree (kind compound) (through g true (tree a x end)) y) k
    body_passed (tree a x (tree (kind statements) list rest)) o last last' others e d k = rw d (statements_passed a x (cond (is_entered a) (judged g true a (through g (holds_body true a) x)) x) list rest (through g true rest) last others (through g true others) refl refl)
    body_passed (tree a x (tree s list rest)) o last last' others e d k = ap (λ y. tree (kind compound) (through g true (tree a x (tree s list rest))) y) k

    pair_passed : (b : LabelOf I) (body : ForestOf I) (o : LabelOf I) (last others : ForestOf I)
        → through g true (cond (is_compound b && is_option o) (closed_body f b body o last others) (tree b body (tree o last others)))
        ≡ cond (is_compound b && is_option o) (closed_body f b (cond (is_entered b) (judged g true b (through g (holds_body true b) body)) body) o (cond (is_entered o) (judged g true o (through g (holds_body true o) last)) last) (through g true others)) (through g true (tree b body (tree o last others)))
    pair_passed b body o last others =
        pair_cases (λ b o. through g true (cond (is_compound b && is_option o) (closed_body f b body o last others) (tree b body (tree o last others)))
        ≡ cond (is_compound b && is_option o) (closed_body f b (cond (is_entered b) (judged g true b (through g (holds_body true b) body)) body) o (cond (is_entered o) (judged g true o (through g (holds_body true o) last)) last) (through g true others)) (through g true (tree b body (tree o last others))))
        (body_passed body (kind present) last (through g false last) others refl refl refl) (body_passed body (kind absent) last (through g false last) others refl refl refl) (λ b o e. rw e refl) b o

    closed_passed : (c : ForestOf I) → through g true (closed f c) ≡ closed f (through g true c)
    closed_passed end = refl
    closed_passed (tree a x end) = refl
    closed_passed (tree a x (tree b body end)) = refl
    closed_passed (tree a x (tree b body (tree o last others))) = ap (λ r. tree a (cond (is_entered a) (judged g true a (through g (holds_body true a) x)) x) r) (pair_passed b body o last others)

    -- judging twice
    alone_again : (c : ForestOf I) → alone g (alone f c) ≡ alone h c
    alone_again c = ap (λ xs. back false (g xs)) (tidy.all_open c) ∙ ap (back false) (again (elements false c))

    kept_again : (c d : ForestOf I) → g (elements false (back false (f (elements false c ++ elements true d))) ++ elements true (back true (f (elements false c ++ elements true d)))) ≡ h (elements false c ++ elements true d)
    kept_again c d = ap g (tidy.in_order c d) ∙ again (elements false c ++ elements true d)

    pub option_again : (a : LabelOf I) (x : ForestOf I) (d : LabelOf I) (cd list rest w others : ForestOf I)
        → closed g (tree a x (rebuilt d cd list rest w others))
        ≡ tree a x (rebuilt d cd (back false (g (elements false list ++ elements true w))) rest (back true (g (elements false list ++ elements true w))) others)
    option_again a x d cd list rest end others = refl
    option_again a x d cd list rest (tree l c o) others = refl

    body_again : (a : LabelOf I) (x body : ForestOf I) (o : LabelOf I) (last others : ForestOf I) → is_option o ≡ true
        → closed g (tree a x (closed_body f (kind compound) body o last others)) ≡ tree a x (closed_body h (kind compound) body o last others)
    body_again a x end o last others e = rw e refl
    body_again a x (tree d cd end) o last others e = rw e refl
    body_again a x (tree d cd (tree (kind statements) list rest)) o last others e =
        option_again a x d cd (back false (f (elements false list ++ elements true last))) rest (back true (f (elements false list ++ elements true last))) others
        ∙ ap (λ xs. tree a x (rebuilt d cd (back false xs) rest (back true xs) others)) (kept_again list last)
    body_again a x (tree d cd (tree s list rest)) o last others e = rw e refl

    pair_again : (a : LabelOf I) (x : ForestOf I) (b : LabelOf I) (body : ForestOf I) (o : LabelOf I) (last others : ForestOf I)
        → closed g (tree a x (cond (is_compound b && is_option o) (closed_body f b body o last others) (tree b body (tree o last others))))
        ≡ tree a x (cond (is_compound b && is_option o) (closed_body h b body o last others) (tree b body (tree o last others)))
    pair_again a x b body o last others =
        pair_cases (λ b o. closed g (tree a x (cond (is_compound b && is_option o) (closed_body f b body o last others) (tree b body (tree o last others))))
        ≡ tree a x (cond (is_compound b && is_option o) (closed_body h b body o last others) (tree b body (tree o last others))))
        (body_again a x body (kind present) last others refl) (body_again a x body (kind absent) last others refl) (λ b o e. rw e (rw e refl)) b o

    closed_again : (c : ForestOf I) → closed g (closed f c) ≡ closed h c
    closed_again end = refl
    closed_again (tree a x end) = refl
    closed_again (tree a x (tree b body end)) = refl
    closed_again (tree a x (tree b body (tree o last others))) = pair_again a x b body o last others

    listed : (l : LabelOf I) (held : Bool) → (is_list l && not (is_statements l && held)) ≡ true → is_compound l ≡ false
    listed (kind compound) held e = cc
    listed l held e = refl

    judged_passed : (held : Bool) (l : LabelOf I) (c : ForestOf I) (v t : Bool) → is_closed l ≡ v → (is_list l && not (is_statements l && held)) ≡ t
        → through g (holds_body held l) (judged f held l c) ≡ judged f held l (through g (holds_body held l) c)
    judged_passed held l c true t e k = rw e (closed_passed c)
    judged_passed held l c false true e k = rw (e, k, listed l held k) (alone_passed c)
    judged_passed held l c false false e k = rw (e, k) refl

    pub judged_again : (held : Bool) (l : LabelOf I) (c : ForestOf I) (v t : Bool) → is_closed l ≡ v → (is_list l && not (is_statements l && held)) ≡ t
        → judged g held l (judged f held l c) ≡ judged h held l c
    judged_again held l c true t e k = rw e (closed_again c)
    judged_again held l c false true e k = rw (e, k) (alone_again c)
    judged_again held l c false false e k = rw (e, k) refl

    node_again : (held : Bool) (l : LabelOf I) (c o : ForestOf I) (a : Bool) → is_entered l ≡ a
        → through g (holds_body held l) (through f (holds_body held l) c) ≡ through h (holds_body held l) c → through g held (through f held o) ≡ through h held o
        → through g held (through f held (tree l c o)) ≡ through h held (tree l c o)
    node_again held l c o false e inner beside = rw e (ap (λ r. tree l c r) beside)
    node_again held l c o true e inner beside =
        rw e (
        ap (λ r. tree l (judged g held l (through g (holds_body held l) (judged f held l (through f (holds_body held l) c)))) r) beside
        ∙ ap (λ x. tree l (judged g held l x) (through h held o)) (judged_passed held l (through f (holds_body held l) c) (is_closed l) (is_list l && not (is_statements l && held)) refl refl)
        ∙ ap (λ x. tree l (judged g held l (judged f held l x)) (through h held o)) inner
        ∙ ap (λ x. tree l x (through h held o)) (judged_again held l (through h (holds_body held l) c) (is_closed l) (is_list l && not (is_statements l && held)) refl refl))

    pub through_again : (held : Bool) (t : ForestOf I) → through g held (through f held t) ≡ through h held t
    through_again held end = refl
    through_again held (tree l c o) = node_again held l c o (is_entered l) refl (through_again (holds_body held l) c) (through_again held o)
