-- What is left of trees under a choice, from the outside in, by what is known of them.
use Rattle.std.proofs.Common.{◌≡◌, ℕ, zero, suc, ◌+◌, Bool, true, false, not, ◌&&◌, cond, List, [], ◌∷◌, ◌++◌, map, drop, length, refl, sym, ap, ◌∙◌, arith}
use Rattle.std.proofs.lemmas.List.{map-append}
use Rattle.wesl_cond_features.specs.Answers.{Answers}
use Rattle.wesl_cond_features.specs.declared.chain.Role.TheVariants.{Plain}
use Rattle.wesl_cond_chains.proofs.Bodies.{pair_cases}
use Rattle.wesl_cond_chains.proofs.Passing.{attributes_through, elements_through, inside, void_inside}
use Rattle.wesl_cond_chains.specs.Chains.{Condition, none, on, else_on, otherwise, follows_on}
use Rattle.wesl_cond_chains.specs.Conditions.{attributes_in, condition_at, first_condition, is_list, is_statements, or_next, recast, replaced, with_attributes}
use Rattle.wesl_cond_chains.specs.Faults.{closed_list, conditions}
use Rattle.wesl_cond_chains.specs.Lists.{Element, alone, back, closed, closed_body, element, elements, holds_body, is_closed, is_compound, is_entered, is_option, judged, option_of, through}
use Rattle.wesl_cond_chains.specs.Picked.{Choice, chosen}
use Rattle.wesl_tree_syntax.specs.Nodes.{is_attributes}
use Rattle.wesl_tree_syntax.specs.Tree.{LabelOf, ForestOf, end, tree, ident, kind, compound, present, absent, statements, identifiers}
use Rattle.wesl_cond_alive.proofs.Grown.{named}
use Rattle.wesl_cond_alive.proofs.Turns.{IsTold, Verdict, goes, stays, picked, all_become, kept_is, verdicts}
use Rattle.wesl_cond_alive.specs.Kept.{kept_list}
use Rattle.wesl_cond_alive.specs.Positions.{size}
use Rattle.wesl_cond_alive.specs.Sound.{Outline, are_clean, is_conditional, is_whole, outline_of}
use Rattle.wesl_cond_alive.specs.Walk.{statement_count}

-- ---- attributes without their conditions

module _ {I : Type 0} (known : Answers I) where
  replaced_none : (l : LabelOf I) (a o : ForestOf I) (c first : Condition I) → or_next c first ≡ none → (first ≡ none → recast known Plain o ≡ o) → replaced l a c none (recast known Plain o) ≡ tree l a o
  replaced_none l a o none first e ih = ap (tree l a) (ih e)
  replaced_none l a o (on x) first e ih = cc
  replaced_none l a o (else_on x) first e ih = cc
  replaced_none l a o otherwise first e ih = cc

  recast_none : (a : ForestOf I) → first_condition a ≡ none → recast known Plain a ≡ a
  recast_none end e = refl
  recast_none (tree l a o) e = replaced_none l a o (condition_at a) (first_condition o) e (recast_none o)

  with_none_at : (l : LabelOf I) (c o : ForestOf I) (a b : Bool) → is_attributes l ≡ a → is_list l ≡ b → (first_condition (attributes_in c) ≡ none → with_attributes (recast known Plain) c ≡ c)
      → first_condition (attributes_in (tree l c o)) ≡ none → cond (is_attributes l) (recast known Plain c) (cond (is_list l) c (with_attributes (recast known Plain) c)) ≡ c
  with_none_at l c o true b e d ih h = rw e (recast_none c (rw e at h))
  with_none_at l c o false true e d ih h = rw (e, d) refl
  with_none_at l c o false false e d ih h = rw (e, d) (ih (rw (e, d) at h))

  with_none : (f : ForestOf I) → first_condition (attributes_in f) ≡ none → with_attributes (recast known Plain) f ≡ f
  with_none end e = refl
  with_none (tree l c o) e = ap (λ x. tree l x o) (with_none_at l c o (is_attributes l) (is_list l) refl refl (with_none c) e)

  -- a node without condition
  pub plain_node : (x : Element I) → (outline_of x).condition ≡ none → element.in_role known Plain x ≡ x
  plain_node x e = ap (λ c. record { closes = x.closes; label = x.label; children = c }) (with_none_at x.label x.children end (is_attributes x.label) (is_list x.label) refl refl (with_none x.children) e)

-- ---- what stands in a node leaves its outline

module _ {I : Type 0} where
  abbrev outline_with : Bool → ForestOf I → Outline I
  outline_with v a = record { is_void = v; condition = first_condition a; is_clean = are_clean (conditions a) }

  outline_from : (v v' : Bool) (a a' : ForestOf I) → v ≡ v' → a ≡ a' → outline_with v a ≡ outline_with v' a'
  outline_from v v' a a' e d = rw (e, d) refl

  outline_inside : (g : List (Element I) → List (Element I)) (x : Element I) → outline_of (inside g x) ≡ outline_of x
  outline_inside g x = outline_from _ _ _ _ (void_inside g x.label x.children) (attributes_through g false (tree x.label x.children end))

  outlines_inside : (g : List (Element I) → List (Element I)) (xs : List (Element I)) → map outline_of (map (inside g) xs) ≡ map outline_of xs
  outlines_inside g [] = refl
  outlines_inside g (x ∷ xs) = ap (λ o. o ∷ map outline_of (map (inside g) xs)) (outline_inside g x) ∙ ap (λ os. outline_of x ∷ os) (outlines_inside g xs)

  elements_told : IsTold {I = I} element (λ x. x)
  elements_told = record { voids = λ x. refl; conditions = λ x. refl }

module _ {I : Type 0} where
  -- ---- identifiers

  pub names_tree : (l : LabelOf I) (c o : ForestOf I) → identifiers (tree l c o) ≡ named l c ++ identifiers o
  names_tree (ident r x) c o = refl
  names_tree l c o = refl

  pub names_beside : (l : LabelOf I) (c o p : ForestOf I) → identifiers o ≡ identifiers p → identifiers (tree l c o) ≡ identifiers (tree l c p)
  names_beside l c o p e = names_tree l c o ∙ ap (λ xs. named l c ++ xs) e ∙ sym (names_tree l c p)

  option_names : (k : LabelOf I) (w o : ForestOf I) → is_option k ≡ true → identifiers (option_of w o) ≡ identifiers (tree k w o)
  option_names (kind present) end o e = refl
  option_names (kind present) (tree l c p) o e = refl
  option_names (kind absent) end o e = refl
  option_names (kind absent) (tree l c p) o e = refl
  option_names k w o e = cc

module _ {I : Type 0} (choice : Choice I) where
  -- how many verdicts there are
  count_at : (whole free : Bool) (x : Outline I) (xs : List (Outline I)) (v w : Bool) → x.is_void ≡ v → is_whole whole x xs ≡ w
      → ((a b : Bool) → length (verdicts choice a b xs) ≡ length xs) → length (verdicts choice whole free (x ∷ xs)) ≡ suc (length xs)
  count_at whole free x xs true w e d ih = rw e (ap suc (ih whole free))
  count_at whole free x xs false true e d ih = rw (e, d) (ap suc (ih true free))
  count_at whole free x xs false false e d ih = rw (e, d) (ap suc (ih false _))

  count : (xs : List (Outline I)) (whole free : Bool) → length (verdicts choice whole free xs) ≡ length xs
  count [] whole free = refl
  count (x ∷ xs) whole free = count_at whole free x xs x.is_void (is_whole whole x xs) refl refl (λ a b. count xs a b)

  -- the first branch of a list begins a chain, or stays whole
  free_at : (free : Bool) (x : Outline I) (xs : List (Outline I)) (v f s : Bool) → x.is_void ≡ v → follows_on x.condition ≡ f → is_whole true x xs ≡ s
      → verdicts choice true free xs ≡ verdicts choice true true xs → verdicts choice true free (x ∷ xs) ≡ verdicts choice true true (x ∷ xs)
  free_at free x xs true f s e d k ih = rw e (ap (λ vs. goes ∷ vs) ih)
  free_at free x xs false f true e d k ih = rw (e, k) (ap (λ vs. stays ∷ vs) ih)
  free_at free x xs false false false e d k ih = rw (e, k) (rw d refl)
  free_at free x xs false true false e d k ih = let c = rw d at k in cc

  pub free_ignored : (free : Bool) (xs : List (Outline I)) → verdicts choice true free xs ≡ verdicts choice true true xs
  free_ignored free [] = refl
  free_ignored free (x ∷ xs) = free_at free x xs x.is_void (follows_on x.condition) (is_whole true x xs) refl refl refl (free_ignored free xs)

  -- ---- what is left

  abbrev pub kept : List (Element I) → List (Element I)
  kept xs = kept_list element (λ x. x) choice xs

  abbrev pub strip : ForestOf I → ForestOf I
  strip f = recast (chosen choice) Plain f

  -- what a node of a list that is picked holds
  abbrev pub stripped : Bool → ForestOf I → ForestOf I
  stripped b f = cond b (with_attributes strip f) f

  abbrev pub in_place : Bool → LabelOf I → ForestOf I → ForestOf I
  in_place b l c = cond b (cond (is_attributes l) (strip c) (cond (is_list l) c (with_attributes strip c))) c

  -- what is left in a node
  abbrev pub left_in : Bool → LabelOf I → ForestOf I → ForestOf I
  left_in held l c = cond (is_entered l) (judged kept held l (through kept (holds_body held l) c)) c

  -- nodes of which these become
  abbrev pub parted : List Verdict → ForestOf I → ForestOf I
  parted [] f = through kept false f
  parted (v ∷ vs) end = end
  parted (goes ∷ vs) (tree l c o) = parted vs o
  parted (stays ∷ vs) (tree l c o) = tree l (left_in false l c) (parted vs o)
  parted (picked ∷ vs) (tree l c o) = tree l (in_place true l (left_in false l c)) (parted vs o)

  abbrev pub is_optional : LabelOf I → Bool
  is_optional l = is_entered l && (not (is_closed l) && (not (is_list l) && not (is_compound l)))

  abbrev pub listed_part : Bool → List Verdict → ForestOf I → ForestOf I
  listed_part b [] f = stripped b (through kept false f)
  listed_part b (v ∷ vs) f = parted (v ∷ vs) f

  pub listed_is : (vs : List Verdict) (f : ForestOf I) → listed_part false vs f ≡ parted vs f
  listed_is [] f = refl
  listed_is (v ∷ vs) f = refl

  abbrev pub bare_part : Bool → ForestOf I → ForestOf I
  bare_part b end = end
  bare_part b (tree l c o) = cond (is_conditional (condition_at c)) (strip o) (tree l (cond (is_attributes l) c (cond (is_list l) c (stripped b c))) (strip o))

  abbrev pub inside_kids : Bool → List Verdict → LabelOf I → ForestOf I → ForestOf I
  inside_kids b vs l c = cond (is_statements l) (parted vs c) (in_place b l (left_in true l c))

  abbrev pub inside_part : Bool → List Verdict → ForestOf I → ForestOf I
  inside_part b vs end = end
  inside_part b vs (tree l c o) = tree l (inside_kids b vs l c) (through kept true o)

  abbrev pub inner_part : Bool → List Verdict → ForestOf I → ForestOf I
  inner_part b vs end = end
  inner_part b vs (tree l c o) = tree l (in_place b l (left_in true l c)) (inside_part false vs o)

  abbrev pub last_kids : Bool → List Verdict → LabelOf I → ForestOf I → ForestOf I
  last_kids b vs l c = cond (is_optional l) (listed_part b vs c) (in_place b l (left_in true l c))

  abbrev pub last_part : Bool → List Verdict → ForestOf I → ForestOf I
  last_part b vs end = end
  last_part b vs (tree l c o) = tree l (last_kids b vs l c) (through kept true o)

  abbrev pub body_kids : Bool → List Verdict → LabelOf I → ForestOf I → ForestOf I
  body_kids b vs l c = cond (is_compound l) (inner_part b vs c) (in_place b l (left_in true l c))

  abbrev pub body_part : Bool → List Verdict → ForestOf I → ForestOf I
  body_part b vs end = end
  body_part b vs (tree l c o) = tree l (body_kids b vs l c) (last_part false (drop (statement_count c) vs) o)

  abbrev pub closing_part : Bool → List Verdict → ForestOf I → ForestOf I
  closing_part b vs end = end
  closing_part b vs (tree l c o) = tree l (in_place b l (left_in true l c)) (body_part false vs o)

  -- ---- where nothing is pending

  pub stripped_tree : (b : Bool) (l : LabelOf I) (c o : ForestOf I) → stripped b (tree l c o) ≡ tree l (in_place b l c) o
  stripped_tree true l c o = refl
  stripped_tree false l c o = refl

  pub stripped_end : (b : Bool) → stripped b end ≡ end
  stripped_end true = refl
  stripped_end false = refl

  -- a label of a node that holds an optional node, or other nodes outside a list
  optional_at : (held : Bool) (l : LabelOf I) (c : ForestOf I) (a b d e : Bool) → is_entered l ≡ a → is_closed l ≡ b → is_list l ≡ d → is_compound l ≡ e → (a && (not b && (not d && not e))) ≡ true
      → left_in held l c ≡ through kept false c
  optional_at held l c true false false false p q r s h = rw (p, q, r, s) refl
  optional_at held l c _ _ _ _ p q r s h = cc

  pub optional_in : (held : Bool) (l : LabelOf I) (c : ForestOf I) → is_optional l ≡ true → left_in held l c ≡ through kept false c
  optional_in held l c h = optional_at held l c (is_entered l) (is_closed l) (is_list l) (is_compound l) refl refl refl refl h

  last_kids_none : (l : LabelOf I) (c : ForestOf I) (b : Bool) → is_optional l ≡ b → last_kids false [] l c ≡ left_in true l c
  last_kids_none l c true e = rw e (sym (optional_in true l c e))
  last_kids_none l c false e = rw e refl

  pub last_none : (f : ForestOf I) → last_part false [] f ≡ through kept true f
  last_none end = refl
  last_none (tree l c o) = ap (λ x. tree l x (through kept true o)) (last_kids_none l c (is_optional l) refl)

  inside_kids_none : (l : LabelOf I) (c : ForestOf I) → inside_kids false [] l c ≡ left_in true l c
  inside_kids_none (kind statements) c = refl
  inside_kids_none l c = refl

  pub inside_none : (f : ForestOf I) → inside_part false [] f ≡ through kept true f
  inside_none end = refl
  inside_none (tree l c o) = ap (λ x. tree l x (through kept true o)) (inside_kids_none l c)

  pub inner_none : (b : Bool) (f : ForestOf I) → inner_part b [] f ≡ stripped b (through kept true f)
  inner_none b end = sym (stripped_end b)
  inner_none b (tree l c o) = ap (λ x. tree l (in_place b l (left_in true l c)) x) (inside_none o) ∙ sym (stripped_tree b l (left_in true l c) (through kept true o))

  body_kids_none : (l : LabelOf I) (c : ForestOf I) → body_kids false [] l c ≡ left_in true l c
  body_kids_none (kind compound) c = inner_none false c
  body_kids_none l c = refl

  abbrev no_verdicts : List Verdict
  no_verdicts = []

  drop_none : (n : ℕ) → drop n no_verdicts ≡ no_verdicts
  drop_none zero = refl
  drop_none (suc n) = refl

  pub body_none : (f : ForestOf I) → body_part false [] f ≡ through kept true f
  body_none end = refl
  body_none (tree l c o) =
      ap (λ x. tree l x (last_part false (drop (statement_count c) []) o)) (body_kids_none l c)
      ∙ ap (λ vs. tree l (left_in true l c) (last_part false vs o)) (drop_none (statement_count c))
      ∙ ap (λ x. tree l (left_in true l c) x) (last_none o)

  -- ---- lists

  abbrev become_all : List Verdict → List (Element I) → List (Element I)
  become_all vs xs = all_become element (λ x. x) elements_told choice (plain_node (chosen choice)) vs xs

  abbrev all_inside : List (Element I) → List (Element I)
  all_inside xs = map (inside kept) xs

  abbrev pub told_by : List (Element I) → List Verdict
  told_by xs = verdicts choice true true (map outline_of xs)

  kept_inside : (xs : List (Element I)) → kept (all_inside xs) ≡ become_all (told_by xs) (all_inside xs)
  kept_inside xs = kept_is element (λ x. x) elements_told choice (plain_node (chosen choice)) (all_inside xs) ∙ ap (λ os. become_all (verdicts choice true true os) (all_inside xs)) (outlines_inside kept xs)

  own : (b : Bool) (l : LabelOf I) (c : ForestOf I) (xs : List (Element I)) → back b (record { closes = b; label = l; children = c } ∷ xs) ≡ tree l c (back b xs)
  own true l c xs = refl
  own false l c xs = refl

  one_less : (m n : ℕ) → suc m ≡ suc n → m ≡ n
  one_less m n e = omega arith

  all_parted : (b : Bool) (vs : List Verdict) (f : ForestOf I) → length vs ≡ size f → back b (become_all vs (all_inside (elements b f))) ≡ parted vs f
  all_parted b [] end e = refl
  all_parted b [] (tree l c o) e = absurd (omega arith)
  all_parted b (v ∷ vs) end e = refl
  all_parted b (goes ∷ vs) (tree l c o) e = all_parted b vs o (one_less (length vs) (size o) e)
  all_parted b (stays ∷ vs) (tree l c o) e = own b l (left_in false l c) (become_all vs (all_inside (elements b o))) ∙ ap (λ x. tree l (left_in false l c) x) (all_parted b vs o (one_less (length vs) (size o) e))
  all_parted b (picked ∷ vs) (tree l c o) e = own b l (in_place true l (left_in false l c)) (become_all vs (all_inside (elements b o))) ∙ ap (λ x. tree l (in_place true l (left_in false l c)) x) (all_parted b vs o (one_less (length vs) (size o) e))

  none_goes_back : (vs : List Verdict) (f : ForestOf I) → back false (become_all vs (all_inside (elements true f))) ≡ end
  none_goes_back [] f = refl
  none_goes_back (v ∷ vs) end = refl
  none_goes_back (goes ∷ vs) (tree l c o) = none_goes_back vs o
  none_goes_back (stays ∷ vs) (tree l c o) = none_goes_back vs o
  none_goes_back (picked ∷ vs) (tree l c o) = none_goes_back vs o

  front_parted : (vs : List Verdict) (f d : ForestOf I) → length vs ≡ size f + size d → back false (become_all vs (all_inside (elements false f ++ elements true d))) ≡ parted vs f
  front_parted [] end d e = refl
  front_parted [] (tree l c o) d e = absurd (omega arith)
  front_parted (v ∷ vs) end d e = none_goes_back (v ∷ vs) d
  front_parted (goes ∷ vs) (tree l c o) d e = front_parted vs o d (omega arith)
  front_parted (stays ∷ vs) (tree l c o) d e = ap (λ x. tree l (left_in false l c) x) (front_parted vs o d (omega arith))
  front_parted (picked ∷ vs) (tree l c o) d e = ap (λ x. tree l (in_place true l (left_in false l c)) x) (front_parted vs o d (omega arith))

  last_parted : (vs : List Verdict) (f d : ForestOf I) → length vs ≡ size f + size d → back true (become_all vs (all_inside (elements false f ++ elements true d))) ≡ parted (drop (size f) vs) d
  last_parted vs end d e = all_parted true vs d (omega arith)
  last_parted [] (tree l c o) d e = absurd (omega arith)
  last_parted (goes ∷ vs) (tree l c o) d e = last_parted vs o d (omega arith)
  last_parted (stays ∷ vs) (tree l c o) d e = last_parted vs o d (omega arith)
  last_parted (picked ∷ vs) (tree l c o) d e = last_parted vs o d (omega arith)

  element_count : (b : Bool) (f : ForestOf I) → length (map outline_of (elements b f)) ≡ size f
  element_count b end = refl
  element_count b (tree l c o) = ap suc (element_count b o)

  both_count : (f d : ForestOf I) → length (map outline_of (elements false f ++ elements true d)) ≡ size f + size d
  both_count end d = let e = element_count true d in omega arith
  both_count (tree l c o) d = let e = both_count o d in omega arith

  -- a list that is judged by itself
  pub alone_is : (vs : List Verdict) (c : ForestOf I) → vs ≡ told_by (elements false c) → alone kept (through kept false c) ≡ parted vs c
  alone_is vs c e =
      ap (λ xs. back false (kept xs)) (elements_through kept false c)
      ∙ ap (back false) (kept_inside (elements false c))
      ∙ all_parted false (told_by (elements false c)) c (count (map outline_of (elements false c)) true true ∙ element_count false c)
      ∙ ap (λ ws. parted ws c) (sym e)

  -- a body's statements and what closes them
  abbrev body_kept : ForestOf I → ForestOf I → List (Element I)
  body_kept c d = kept (elements false (through kept false c) ++ elements true (through kept false d))

  body_kept_is : (c d : ForestOf I) → body_kept c d ≡ become_all (told_by (elements false c ++ elements true d)) (all_inside (elements false c ++ elements true d))
  body_kept_is c d =
      ap kept (ap (λ xs. xs ++ elements true (through kept false d)) (elements_through kept false c)
      ∙ ap (λ xs. all_inside (elements false c) ++ xs) (elements_through kept true d)
      ∙ sym (map-append (inside kept) (elements false c) (elements true d)))
      ∙ kept_inside (elements false c ++ elements true d)

  all_counted : (c d : ForestOf I) → length (told_by (elements false c ++ elements true d)) ≡ size c + size d
  all_counted c d = count (map outline_of (elements false c ++ elements true d)) true true ∙ both_count c d

  front_is : (vs : List Verdict) (c d : ForestOf I) → vs ≡ told_by (elements false c ++ elements true d) → back false (body_kept c d) ≡ parted vs c
  front_is vs c d e = ap (back false) (body_kept_is c d) ∙ front_parted (told_by (elements false c ++ elements true d)) c d (all_counted c d) ∙ ap (λ ws. parted ws c) (sym e)

  last_is : (vs : List Verdict) (c d : ForestOf I) → vs ≡ told_by (elements false c ++ elements true d) → back true (body_kept c d) ≡ parted (drop (size c) vs) d
  last_is vs c d e = ap (back true) (body_kept_is c d) ∙ last_parted (told_by (elements false c ++ elements true d)) c d (all_counted c d) ∙ ap (λ ws. parted (drop (size c) ws) d) (sym e)

  -- ---- what another child closes

  abbrev closed_rest : ForestOf I → ForestOf I
  closed_rest end = end
  closed_rest (tree b body end) = tree b body end
  closed_rest (tree b body (tree o last others)) = cond (is_compound b && is_option o) (closed_body kept b body o last others) (tree b body (tree o last others))

  closed_tree : (a : LabelOf I) (x rest : ForestOf I) → closed kept (tree a x rest) ≡ tree a x (closed_rest rest)
  closed_tree a x end = refl
  closed_tree a x (tree b body end) = refl
  closed_tree a x (tree b body (tree o last others)) = refl

  abbrev ClosedIs : LabelOf I → ForestOf I → ForestOf I → Type 0
  ClosedIs a x rest = (vs : List Verdict) → vs ≡ told_by (closed_list (tree a x rest)) → identifiers (closed_rest (through kept true rest)) ≡ identifiers (body_part false vs rest)

  nothing_closed : (vs : List Verdict) (rest : ForestOf I) → vs ≡ [] → closed_rest (through kept true rest) ≡ through kept true rest → identifiers (closed_rest (through kept true rest)) ≡ identifiers (body_part false vs rest)
  nothing_closed vs rest e d = ap identifiers (d ∙ sym (body_none rest) ∙ ap (λ ws. body_part false ws rest) (sym e))

  statements_closed : (y : ForestOf I) (k : LabelOf I) (items rest : ForestOf I) (o : LabelOf I) (last others : ForestOf I) → is_option o ≡ true
      → (vs : List Verdict) → vs ≡ told_by (elements false items ++ elements true last)
      → identifiers (tree (kind compound) (tree k y (tree (kind statements) (back false (body_kept items last)) rest)) (option_of (back true (body_kept items last)) others))
      ≡ identifiers (tree (kind compound) (tree k y (tree (kind statements) (parted vs items) rest)) (tree o (listed_part false (drop (size items) vs) last) others))
  statements_closed y k items rest o last others e vs is =
      ap (λ z. identifiers (tree (kind compound) (tree k y (tree (kind statements) z rest)) (option_of (back true (body_kept items last)) others))) (front_is vs items last is)
      ∙ ap (λ z. identifiers (tree (kind compound) (tree k y (tree (kind statements) (parted vs items) rest)) (option_of z others))) (last_is vs items last is)
      ∙ names_beside (kind compound) (tree k y (tree (kind statements) (parted vs items) rest)) (option_of (parted (drop (size items) vs) last) others) (tree o (parted (drop (size items) vs) last) others) (option_names o (parted (drop (size items) vs) last) others e)
      ∙ ap (λ z. identifiers (tree (kind compound) (tree k y (tree (kind statements) (parted vs items) rest)) (tree o z others))) (sym (listed_is (drop (size items) vs) last))

  body_present : (a : LabelOf I) (x body last others : ForestOf I) → ClosedIs a x (tree (kind compound) body (tree (kind present) last others))
  body_present a x end last others vs is = nothing_closed vs (tree (kind compound) end (tree (kind present) last others)) is refl
  body_present a x (tree k y end) last others vs is = nothing_closed vs (tree (kind compound) (tree k y end) (tree (kind present) last others)) is refl
  body_present a x (tree k y (tree (kind statements) items rest)) last others vs is = statements_closed (left_in true k y) k items (through kept true rest) (kind present) last (through kept true others) refl vs is
  body_present a x (tree k y (tree s items rest)) last others vs is = nothing_closed vs (tree (kind compound) (tree k y (tree s items rest)) (tree (kind present) last others)) is refl

  body_absent : (a : LabelOf I) (x body last others : ForestOf I) → ClosedIs a x (tree (kind compound) body (tree (kind absent) last others))
  body_absent a x end last others vs is = nothing_closed vs (tree (kind compound) end (tree (kind absent) last others)) is refl
  body_absent a x (tree k y end) last others vs is = nothing_closed vs (tree (kind compound) (tree k y end) (tree (kind absent) last others)) is refl
  body_absent a x (tree k y (tree (kind statements) items rest)) last others vs is = statements_closed (left_in true k y) k items (through kept true rest) (kind absent) last (through kept true others) refl vs is
  body_absent a x (tree k y (tree s items rest)) last others vs is = nothing_closed vs (tree (kind compound) (tree k y (tree s items rest)) (tree (kind absent) last others)) is refl

  rest_closed : (a : LabelOf I) (x rest : ForestOf I) → ClosedIs a x rest
  rest_closed a x end vs is = refl
  rest_closed a x (tree b body end) vs is = nothing_closed vs (tree b body end) is refl
  rest_closed a x (tree b body (tree o last others)) vs is =
      pair_cases (λ b o. ClosedIs a x (tree b body (tree o last others))) (body_present a x body last others) (body_absent a x body last others)
      (λ b o e ws as_told. nothing_closed ws (tree b body (tree o last others)) (rw e at as_told) (rw e refl)) b o vs is

  pub closed_is : (b : Bool) (vs : List Verdict) (c : ForestOf I) → vs ≡ told_by (closed_list c) → identifiers (stripped b (closed kept (through kept true c))) ≡ identifiers (closing_part b vs c)
  closed_is b vs end is = ap identifiers (stripped_end b)
  closed_is b vs (tree l c o) is =
      ap (λ f. identifiers (stripped b f)) (closed_tree l (left_in true l c) (through kept true o))
      ∙ ap identifiers (stripped_tree b l (left_in true l c) (closed_rest (through kept true o)))
      ∙ names_beside l (in_place b l (left_in true l c)) (closed_rest (through kept true o)) (body_part false vs o) (rest_closed l c o vs is)
