-- Identifiers replaced: the faults of a module with other identifiers are its faults, with those.
use Rattle.std.proofs.Common.{◌≡◌, Bool, true, false, not, ◌&&◌, cond, List, [], ◌∷◌, ◌++◌, map, inl, inr, refl, sym, ap, ◌∙◌, subst}
use Rattle.std.proofs.lemmas.List.{map-append}
use Rattle.std.specs.List.{flat_map}
use Rattle.wesl_cond_chains.specs.Chains.{Condition, none, on, else_on, otherwise, follows_on, holds, staying}
use Rattle.wesl_cond_chains.specs.Conditions.{condition_at, attributes_in, is_statements, is_list, is_void}
use Rattle.wesl_cond_chains.specs.Faults.{Stands, here, inside, beside, condition_faults, and_rest, conditions, conditions_of, opens, place_faults, list_faults, body_list, closed_list, list_at}
use Rattle.wesl_cond_chains.specs.Laws.{SpellingTellsFaults}
use Rattle.wesl_cond_chains.specs.Lists.{Element, element, elements, is_closed, is_compound, is_option, is_entered, holds_body, judged}
use Rattle.wesl_cond_chains.proofs.Clear.{Clear, clear_first, list_clear, none_among}
use Rattle.wesl_cond_chains.proofs.Kept.{staying_map}
use Rattle.wesl_cond_chains.proofs.Natural.{respell_form, respell_condition, respell_element, list_natural, statements_natural, closed_natural, compound_natural, option_natural, entered_natural, void_natural, cond_natural, attributes_in_natural, elements_natural, condition_natural, holds_natural, follows_natural, condition_in_natural, judged_natural, holds_natural_body}
use Rattle.wesl_cond_chains.specs.FormulaFaults.{Fault, invalid_flag, unexpected_flag, invalid_expression, no_preceding_if, duplicate_if, IsAmong, faults_if_refused, formula_faults}
use Rattle.wesl_cond_features.specs.Features.{Replies, known, says, by_number}
use Rattle.wesl_cond_chains.specs.Formulas.{Form, always, never, flag, templated, within, negation, conjunction, disjunction, other}
use Rattle.wesl_cond_features.specs.declared.features.Feature.{Feature}
use Rattle.wesl_cond_features.specs.declared.features.Feature.TheVariants.{Enable, Disable, Keep, Error}
use Rattle.wesl_tree_syntax.specs.Tree.{LabelOf, ForestOf, end, tree, respell_label, respell_forest}
use Rattle.wesl_tree_syntax.specs.Unit.{forest_of_unit, trees_of, spelled, name_in}

module _ {I J : Type 0} (r : I → J) where
  abbrev respell_fault : Fault I → Fault J
  respell_fault (invalid_flag i) = invalid_flag (r i)
  respell_fault (unexpected_flag i) = unexpected_flag (r i)
  respell_fault invalid_expression = invalid_expression
  respell_fault no_preceding_if = no_preceding_if
  respell_fault duplicate_if = duplicate_if

  among_natural : (f : Fault I) (fs : List (Fault I)) → IsAmong f fs → IsAmong (respell_fault f) (map respell_fault fs)
  among_natural f [] h = elim h [ ]
  among_natural f (g ∷ fs) (inl e) = inl (ap respell_fault e)
  among_natural f (g ∷ fs) (inr h) = inr (among_natural f fs h)

  rest_natural : (c : Condition I) (cs : List (Condition I)) → and_rest (respell_condition r c) (map (respell_condition r) cs) ≡ map (respell_condition r) (and_rest c cs)
  rest_natural none cs = refl
  rest_natural (on x) cs = refl
  rest_natural (else_on x) cs = refl
  rest_natural otherwise cs = refl

  conditions_natural : (al : ForestOf I) → conditions (respell_forest r al) ≡ map (respell_condition r) (conditions al)
  conditions_natural end = refl
  conditions_natural (tree l a o) =
      ap (λ c. and_rest c (conditions (respell_forest r o))) (condition_natural r a)
      ∙ ap (and_rest (respell_condition r (condition_at a))) (conditions_natural o)
      ∙ rest_natural (condition_at a) (conditions o)

  conditions_of_natural : (x : Element I) → conditions_of (respell_element r x) ≡ map (respell_condition r) (conditions_of x)
  conditions_of_natural x = ap conditions (attributes_in_natural r (tree x.label x.children end)) ∙ conditions_natural (attributes_in (tree x.label x.children end))

  opens_natural : (cs : List (Condition I)) → opens (map (respell_condition r) cs) ≡ opens cs
  opens_natural [] = refl
  opens_natural (none ∷ cs) = opens_natural cs
  opens_natural (on x ∷ cs) = refl
  opens_natural (else_on x ∷ cs) = refl
  opens_natural (otherwise ∷ cs) = opens_natural cs

  place_natural : (b : Bool) (cs : List (Condition I)) → place_faults b (map (respell_condition r) cs) ≡ map respell_fault (place_faults b cs)
  place_natural b [] = refl
  place_natural b (none ∷ []) = refl
  place_natural b (on x ∷ []) = refl
  place_natural true (else_on x ∷ []) = refl
  place_natural false (else_on x ∷ []) = refl
  place_natural true (otherwise ∷ []) = refl
  place_natural false (otherwise ∷ []) = refl
  place_natural b (none ∷ d ∷ cs) = refl
  place_natural b (on x ∷ d ∷ cs) = refl
  place_natural b (else_on x ∷ d ∷ cs) = refl
  place_natural b (otherwise ∷ d ∷ cs) = refl

  body_list_natural : (body last : ForestOf I) → body_list (respell_forest r body) (respell_forest r last) ≡ map (respell_element r) (body_list body last)
  body_list_natural end last = refl
  body_list_natural (tree a x end) last = refl
  body_list_natural (tree a x (tree s list rest)) last =
      cond_natural r (map (respell_element r)) (is_statements s) (is_statements (respell_label r s)) (elements false list ++ elements true last) [] _ _ (statements_natural r s)
      (ap (λ xs. xs ++ elements true (respell_forest r last)) (elements_natural r false list)
      ∙ ap (λ xs. map (respell_element r) (elements false list) ++ xs) (elements_natural r true last)
      ∙ sym (map-append (respell_element r) (elements false list) (elements true last)))
      refl

  and_equal : (a a' b b' : Bool) → a ≡ a' → b ≡ b' → (a && b) ≡ (a' && b')
  and_equal a a' b b' e d = ap (λ x. x && b) e ∙ ap (λ x. a' && x) d

  closed_list_natural : (c : ForestOf I) → closed_list (respell_forest r c) ≡ map (respell_element r) (closed_list c)
  closed_list_natural end = refl
  closed_list_natural (tree a x end) = refl
  closed_list_natural (tree a x (tree b body end)) = refl
  closed_list_natural (tree a x (tree b body (tree o last others))) =
      cond_natural r (map (respell_element r)) (is_compound b && is_option o) (is_compound (respell_label r b) && is_option (respell_label r o)) (body_list body last) [] _ _
      (and_equal _ _ _ _ (compound_natural r b) (option_natural r o)) (body_list_natural body last) refl

  list_at_natural : (held : Bool) (l : LabelOf I) (c : ForestOf I) → list_at held (respell_label r l) (respell_forest r c) ≡ map (respell_element r) (list_at held l c)
  list_at_natural held l c =
      cond_natural r (map (respell_element r)) (is_closed l) (is_closed (respell_label r l)) (closed_list c) (cond (is_list l && not (is_statements l && held)) (elements false c) []) _ _ (closed_natural r l) (closed_list_natural c)
      (cond_natural r (map (respell_element r)) (is_list l && not (is_statements l && held)) (is_list (respell_label r l) && not (is_statements (respell_label r l) && held)) (elements false c) [] _ _
      (and_equal _ _ _ _ (list_natural r l) (ap (λ b. not (b && held)) (statements_natural r l))) (elements_natural r false c) refl)

  module _ (reply : Replies I) (answer : Replies J) (agree : (i : I) → reply i ≡ answer (r i)) where
    refused_natural : (a b : Feature) (i : I) → a ≡ b → faults_if_refused b (r i) ≡ map respell_fault (faults_if_refused a i)
    refused_natural Enable b i e = ap (λ x. faults_if_refused x (r i)) (sym e)
    refused_natural Disable b i e = ap (λ x. faults_if_refused x (r i)) (sym e)
    refused_natural Keep b i e = ap (λ x. faults_if_refused x (r i)) (sym e)
    refused_natural Error b i e = ap (λ x. faults_if_refused x (r i)) (sym e)

    formula_natural : (f : Form I) → formula_faults answer (respell_form r f) ≡ map respell_fault (formula_faults reply f)
    formula_natural always = refl
    formula_natural never = refl
    formula_natural (flag i c) = refused_natural (reply i) (answer (r i)) i (agree i)
    formula_natural (templated i c) = refl
    formula_natural (within p f) = formula_natural f
    formula_natural (negation p f) = formula_natural f
    formula_natural (conjunction p f q g) =
        ap (λ xs. xs ++ formula_faults answer (respell_form r g)) (formula_natural f)
        ∙ ap (λ ys. map respell_fault (formula_faults reply f) ++ ys) (formula_natural g)
        ∙ sym (map-append respell_fault (formula_faults reply f) (formula_faults reply g))
    formula_natural (disjunction p f q g) =
        ap (λ xs. xs ++ formula_faults answer (respell_form r g)) (formula_natural f)
        ∙ ap (λ ys. map respell_fault (formula_faults reply f) ++ ys) (formula_natural g)
        ∙ sym (map-append respell_fault (formula_faults reply f) (formula_faults reply g))
    formula_natural (other l c) = refl

    condition_faults_natural : (c : Condition I) → condition_faults answer (respell_condition r c) ≡ map respell_fault (condition_faults reply c)
    condition_faults_natural none = refl
    condition_faults_natural (on x) = formula_natural x.form
    condition_faults_natural (else_on x) = formula_natural x.form
    condition_faults_natural otherwise = refl

    each_natural : (cs : List (Condition I)) → flat_map (condition_faults answer) (map (respell_condition r) cs) ≡ map respell_fault (flat_map (condition_faults reply) cs)
    each_natural [] = refl
    each_natural (c ∷ cs) =
        ap (λ xs. xs ++ flat_map (condition_faults answer) (map (respell_condition r) cs)) (condition_faults_natural c)
        ∙ ap (λ ys. map respell_fault (condition_faults reply c) ++ ys) (each_natural cs)
        ∙ sym (map-append respell_fault (condition_faults reply c) (flat_map (condition_faults reply) cs))

    three_natural : (xs ys zs : List (Fault I)) (us vs ws : List (Fault J)) → us ≡ map respell_fault xs → vs ≡ map respell_fault ys → ws ≡ map respell_fault zs → us ++ vs ++ ws ≡ map respell_fault (xs ++ ys ++ zs)
    three_natural xs ys zs us vs ws e d h =
        ap (λ ts. ts ++ vs ++ ws) e
        ∙ ap (λ ts. map respell_fault xs ++ ts ++ ws) d
        ∙ ap (λ ts. map respell_fault xs ++ map respell_fault ys ++ ts) h
        ∙ ap (λ ts. ts ++ map respell_fault zs) (sym (map-append respell_fault xs ys))
        ∙ sym (map-append respell_fault (xs ++ ys) zs)

    list_faults_natural : (b : Bool) (xs : List (Element I)) → list_faults answer b (map (respell_element r) xs) ≡ map respell_fault (list_faults reply b xs)
    list_faults_natural b [] = refl
    list_faults_natural b (x ∷ xs) =
        let y = respell_element r x in
        let cs = conditions_of x in
        let same : conditions_of y ≡ map (respell_condition r) cs = conditions_of_natural x in
        cond_natural r (map respell_fault) (is_void x.label x.children) (is_void y.label y.children) (list_faults reply b xs) (place_faults b cs ++ flat_map (condition_faults reply) cs ++ list_faults reply (opens cs) xs) _ _
        (void_natural r x.label x.children)
        (list_faults_natural b xs)
        (three_natural (place_faults b cs) (flat_map (condition_faults reply) cs) (list_faults reply (opens cs) xs) _ _ _
        (ap (place_faults b) same ∙ place_natural b cs)
        (ap (flat_map (condition_faults answer)) same ∙ each_natural cs)
        (ap (λ o. list_faults answer o (map (respell_element r) xs)) (ap opens same ∙ opens_natural cs) ∙ list_faults_natural (opens cs) xs))

    faults_at_natural : (held : Bool) (l : LabelOf I) (c : ForestOf I) → list_faults answer false (list_at held (respell_label r l) (respell_forest r c)) ≡ map respell_fault (list_faults reply false (list_at held l c))
    faults_at_natural held l c = ap (list_faults answer false) (list_at_natural held l c) ∙ list_faults_natural false (list_at held l c)

    knows : (i : I) → known reply i ≡ known answer (r i)
    knows i = ap says (agree i)

    stays_natural : (xs : List (Element I)) → staying element (known answer) (map (respell_element r) xs) ≡ map (respell_element r) (staying element (known reply) xs)
    stays_natural xs =
        staying_map element element (respell_element r) (known reply) (known answer)
        (λ x. void_natural r x.label x.children)
        (λ x. ap follows_on (condition_in_natural r (known reply) (known answer) knows x) ∙ follows_natural r (known reply) (known answer) knows (element.condition_of x))
        (λ x. ap (holds (known answer)) (condition_in_natural r (known reply) (known answer) knows x) ∙ holds_natural r (known reply) (known answer) knows (element.condition_of x))
        xs

    within_natural : (held : Bool) (l : LabelOf I) (c : ForestOf I)
        → judged (staying element (known answer)) held (respell_label r l) (respell_forest r c) ≡ respell_forest r (judged (staying element (known reply)) held l c)
    within_natural = judged_natural r (staying element (known reply)) (staying element (known answer)) stays_natural

    -- A fault that stands stands by the other identifiers.
    stands_on : (held : Bool) (t : ForestOf I) (f : Fault I) → Stands reply held t f → Stands answer held (respell_forest r t) (respell_fault f)
    stands_on held t f (here {l = l} {children = c} e h) =
        here (entered_natural r l ∙ e) (subst (IsAmong (respell_fault f)) (sym (faults_at_natural held l c)) (among_natural f (list_faults reply false (list_at held l c)) h))
    stands_on held t f (inside {l = l} {children = c} e n s) =
        let Here : ForestOf J → Type 0 = λ u. Stands answer (holds_body held (respell_label r l)) u (respell_fault f) in
        let At : Bool → Type 0 = λ b. Stands answer b (respell_forest r (judged (staying element (known reply)) held l c)) (respell_fault f) in
        inside (entered_natural r l ∙ e) (faults_at_natural held l c ∙ ap (map respell_fault) n)
        (subst Here (sym (within_natural held l c)) (subst At (sym (holds_natural_body r held l)) (stands_on (holds_body held l) _ f s)))
    stands_on held t f (beside {others = o} s) = beside (stands_on held o f s)

    -- Where none stands none does by the other identifiers.
    abbrev labelled : LabelOf J → ForestOf J → LabelOf J
    labelled d end = d
    labelled d (tree l c o) = l

    abbrev children_of : ForestOf J → ForestOf J
    children_of end = end
    children_of (tree l c o) = c

    abbrev others_of : ForestOf J → ForestOf J
    others_of end = end
    others_of (tree l c o) = o

    no_tree : {l : LabelOf J} {c o : ForestOf J} → tree l c o ≡ end → ⊥
    no_tree e = cc

    none_stands : (held : Bool) (u : ForestOf J) (f : Fault J) → Stands answer held u f → (t : ForestOf I) → u ≡ respell_forest r t → Clear reply held t → ⊥
    none_stands held u f (here e h) end same clear = no_tree same
    none_stands held u f (here {l = l'} {children = c'} e h) (tree l c o) same clear =
        let ls : l' ≡ respell_label r l = ap (labelled l') same in
        let cs : c' ≡ respell_forest r c = ap children_of same in
        let entered : is_entered l ≡ true = sym (entered_natural r l) ∙ ap is_entered (sym ls) ∙ e in
        let none = list_clear reply held l c entered (clear_first reply held l c o clear) in
        none_among answer f (list_faults answer false (list_at held l' c'))
        (ap (λ x. list_faults answer false (list_at held x c')) ls ∙ ap (λ x. list_faults answer false (list_at held (respell_label r l) x)) cs ∙ faults_at_natural held l c ∙ ap (map respell_fault) none) h
    none_stands held u f (inside e n s) end same clear = no_tree same
    none_stands held u f (inside {l = l'} {children = c'} e n s) (tree l c o) same clear =
        let ls : l' ≡ respell_label r l = ap (labelled l') same in
        let cs : c' ≡ respell_forest r c = ap children_of same in
        let entered : is_entered l ≡ true = sym (entered_natural r l) ∙ ap is_entered (sym ls) ∙ e in
        let none = list_clear reply held l c entered (clear_first reply held l c o clear) in
        let ClearBy : Bool → Type 0 = λ b. Clear reply b (judged (staying element (known reply)) held l c) in
        none_stands (holds_body held l') (judged (staying element (known answer)) held l' c') f s (judged (staying element (known reply)) held l c)
        (ap (λ x. judged (staying element (known answer)) held x c') ls ∙ ap (judged (staying element (known answer)) held (respell_label r l)) cs ∙ within_natural held l c)
        (subst ClearBy (sym (ap (holds_body held) ls ∙ holds_natural_body r held l)) (λ g h. clear g (inside entered none h)))
    none_stands held u f (beside s) end same clear = no_tree same
    none_stands held u f (beside {others = o'} s) (tree l c o) same clear = none_stands held o' f s o (ap others_of same) (λ g h. clear g (beside h))

-- No fault stands in a module exactly where none stands in its spelling.
pub spelling_tells_faults : SpellingTellsFaults
spelling_tells_faults reply u =
    let r = name_in u.names in
    let t = forest_of_unit (trees_of u) in (
      (λ clear. λ f s. none_stands r (by_number u.names reply) reply (λ i. refl) false (forest_of_unit (spelled u)) f s t refl clear),
      (λ clear. λ f s. clear (respell_fault r f) (stands_on r (by_number u.names reply) reply (λ i. refl) false t f s)),
    )
