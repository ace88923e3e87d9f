-- Identifiers replaced: a choice keeps the same nodes of a module with other identifiers as the choice of those does of it.
use Rattle.std.proofs.Common.{◌≡◌, ℕ, zero, suc, ◌&&◌, not, cond, Bool, true, false, List, [], ◌∷◌, ◌++◌, map, length, refl, sym, ap, ◌∙◌}
use Rattle.std.proofs.lemmas.List.{map-append}
use Rattle.std.specs.Prelude.{Option, None, Some, Result, Ok, Err, IfOk}
use Rattle.std.specs.declared.alloc.AllocError.{AllocError}
use Rattle.wesl_cond_features.specs.declared.features.Feature.TheVariants.{Keep}
use Rattle.wesl_cond_chains.specs.Chains.{Condition, none, on, else_on, otherwise, follows_on}
use Rattle.wesl_cond_chains.specs.Conditions.{condition_at, first_condition, or_next, attributes_in, is_statements, is_void}
use Rattle.wesl_cond_chains.specs.Faults.{and_rest, body_list, closed_list, condition_faults, conditions}
use Rattle.wesl_cond_chains.specs.FormulaFaults.{formula_faults}
use Rattle.wesl_cond_chains.specs.Formulas.{Form, always, never, flag, templated, within, negation, conjunction, disjunction, other, value_under}
use Rattle.wesl_cond_chains.specs.Lists.{Element, elements, is_compound, is_option}
use Rattle.wesl_cond_chains.specs.Picked.{Choice, is_true}
use Rattle.wesl_cond_chains.proofs.Natural.{attributes_in_natural, closed_natural, compound_natural, condition_natural, elements_natural, entered_natural, list_natural, option_natural, respell_condition, respell_element, respell_form, statements_natural, void_natural}
use Rattle.wesl_tree_syntax.specs.Tree.{LabelOf, ForestOf, end, tree, kind, at, present, compound_statement, respell_forest, respell_label}
use Rattle.wesl_tree_syntax.specs.Unit.{UnitView, forest_of_unit, name_in, spelled, trees_of}
use Rattle.wesl_tree_base.specs.Borrowed.{texts}
use Rattle.wesl_cond_choices.specs.Choices.{Choices}
use Rattle.wesl_tree_names.specs.Path.{Text}
use Rattle.wesl_cond_alive.specs.Choices.{IsSetOf, choice_by, choice_of}
use Rattle.wesl_cond_alive.specs.Kept.{is_faultless, kept_indexes, numbered_from}
use Rattle.wesl_cond_alive.specs.Positions.{body_size, handed, is_plain, keeps_child, kept_at, kept_in, size}
use Rattle.wesl_cond_alive.specs.Sound.{Outline, are_clean_after, is_conditional, is_rest_sound, opens_chain, outline_of}
use Rattle.wesl_cond_alive.proofs.Turns.{Verdict, goes, stays, picked, faultless_both, verdicts}
use Rattle.wesl_cond_positions.specs.Found.{IsFound}
use Rattle.wesl_cond_positions.specs.declared.lookup.Lookup.{Lookup}
use Rattle.wesl_cond_positions.proofs.Numbers.{kept_are, numbers_of}

module _ {I J : Type 0} (r : I → J) where
  abbrev respell_outline : Outline I → Outline J
  respell_outline x = record { is_void = x.is_void; condition = respell_condition r x.condition; is_clean = x.is_clean }

  or_next_natural : (c d : Condition I) → or_next (respell_condition r c) (respell_condition r d) ≡ respell_condition r (or_next c d)
  or_next_natural none d = refl
  or_next_natural (on x) d = refl
  or_next_natural (else_on x) d = refl
  or_next_natural otherwise d = refl

  first_natural : (al : ForestOf I) → first_condition (respell_forest r al) ≡ respell_condition r (first_condition al)
  first_natural end = refl
  first_natural (tree l a o) = rw (condition_natural r a, first_natural o) (or_next_natural (condition_at a) (first_condition o))

  rest_natural : (c : Condition I) (cs : List (Condition I)) → and_rest (respell_condition r c) (map (respell_condition r) cs) ≡ map (respell_condition r) (and_rest c cs)
  rest_natural none cs = refl
  rest_natural (on x) cs = refl
  rest_natural (else_on x) cs = refl
  rest_natural otherwise cs = refl

  conditions_natural : (al : ForestOf I) → conditions (respell_forest r al) ≡ map (respell_condition r) (conditions al)
  conditions_natural end = refl
  conditions_natural (tree l a o) = rw (condition_natural r a, conditions_natural o) (rest_natural (condition_at a) (conditions o))

  form_clean : (f : Form I) → is_faultless (formula_faults (λ flag. Keep) (respell_form r f)) ≡ is_faultless (formula_faults (λ flag. Keep) f)
  form_clean always = refl
  form_clean never = refl
  form_clean (flag i c) = refl
  form_clean (templated i c) = refl
  form_clean (within p f) = form_clean f
  form_clean (negation p f) = form_clean f
  form_clean (conjunction p f q g) =
      faultless_both (formula_faults (λ flag. Keep) (respell_form r f)) (formula_faults (λ flag. Keep) (respell_form r g))
      ∙ rw (form_clean f, form_clean g) (sym (faultless_both (formula_faults (λ flag. Keep) f) (formula_faults (λ flag. Keep) g)))
  form_clean (disjunction p f q g) =
      faultless_both (formula_faults (λ flag. Keep) (respell_form r f)) (formula_faults (λ flag. Keep) (respell_form r g))
      ∙ rw (form_clean f, form_clean g) (sym (faultless_both (formula_faults (λ flag. Keep) f) (formula_faults (λ flag. Keep) g)))
  form_clean (other l c) = refl

  condition_clean : (c : Condition I) → is_faultless (condition_faults (λ flag. Keep) (respell_condition r c)) ≡ is_faultless (condition_faults (λ flag. Keep) c)
  condition_clean none = refl
  condition_clean (on x) = form_clean x.form
  condition_clean (else_on x) = form_clean x.form
  condition_clean otherwise = refl

  clean_natural : (seen : Bool) (cs : List (Condition I)) → are_clean_after seen (map (respell_condition r) cs) ≡ are_clean_after seen cs
  clean_natural seen [] = refl
  clean_natural seen (c ∷ cs) = rw (condition_clean c, clean_natural true cs) refl

  abbrev own : Element I → ForestOf I
  own x = attributes_in (tree x.label x.children end)

  outline_natural : (x : Element I) → outline_of (respell_element r x) ≡ respell_outline (outline_of x)
  outline_natural x =
      ap (λ v. record { is_void = v; condition = (outline_of (respell_element r x)).condition; is_clean = (outline_of (respell_element r x)).is_clean }) (void_natural r x.label x.children)
      ∙ ap (λ a. record { is_void = is_void x.label x.children; condition = first_condition a; is_clean = are_clean_after false (conditions a) }) (attributes_in_natural r (tree x.label x.children end))
      ∙ ap (λ c. record { is_void = is_void x.label x.children; condition = c; is_clean = are_clean_after false (conditions (respell_forest r (own x))) }) (first_natural (own x))
      ∙ ap (λ b. record { is_void = is_void x.label x.children; condition = respell_condition r (first_condition (own x)); is_clean = b }) (ap (are_clean_after false) (conditions_natural (own x)) ∙ clean_natural false (conditions (own x)))

  outlines_natural : (xs : List (Element I)) → map outline_of (map (respell_element r) xs) ≡ map respell_outline (map outline_of xs)
  outlines_natural [] = refl
  outlines_natural (x ∷ xs) = rw (outline_natural x, outlines_natural xs) refl

  follows_natural : (c : Condition I) → follows_on (respell_condition r c) ≡ follows_on c
  follows_natural none = refl
  follows_natural (on x) = refl
  follows_natural (else_on x) = refl
  follows_natural otherwise = refl

  opens_natural : (c : Condition I) → opens_chain (respell_condition r c) ≡ opens_chain c
  opens_natural none = refl
  opens_natural (on x) = refl
  opens_natural (else_on x) = refl
  opens_natural otherwise = refl

  conditional_natural : (c : Condition I) → is_conditional (respell_condition r c) ≡ is_conditional c
  conditional_natural none = refl
  conditional_natural (on x) = refl
  conditional_natural (else_on x) = refl
  conditional_natural otherwise = refl

  sound_natural : (opened : Bool) (xs : List (Outline I)) → is_rest_sound opened (map respell_outline xs) ≡ is_rest_sound opened xs
  sound_natural opened [] = refl
  sound_natural opened (x ∷ xs) = rw (follows_natural x.condition, opens_natural x.condition, sound_natural opened xs, sound_natural (opens_chain x.condition) xs) refl

  body_at : (list last : ForestOf I) (b : Bool) → cond b (elements false (respell_forest r list) ++ elements true (respell_forest r last)) [] ≡ map (respell_element r) (cond b (elements false list ++ elements true last) [])
  body_at list last true = rw (elements_natural r false list, elements_natural r true last) (sym (map-append (respell_element r) (elements false list) (elements true last)))
  body_at list last false = refl

  body_list_natural : (body last : ForestOf I) → body_list (respell_forest r body) (respell_forest r last) ≡ map (respell_element r) (body_list body last)
  body_list_natural end last = refl
  body_list_natural (tree a x end) last = refl
  body_list_natural (tree a x (tree s list rest)) last = rw (statements_natural r s) (body_at list last (is_statements s))

  size_natural : (c : ForestOf I) → size (respell_forest r c) ≡ size c
  size_natural end = refl
  size_natural (tree l c o) = ap suc (size_natural o)

  body_size_natural : (c : ForestOf I) → body_size (respell_forest r c) ≡ body_size c
  body_size_natural (tree a x (tree b (tree c own (tree s items rest)) others)) = size_natural items
  body_size_natural c = refl

  plain_natural : (l : LabelOf I) → is_plain (respell_label r l) ≡ is_plain l
  plain_natural (at k s e) = refl
  plain_natural (kind present) = refl
  plain_natural (kind compound_statement) = refl
  plain_natural (kind k) = refl
  plain_natural l = refl

  module _ (G : Choice J) where
    abbrev back : Choice I
    back = λ i. G (r i)

    value_natural : (f : Form I) → value_under G (respell_form r f) ≡ value_under back f
    value_natural always = refl
    value_natural never = refl
    value_natural (flag i c) = refl
    value_natural (templated i c) = refl
    value_natural (within p f) = value_natural f
    value_natural (negation p f) = ap not (value_natural f)
    value_natural (conjunction p f q g) = rw (value_natural f, value_natural g) refl
    value_natural (disjunction p f q g) = rw (value_natural f, value_natural g) refl
    value_natural (other l c) = refl

    true_natural : (c : Condition I) → is_true G (respell_condition r c) ≡ is_true back c
    true_natural none = refl
    true_natural (on x) = value_natural x.form
    true_natural (else_on x) = value_natural x.form
    true_natural otherwise = refl

    verdicts_natural : (whole free : Bool) (xs : List (Outline I)) → verdicts G whole free (map respell_outline xs) ≡ verdicts back whole free xs
    verdicts_natural whole free [] = refl
    verdicts_natural whole free (x ∷ xs) =
        let left = cond (follows_on x.condition) free true in
        rw (follows_natural x.condition, opens_natural x.condition, conditional_natural x.condition, sound_natural (opens_chain x.condition) xs, true_natural x.condition)
        (rw (verdicts_natural whole free xs, verdicts_natural true free xs, verdicts_natural false (left && not (is_true back x.condition)) xs) refl)

    numbers_natural : (vs : List Verdict) (n : ℕ) (xs : List (Element I)) → numbers_of G vs (numbered_from n (map (respell_element r) xs)) ≡ numbers_of back vs (numbered_from n xs)
    numbers_natural [] n xs = refl
    numbers_natural (v ∷ vs) n [] = refl
    numbers_natural (goes ∷ vs) n (x ∷ xs) = numbers_natural vs (suc n) xs
    numbers_natural (stays ∷ vs) n (x ∷ xs) = ap (λ ns. n ∷ ns) (numbers_natural vs (suc n) xs)
    numbers_natural (picked ∷ vs) n (x ∷ xs) = ap (λ ns. n ∷ ns) (numbers_natural vs (suc n) xs)

    indexes_natural : (xs : List (Element I)) → kept_indexes G (map (respell_element r) xs) ≡ kept_indexes back xs
    indexes_natural xs =
        kept_are G (map (respell_element r) xs)
        ∙ ap (λ os. numbers_of G (verdicts G true true os) (numbered_from 0 (map (respell_element r) xs))) (outlines_natural xs)
        ∙ ap (λ vs. numbers_of G vs (numbered_from 0 (map (respell_element r) xs))) (verdicts_natural true true (map outline_of xs))
        ∙ numbers_natural (verdicts back true true (map outline_of xs)) 0 xs
        ∙ sym (kept_are back xs)

    list_kept : (c : ForestOf I) → kept_indexes G (elements false (respell_forest r c)) ≡ kept_indexes back (elements false c)
    list_kept c = ap (kept_indexes G) (elements_natural r false c) ∙ indexes_natural (elements false c)

    closed_at : (body last : ForestOf I) (e : Bool) → cond e (body_list (respell_forest r body) (respell_forest r last)) [] ≡ map (respell_element r) (cond e (body_list body last) [])
    closed_at body last true = body_list_natural body last
    closed_at body last false = refl

    closed_list_natural : (c : ForestOf I) → closed_list (respell_forest r c) ≡ map (respell_element r) (closed_list c)
    closed_list_natural end = refl
    closed_list_natural (tree a x end) = refl
    closed_list_natural (tree a x (tree b body end)) = refl
    closed_list_natural (tree a x (tree b body (tree o last others))) = rw (compound_natural r b, option_natural r o) (closed_at body last (is_compound b && is_option o))

    closed_kept : (c : ForestOf I) → kept_indexes G (closed_list (respell_forest r c)) ≡ kept_indexes back (closed_list c)
    closed_kept c = ap (kept_indexes G) (closed_list_natural c) ∙ indexes_natural (closed_list c)

    keeps_natural : (held : Option (List ℕ)) (l : LabelOf I) (c : ForestOf I) (i : ℕ) → keeps_child G held (respell_label r l) (respell_forest r c) i ≡ keeps_child back held l c i
    keeps_natural None l c i = rw (list_natural r l, closed_natural r l, list_kept c, closed_kept c, body_size_natural c) refl
    keeps_natural (Some ks) l c i = rw (statements_natural r l, list_natural r l, closed_natural r l, list_kept c, closed_kept c, body_size_natural c) refl

    handed_natural : (held : Option (List ℕ)) (l : LabelOf I) (c : ForestOf I) (i : ℕ)
        → handed (respell_label r l) (kept_indexes G (closed_list (respell_forest r c))) held i ≡ handed l (kept_indexes back (closed_list c)) held i
    handed_natural held l c i = rw (closed_natural r l, compound_natural r l, closed_kept c) refl

    at_natural : (held : Option (List ℕ)) (n : ℕ) (p : List ℕ) (f : ForestOf I) → kept_at G held n p (respell_forest r f) ≡ kept_at back held n p f
    at_natural held n p end = refl
    at_natural held (suc n) p (tree l c o) = at_natural held n p o
    at_natural held zero [] (tree l c o) = refl
    at_natural held zero (i ∷ p) (tree l c o) =
        rw (entered_natural r l, plain_natural l, keeps_natural held l c i, handed_natural held l c i)
        (rw (at_natural None zero (i ∷ p) c, at_natural (handed l (kept_indexes back (closed_list c)) held i) i p c) refl)

-- what a choice keeps of a module is told by the numbers of its identifiers
pub kept_spelled : (flags : List Text) (k : ℕ) (p : List ℕ) (u : UnitView) → kept_in (choice_of flags k) p (spelled u) ≡ kept_in (choice_by u.names flags k) p (trees_of u)
kept_spelled flags k [] u = refl
kept_spelled flags k (n ∷ p) u = at_natural (name_in u.names) (choice_of flags k) None n p (forest_of_unit (trees_of u))

pub spelled_found : (look : Lookup) (r : Result Choices AllocError) (p : List ℕ) (u : UnitView) → look.names.now ≡ u.names → IfOk r (IsFound look (λ choice. kept_in choice p (trees_of u)))
    → IfOk r (IsSetOf (length look.flags.now) (λ k. kept_in (choice_of (texts look.flags.now) k) p (spelled u)))
spelled_found look (Ok c) p u e h = λ k b. h.set k b ∙ ap (λ names. kept_in (choice_by names (texts look.flags.now) k) p (trees_of u)) e ∙ sym (kept_spelled (texts look.flags.now) k p u)
spelled_found look (Err x) p u e h = h
