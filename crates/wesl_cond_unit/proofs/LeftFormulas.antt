-- What is left of a formula, of a condition and of a list without a fault has none under the same answers.
use Rattle.std.proofs.Common.{◌≡◌, ℕ, Bool, true, false, cond, List, [], ◌∷◌, ◌++◌, map, refl, sym, ap, ◌∙◌}
use Rattle.std.specs.List.{flat_map}
use Rattle.wesl_cond_features.specs.Answers.{Answers}
use Rattle.wesl_cond_features.specs.Features.{Replies, says, known, HoldsNoError}
use Rattle.wesl_cond_features.specs.declared.chain.Role.{Role}
use Rattle.wesl_cond_features.specs.declared.chain.Role.TheVariants.{Plain, If, Elif, Else}
use Rattle.wesl_cond_features.specs.declared.features.Feature.{Feature}
use Rattle.wesl_cond_features.specs.declared.features.Feature.TheVariants.{Enable, Disable, Keep, Error}
use Rattle.wesl_cond_features.specs.declared.features.Truth.{Truth}
use Rattle.wesl_cond_features.specs.declared.features.Truth.TheVariants.{Yes, No, Undecided}
use Rattle.wesl_cond_chains.specs.Chains.{Condition, none, on, else_on, otherwise, recast_condition, residual_list}
use Rattle.wesl_cond_chains.specs.Conditions.{is_void}
use Rattle.wesl_cond_chains.specs.Faults.{and_rest, condition_faults, conditions, conditions_of, opens, place_faults, list_faults}
use Rattle.wesl_cond_chains.specs.FormulaFaults.{Fault, faults_if_refused, formula_faults}
use Rattle.wesl_cond_chains.specs.FormulaResidual.{literal, flag_as, parenthesized, negated_as, both_as, either_as, residual}
use Rattle.wesl_cond_chains.specs.Formulas.{Form, Spot, always, never, flag, templated, within, negation, conjunction, disjunction, other}
use Rattle.wesl_cond_chains.specs.Lists.{Element, element}
use Rattle.wesl_cond_chains.proofs.Faultless.{none_before, none_after, none_in_both}
use Rattle.wesl_cond_chains.proofs.Kept.{Each, each_stays, each_left}
use Rattle.wesl_cond_chains.proofs.ListFaults.{list_left}
use Rattle.wesl_cond_chains.proofs.NodeLaws.{element_laws, recast_all, conditions_in_role}
use Rattle.wesl_cond_chains.proofs.Passing.{inside, attributes_through, void_inside}
use Rattle.wesl_cond_chains.proofs.TreeStages.{residual_tidy}
use Rattle.wesl_tree_syntax.specs.Tree.{ForestOf, end, tree}

module _ (reply : Replies ℕ) where
  abbrev K : Answers ℕ
  K = known reply

  -- Formulas.
  flag_left : (a : Feature) (name : ℕ) (c : ForestOf ℕ) → reply name ≡ a → faults_if_refused a name ≡ [] → formula_faults reply (flag_as (says a) name c) ≡ []
  flag_left Enable name c e h = refl
  flag_left Disable name c e h = refl
  flag_left Keep name c e h = ap (λ b. faults_if_refused b name) e
  flag_left Error name c e h = cc

  -- at a span
  parenthesized_left : (x : Spot ℕ) (f : Form ℕ) → formula_faults reply (parenthesized x.span f) ≡ formula_faults reply f
  parenthesized_left x always = refl
  parenthesized_left x never = refl
  parenthesized_left x (flag name c) = refl
  parenthesized_left x (templated name c) = refl
  parenthesized_left x (within q f) = refl
  parenthesized_left x (negation q f) = refl
  parenthesized_left x (conjunction q f r g) = refl
  parenthesized_left x (disjunction q f r g) = refl
  parenthesized_left x (other l c) = refl

  negated_left : (t : Truth) (x : Spot ℕ) → formula_faults reply x.form ≡ [] → formula_faults reply (negated_as t x.span x.form) ≡ []
  negated_left Yes x e = refl
  negated_left No x e = refl
  negated_left Undecided x e = e

  both_left : (t u : Truth) (x y : Spot ℕ) → formula_faults reply x.form ≡ [] → formula_faults reply y.form ≡ [] → formula_faults reply (both_as t u x.span x.form y.span y.form) ≡ []
  both_left No u x y e d = refl
  both_left Yes Yes x y e d = refl
  both_left Yes No x y e d = refl
  both_left Yes Undecided x y e d = d
  both_left Undecided Yes x y e d = e
  both_left Undecided No x y e d = refl
  both_left Undecided Undecided x y e d = none_in_both _ _ e d

  either_left : (t u : Truth) (x y : Spot ℕ) → formula_faults reply x.form ≡ [] → formula_faults reply y.form ≡ [] → formula_faults reply (either_as t u x.span x.form y.span y.form) ≡ []
  either_left Yes u x y e d = refl
  either_left No Yes x y e d = refl
  either_left No No x y e d = refl
  either_left No Undecided x y e d = d
  either_left Undecided Yes x y e d = refl
  either_left Undecided No x y e d = e
  either_left Undecided Undecided x y e d = none_in_both _ _ e d

  formula_left : (f : Form ℕ) → formula_faults reply f ≡ [] → formula_faults reply (residual K f) ≡ []
  formula_left always e = refl
  formula_left never e = refl
  formula_left (flag name c) e = flag_left (reply name) name c refl e
  formula_left (templated name c) e = cc
  formula_left (within p f) e = parenthesized_left (record { span = p; form = f }) (residual K f) ∙ formula_left f e
  formula_left (negation p f) e = negated_left (literal (residual K f)) (record { span = p; form = residual K f }) (formula_left f e)
  formula_left (conjunction p f q g) e =
      both_left (literal (residual K f)) (literal (residual K g)) (record { span = p; form = residual K f }) (record { span = q; form = residual K g })
      (formula_left f (none_before (formula_faults reply f) (formula_faults reply g) e)) (formula_left g (none_after (formula_faults reply f) (formula_faults reply g) e))
  formula_left (disjunction p f q g) e =
      either_left (literal (residual K f)) (literal (residual K g)) (record { span = p; form = residual K f }) (record { span = q; form = residual K g })
      (formula_left f (none_before (formula_faults reply f) (formula_faults reply g) e)) (formula_left g (none_after (formula_faults reply f) (formula_faults reply g) e))
  formula_left (other l c) e = cc

  -- Conditions.
  condition_left : (r : Role) (c : Condition ℕ) → condition_faults reply c ≡ [] → condition_faults reply (recast_condition K r c) ≡ []
  condition_left Plain c e = refl
  condition_left If none e = refl
  condition_left If (on x) e = formula_left x.form e
  condition_left If (else_on x) e = formula_left x.form e
  condition_left If otherwise e = refl
  condition_left Elif none e = refl
  condition_left Elif (on x) e = formula_left x.form e
  condition_left Elif (else_on x) e = formula_left x.form e
  condition_left Elif otherwise e = refl
  condition_left Else none e = refl
  condition_left Else (on x) e = refl
  condition_left Else (else_on x) e = refl
  condition_left Else otherwise e = refl

  abbrev formulas : List (Condition ℕ) → List (Fault ℕ)
  formulas = flat_map (condition_faults reply)

  formulas_next : (c : Condition ℕ) (cs : List (Condition ℕ)) → formulas (and_rest c cs) ≡ condition_faults reply c ++ formulas cs
  formulas_next none cs = refl
  formulas_next (on x) cs = refl
  formulas_next (else_on x) cs = refl
  formulas_next otherwise cs = refl

  conditions_left : (r : Role) (cs : List (Condition ℕ)) → formulas cs ≡ [] → formulas (recast_all K r cs) ≡ []
  conditions_left r [] e = refl
  conditions_left r (c ∷ cs) e =
      formulas_next (recast_condition K r c) (recast_all K r cs)
      ∙ none_in_both _ _ (condition_left r c (none_before (condition_faults reply c) (formulas cs) e)) (conditions_left r cs (none_after (condition_faults reply c) (formulas cs) e))

  -- Nodes whose formulas have no fault.
  abbrev Sound : Element ℕ → Type 0
  Sound x = is_void x.label x.children ≡ false → formulas (conditions_of x) ≡ []

  sound_in_role : (r : Role) (x : Element ℕ) → Sound x → Sound (element.in_role K r x)
  sound_in_role r x sound v =
      ap formulas (conditions_in_role K r (tree x.label x.children end)) ∙ conditions_left r (conditions_of x) (sound (sym (element_laws.void K r x) ∙ v))

  -- the faults of a list that begins with a node, a void or not
  abbrev first_faults : Replies ℕ → Bool → Element ℕ → List (Element ℕ) → Bool → List (Fault ℕ)
  first_faults answer opened x xs v =
      cond v (list_faults answer opened xs) (place_faults opened (conditions_of x) ++ flat_map (condition_faults answer) (conditions_of x) ++ list_faults answer (opens (conditions_of x)) xs)

  contrary : (b : Bool) → b ≡ true → b ≡ false → ⊥
  contrary b e d = cc

  sound_at : (v opened : Bool) (x : Element ℕ) (xs : List (Element ℕ)) → is_void x.label x.children ≡ v → ((o : Bool) → list_faults reply o xs ≡ [] → Each Sound xs) → first_faults reply opened x xs v ≡ [] → Each Sound (x ∷ xs)
  sound_at true opened x xs v ih e = ((λ d. absurd (contrary (is_void x.label x.children) v d)), ih opened e)
  sound_at false opened x xs v ih e =
      let cs = conditions_of x in
      let here = none_before (place_faults opened cs ++ formulas cs) (list_faults reply (opens cs) xs) e in
      ((λ d. none_after (place_faults opened cs) (formulas cs) here), ih (opens cs) (none_after (place_faults opened cs ++ formulas cs) (list_faults reply (opens cs) xs) e))

  each_sound : (opened : Bool) (xs : List (Element ℕ)) → list_faults reply opened xs ≡ [] → Each Sound xs
  each_sound opened [] e = tt
  each_sound opened (x ∷ xs) e =
      sound_at _ opened x xs refl (λ o. each_sound o xs) e

  -- Where each flag is kept, the faults of a list are those of its places and of what is no formula.
  abbrev kept : Replies ℕ
  kept = λ name. Keep

  kept_refuses_none : HoldsNoError kept
  kept_refuses_none name e = cc

  placed_at : (v opened : Bool) (x : Element ℕ) (xs : List (Element ℕ)) → is_void x.label x.children ≡ v → ((o : Bool) → list_faults kept o xs ≡ [] → list_faults reply o xs ≡ []) → Sound x → first_faults kept opened x xs v ≡ [] → first_faults reply opened x xs v ≡ []
  placed_at true opened x xs v ih sound e = ih opened e
  placed_at false opened x xs v ih sound e =
      let cs = conditions_of x in
      let ks = flat_map (condition_faults kept) cs in
      let here = none_before (place_faults opened cs ++ ks) (list_faults kept (opens cs) xs) e in
      none_in_both _ _ (none_in_both _ _ (none_before (place_faults opened cs) ks here) (sound v)) (ih (opens cs) (none_after (place_faults opened cs ++ ks) (list_faults kept (opens cs) xs) e))

  placed : (opened : Bool) (xs : List (Element ℕ)) → Each Sound xs → list_faults kept opened xs ≡ [] → list_faults reply opened xs ≡ []
  placed opened [] each e = refl
  placed opened (x ∷ xs) each e = placed_at _ opened x xs refl (λ o. placed o xs each.1) each.0 e

  -- Lists.
  abbrev left : List (Element ℕ) → List (Element ℕ)
  left = residual_list element K

  left_sound : (xs : List (Element ℕ)) → list_faults reply false xs ≡ [] → list_faults reply false (left xs) ≡ []
  left_sound xs e =
      placed false (left xs) (each_left Sound element K sound_in_role xs (each_stays Sound element K xs (each_sound false xs e))) (list_left reply kept kept_refuses_none xs e)

  -- faults of a list look at conditions alone
  faults_inside : (opened : Bool) (xs : List (Element ℕ)) → list_faults reply opened (map (inside left) xs) ≡ list_faults reply opened xs
  faults_inside opened [] = refl
  faults_inside opened (x ∷ xs) =
      let y = inside left x in
      let cs = conditions_of x in
      let same : conditions_of y ≡ cs = ap conditions (attributes_through left false (tree x.label x.children end)) in
      ap (first_faults reply opened y (map (inside left) xs)) (void_inside left x.label x.children)
      ∙ ap (λ ds. cond (is_void x.label x.children) (list_faults reply opened (map (inside left) xs)) (place_faults opened ds ++ formulas ds ++ list_faults reply (opens ds) (map (inside left) xs))) same
      ∙ ap (λ fs. cond (is_void x.label x.children) fs (place_faults opened cs ++ formulas cs ++ list_faults reply (opens cs) (map (inside left) xs))) (faults_inside opened xs)
      ∙ ap (λ fs. cond (is_void x.label x.children) (list_faults reply opened xs) (place_faults opened cs ++ formulas cs ++ fs)) (faults_inside (opens cs) xs)

  -- what is left of a list, judged inside
  pub list_left_inside : (xs : List (Element ℕ)) → list_faults reply false xs ≡ [] → list_faults reply false (left (map (inside left) xs)) ≡ []
  list_left_inside xs e = ap (list_faults reply false) ((residual_tidy K).natural left xs) ∙ faults_inside false (left xs) ∙ left_sound xs e
