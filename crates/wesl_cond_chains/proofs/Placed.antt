-- Faults with their places, by the faults.
use Rattle.std.proofs.Common.{◌≡◌, Bool, true, false, cond, List, [], ◌∷◌, ◌++◌, map, refl, sym, ap, ◌∙◌, append_assoc}
use Rattle.std.specs.List.{flat_map}
use Rattle.std.proofs.lemmas.List.{map-append}
use Rattle.wesl_cond_chains.specs.Chains.{Condition, none, on, else_on, otherwise}
use Rattle.wesl_cond_chains.specs.Conditions.{is_void}
use Rattle.wesl_cond_chains.specs.Faults.{condition_faults, conditions_of, list_faults, opens, place_faults}
use Rattle.wesl_cond_chains.specs.FormulaFaults.{Fault, faults_if_refused, formula_faults}
use Rattle.wesl_cond_chains.specs.Formulas.{Form, always, never, flag, templated, within, negation, conjunction, disjunction, other}
use Rattle.wesl_cond_chains.specs.Lists.{Element}
use Rattle.wesl_cond_features.specs.Features.{Replies}
use Rattle.wesl_tree_base.specs.declared.span.Span.{Span}
use Rattle.wesl_cond_chains.specs.Places.{Place, found_at, formula_places, condition_places, span_of, node_places, opened_after, opened_through, list_places}

module _ {I : Type 0} where
  abbrev pub faults_of : List (Place I) → List (Fault I)
  faults_of ps = map (λ p. p.fault) ps

  found_faults : (span : Span) (fs : List (Fault I)) → faults_of (map (found_at span) fs) ≡ fs
  found_faults span [] = refl
  found_faults span (f ∷ fs) = ap (λ r. f ∷ r) (found_faults span fs)

  module _ (reply : Replies I) where
    formula_is : (span : Span) (f : Form I) → faults_of (formula_places reply span f) ≡ formula_faults reply f
    formula_is span always = refl
    formula_is span never = refl
    formula_is span (flag name c) = found_faults span (faults_if_refused (reply name) name)
    formula_is span (templated name c) = refl
    formula_is span (within p f) = formula_is p f
    formula_is span (negation p f) = formula_is p f
    formula_is span (conjunction p f q g) = map-append (λ x. x.fault) (formula_places reply p f) (formula_places reply q g) ∙ ap (λ r. r ++ faults_of (formula_places reply q g)) (formula_is p f) ∙ ap (λ r. formula_faults reply f ++ r) (formula_is q g)
    formula_is span (disjunction p f q g) = map-append (λ x. x.fault) (formula_places reply p f) (formula_places reply q g) ∙ ap (λ r. r ++ faults_of (formula_places reply q g)) (formula_is p f) ∙ ap (λ r. formula_faults reply f ++ r) (formula_is q g)
    formula_is span (other l c) = refl

    condition_is : (c : Condition I) → faults_of (condition_places reply c) ≡ condition_faults reply c
    condition_is none = refl
    condition_is (on x) = formula_is x.span x.form
    condition_is (else_on x) = formula_is x.span x.form
    condition_is otherwise = refl

    conditions_are : (cs : List (Condition I)) → faults_of (flat_map (condition_places reply) cs) ≡ flat_map (condition_faults reply) cs
    conditions_are [] = refl
    conditions_are (c ∷ cs) =
        map-append (λ x. x.fault) (condition_places reply c) (flat_map (condition_places reply) cs)
        ∙ ap (λ r. r ++ faults_of (flat_map (condition_places reply) cs)) (condition_is c)
        ∙ ap (λ r. condition_faults reply c ++ r) (conditions_are cs)

    abbrev of_node : Bool → Element I → List (Fault I)
    of_node opened x = place_faults opened (conditions_of x) ++ flat_map (condition_faults reply) (conditions_of x)

    node_is : (opened : Bool) (x : Element I) → faults_of (map (found_at (span_of x.label)) (place_faults opened (conditions_of x)) ++ flat_map (condition_places reply) (conditions_of x)) ≡ of_node opened x
    node_is opened x =
        map-append (λ p. p.fault) (map (found_at (span_of x.label)) (place_faults opened (conditions_of x))) (flat_map (condition_places reply) (conditions_of x))
        ∙ ap (λ r. r ++ faults_of (flat_map (condition_places reply) (conditions_of x))) (found_faults (span_of x.label) (place_faults opened (conditions_of x)))
        ∙ ap (λ r. place_faults opened (conditions_of x) ++ r) (conditions_are (conditions_of x))

    next_is : (v opened after : Bool) (here : List (Place I)) (fs : List (Fault I)) (rest : Bool → List (Place I)) (more : Bool → List (Fault I)) → faults_of here ≡ fs → ((b : Bool) → faults_of (rest b) ≡ more b)
        → faults_of (cond v [] here ++ rest (cond v opened after)) ≡ cond v (more opened) (fs ++ more after)
    next_is true opened after here fs rest more e d = d opened
    next_is false opened after here fs rest more e d = map-append (λ p. p.fault) here (rest after) ∙ ap (λ r. r ++ faults_of (rest after)) e ∙ ap (λ r. fs ++ r) (d after)

    pub list_is : (opened : Bool) (xs : List (Element I)) → faults_of (list_places reply opened xs) ≡ list_faults reply opened xs
    list_is opened [] = refl
    list_is opened (x ∷ xs) =
        next_is (is_void x.label x.children) opened (opens (conditions_of x)) (map (found_at (span_of x.label)) (place_faults opened (conditions_of x)) ++ flat_map (condition_places reply) (conditions_of x)) (of_node opened x)
        (λ b. list_places reply b xs) (λ b. list_faults reply b xs) (node_is opened x) (λ b. list_is b xs)

    none_of : (ps : List (Place I)) → faults_of ps ≡ [] → ps ≡ []
    none_of [] e = refl
    none_of (p ∷ ps) e = cc

    -- no fault, no place
    pub no_places : (opened : Bool) (xs : List (Element I)) → list_faults reply opened xs ≡ [] → list_places reply opened xs ≡ []
    no_places opened xs e = none_of (list_places reply opened xs) (list_is opened xs ∙ e)

    pub no_faults : (opened : Bool) (xs : List (Element I)) → list_places reply opened xs ≡ [] → list_faults reply opened xs ≡ []
    no_faults opened xs e = sym (list_is opened xs) ∙ ap faults_of e

    -- a list in two parts
    pub list_joined : (opened : Bool) (xs ys : List (Element I)) → list_places reply opened (xs ++ ys) ≡ list_places reply opened xs ++ list_places reply (opened_through opened xs) ys
    list_joined opened [] ys = refl
    list_joined opened (x ∷ xs) ys =
        ap (λ r. node_places reply opened x ++ r) (list_joined (opened_after opened x) xs ys)
        ∙ sym (append_assoc (node_places reply opened x) (list_places reply (opened_after opened x) xs) (list_places reply (opened_through (opened_after opened x) xs) ys))

  pub through_joined : (opened : Bool) (xs ys : List (Element I)) → opened_through opened (xs ++ ys) ≡ opened_through (opened_through opened xs) ys
  through_joined opened [] ys = refl
  through_joined opened (x ∷ xs) ys = through_joined (opened_after opened x) xs ys
