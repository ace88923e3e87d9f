-- The faults of a list in a later stage, and in both stages at once.
use Rattle.std.proofs.Common.{◌≡◌, Bool, true, false, ◌&&◌, cond, List, [], ◌∷◌, ◌++◌, refl, sym, ap, ◌∙◌, subst}
use Rattle.std.specs.List.{flat_map}
use Rattle.wesl_cond_features.specs.declared.chain.Role.{Role}
use Rattle.wesl_cond_features.specs.declared.chain.Role.TheVariants.{Plain, If, Elif, Else}
use Rattle.wesl_cond_chains.specs.Chains.{Condition, none, on, else_on, otherwise, holds, follows_on, residual_list}
use Rattle.wesl_cond_chains.specs.Conditions.{condition_at, or_next, first_condition, attributes_in, is_void}
use Rattle.wesl_cond_chains.specs.Faults.{and_rest, condition_faults, conditions, conditions_of, opens, place_faults, list_faults}
use Rattle.wesl_cond_chains.specs.Lists.{Element, element}
use Rattle.wesl_cond_features.specs.Branch.{fate, kept_after, decided_after}
use Rattle.wesl_cond_chains.proofs.Walk.{enact, scan}
use Rattle.wesl_cond_chains.proofs.ChainTurns.{scan_is}
use Rattle.wesl_cond_chains.proofs.Faultless.{none_before, none_after, none_in_both, both_stages_faultless, residual-faultless}
use Rattle.wesl_cond_chains.proofs.NodeLaws.{element_laws, recast_all, conditions_in_role}
use Rattle.wesl_cond_features.specs.Answers.{Answers}
use Rattle.wesl_cond_chains.specs.FormulaFaults.{Fault, no_preceding_if, duplicate_if}
use Rattle.wesl_cond_features.specs.Features.{Replies, known, HoldsNoError, then_replies}
use Rattle.wesl_cond_chains.specs.Formulas.{Spot}
use Rattle.wesl_cond_chains.specs.FormulaResidual.{decided, residual}
use Rattle.wesl_cond_features.specs.declared.features.Truth.{Truth}
use Rattle.wesl_cond_features.specs.declared.features.Truth.TheVariants.{Yes, No, Undecided}
use Rattle.wesl_tree_syntax.specs.Tree.{ForestOf, end, tree}

module _ {I : Type 0} where
  cond_none : (v : Bool) (xs ys xs' ys' : List (Fault I)) → (xs ≡ [] → xs' ≡ []) → (ys ≡ [] → ys' ≡ []) → cond v xs ys ≡ [] → cond v xs' ys' ≡ []
  cond_none true xs ys xs' ys' f g e = f e
  cond_none false xs ys xs' ys' f g e = g e

  three_none : (ps fs rs ps' fs' rs' : List (Fault I)) → (ps ≡ [] → ps' ≡ []) → (fs ≡ [] → fs' ≡ []) → (rs ≡ [] → rs' ≡ []) → ps ++ fs ++ rs ≡ [] → ps' ++ fs' ++ rs' ≡ []
  three_none ps fs rs ps' fs' rs' p f r e =
      let here = none_before (ps ++ fs) rs e in
      none_in_both (ps' ++ fs') rs' (none_in_both ps' fs' (p (none_before ps fs here)) (f (none_after ps fs here))) (r (none_after (ps ++ fs) rs e))

  -- Both stages at once.
  module _ (first second : Replies I) (h : HoldsNoError second) where
    condition_in_both : (c : Condition I) → condition_faults first c ≡ [] → condition_faults (then_replies first second) c ≡ []
    condition_in_both none e = refl
    condition_in_both (on x) e = both_stages_faultless first second h x.form e
    condition_in_both (else_on x) e = both_stages_faultless first second h x.form e
    condition_in_both otherwise e = refl

    conditions_in_both : (cs : List (Condition I)) → flat_map (condition_faults first) cs ≡ [] → flat_map (condition_faults (then_replies first second)) cs ≡ []
    conditions_in_both [] e = refl
    conditions_in_both (c ∷ cs) e =
        none_in_both (condition_faults (then_replies first second) c) (flat_map (condition_faults (then_replies first second)) cs)
        (condition_in_both c (none_before (condition_faults first c) (flat_map (condition_faults first) cs) e))
        (conditions_in_both cs (none_after (condition_faults first c) (flat_map (condition_faults first) cs) e))

    pub list_in_both : (opened : Bool) (xs : List (Element I)) → list_faults first opened xs ≡ [] → list_faults (then_replies first second) opened xs ≡ []
    list_in_both opened [] e = refl
    list_in_both opened (x ∷ xs) e =
        cond_none (is_void x.label x.children) (list_faults first opened xs) _ (list_faults (then_replies first second) opened xs) _ (list_in_both opened xs)
        (three_none (place_faults opened (conditions_of x)) (flat_map (condition_faults first) (conditions_of x)) (list_faults first (opens (conditions_of x)) xs) _ _ _
        (λ p. p) (conditions_in_both (conditions_of x)) (list_in_both (opens (conditions_of x)) xs)) e

  -- The first condition of several.
  abbrev front : List (Condition I) → Condition I
  front [] = none
  front (c ∷ cs) = c

  front_next : (c : Condition I) (cs : List (Condition I)) → or_next c (front cs) ≡ front (and_rest c cs)
  front_next none cs = refl
  front_next (on x) cs = refl
  front_next (else_on x) cs = refl
  front_next otherwise cs = refl

  first_is : (al : ForestOf I) → first_condition al ≡ front (conditions al)
  first_is end = refl
  first_is (tree l a o) = ap (or_next (condition_at a)) (first_is o) ∙ front_next (condition_at a) (conditions o)

  -- A later stage: what a first one leaves of a list.
  module _ (first second : Replies I) (h : HoldsNoError second) where
    abbrev K : Answers I
    K = known first

    -- where a branch of an open chain stays and none was true, the chain is open in what is left
    abbrev Fits : Bool → Bool → Bool → Bool → Type 0
    Fits opened kept decided opened' = opened ≡ true → kept ≡ true → decided ≡ false → opened' ≡ true

    abbrev Later : List (Element I) → Type 0
    Later xs = (opened kept decided opened' : Bool) → Fits opened kept decided opened' → list_faults first opened xs ≡ [] → list_faults second opened' (scan element K kept decided xs) ≡ []

    -- a node in a role
    in_role_faults : (r : Role) (x : Element I) (cs : List (Condition I)) (opened' : Bool) (rest : List (Element I)) → is_void x.label x.children ≡ false → conditions_of x ≡ cs
        → list_faults second opened' (element.in_role K r x ∷ rest) ≡ place_faults opened' (recast_all K r cs) ++ flat_map (condition_faults second) (recast_all K r cs) ++ list_faults second (opens (recast_all K r cs)) rest
    in_role_faults r x cs opened' rest v e =
        let y = element.in_role K r x in
        let is : conditions_of y ≡ recast_all K r cs = conditions_in_role K r (tree x.label x.children end) ∙ ap (recast_all K r) e in
        ap (λ b. cond b (list_faults second opened' rest) (place_faults opened' (conditions_of y) ++ flat_map (condition_faults second) (conditions_of y) ++ list_faults second (opens (conditions_of y)) rest)) (element_laws.void K r x ∙ v)
        ∙ ap (λ ds. place_faults opened' ds ++ flat_map (condition_faults second) ds ++ list_faults second (opens ds) rest) is

    not_true : (b : Bool) → b ≡ true → b ≡ false → ⊥
    not_true b e d = cc

    closed_before : (kept decided opened' : Bool) → Fits false kept decided opened'
    closed_before kept decided opened' o k d = absurd (not_true false o refl)

    nothing_kept : (opened decided opened' : Bool) → Fits opened false decided opened'
    nothing_kept opened decided opened' o k d = absurd (not_true false k refl)

    decided_before : (opened kept opened' : Bool) → Fits opened kept true opened'
    decided_before opened kept opened' o k d = absurd (not_true true refl d)

    open_after : (opened kept decided : Bool) → Fits opened kept decided true
    open_after opened kept decided o k d = refl

    formula_later : (x : Spot I) → condition_faults first (on x) ++ [] ≡ [] → condition_faults second (on (record { span = x.span; form = residual K x.form })) ++ [] ≡ []
    formula_later x e = ap (λ fs. fs ++ []) (residual-faultless second h first x.form (none_before (condition_faults first (on x)) [] e))

    -- what is left of a node and of the nodes after it
    abbrev taken : Element I → List (Element I) → Bool → Bool → Condition I → List (Element I)
    taken x xs kept decided c = enact element K (fate (follows_on c && kept) (follows_on c && decided) (holds K c)) x (scan element K (kept_after (follows_on c && kept) (follows_on c && decided) (holds K c)) (decided_after (follows_on c && decided) (holds K c)) xs)

    abbrev turned : Element I → List (Element I) → Bool → Bool → Truth → List (Element I)
    turned x xs kept decided t = enact element K (fate kept decided t) x (scan element K (kept_after kept decided t) (decided_after decided t) xs)

    plain_left : (x : Element I) (xs : List (Element I)) (opened opened' : Bool) (cs : List (Condition I)) → is_void x.label x.children ≡ false → conditions_of x ≡ cs → recast_all K Plain cs ≡ [] → Later xs
        → list_faults first opened xs ≡ [] → list_faults second opened' (element.in_role K Plain x ∷ scan element K true true xs) ≡ []
    plain_left x xs opened opened' cs v e gone ih rest =
        in_role_faults Plain x cs opened' (scan element K true true xs) v e
        ∙ ap (λ ds. place_faults opened' ds ++ flat_map (condition_faults second) ds ++ list_faults second (opens ds) (scan element K true true xs)) gone
        ∙ ih opened true true false (decided_before opened true false) rest

    if_left : (x : Element I) (xs : List (Element I)) (opened' : Bool) (t : Truth) (s : Spot I) → decided K s.form ≡ t → is_void x.label x.children ≡ false → conditions_of x ≡ on s ∷ [] → Later xs → condition_faults first (on s) ++ [] ≡ []
        → list_faults first true xs ≡ [] → list_faults second opened' (turned x xs false false t) ≡ []
    if_left x xs opened' Yes s is v e ih f rest = plain_left x xs true opened' (on s ∷ []) v e refl ih rest
    if_left x xs opened' No s is v e ih f rest = ih true false false opened' (nothing_kept true false opened') rest
    if_left x xs opened' Undecided s is v e ih f rest =
        in_role_faults If x (on s ∷ []) opened' (scan element K true false xs) v e
        ∙ none_in_both _ _ (formula_later s f) (ih true true false true (open_after true true false) rest)

    elif_left : (x : Element I) (xs : List (Element I)) (kept decided opened' : Bool) (t : Truth) (s : Spot I) → Fits true kept decided opened' → is_void x.label x.children ≡ false → conditions_of x ≡ else_on s ∷ [] → Later xs → condition_faults first (on s) ++ [] ≡ []
        → list_faults first true xs ≡ [] → list_faults second opened' (turned x xs kept decided t) ≡ []
    elif_left x xs kept true opened' t s fits v e ih f rest = ih true kept true opened' (decided_before true kept opened') rest
    elif_left x xs kept false opened' No s fits v e ih f rest = ih true kept false opened' fits rest
    elif_left x xs false false opened' Yes s fits v e ih f rest = plain_left x xs true opened' (else_on s ∷ []) v e refl ih rest
    elif_left x xs false false opened' Undecided s fits v e ih f rest =
        in_role_faults If x (else_on s ∷ []) opened' (scan element K true false xs) v e
        ∙ none_in_both _ _ (formula_later s f) (ih true true false true (open_after true true false) rest)
    elif_left x xs true false opened' Yes s fits v e ih f rest =
        in_role_faults Else x (else_on s ∷ []) opened' (scan element K true true xs) v e
        ∙ ap (λ b. cond b [] (no_preceding_if ∷ []) ++ [] ++ list_faults second false (scan element K true true xs)) (fits refl refl refl)
        ∙ ih true true true false (decided_before true true false) rest
    elif_left x xs true false opened' Undecided s fits v e ih f rest =
        in_role_faults Elif x (else_on s ∷ []) opened' (scan element K true false xs) v e
        ∙ none_in_both _ _ (none_in_both _ _ (ap (λ b. cond b [] (no_preceding_if ∷ [])) (fits refl refl refl)) (formula_later s f)) (ih true true false true (open_after true true false) rest)

    else_left : (x : Element I) (xs : List (Element I)) (kept decided opened' : Bool) → Fits true kept decided opened' → is_void x.label x.children ≡ false → conditions_of x ≡ otherwise ∷ [] → Later xs
        → list_faults first false xs ≡ [] → list_faults second opened' (turned x xs kept decided Yes) ≡ []
    else_left x xs kept true opened' fits v e ih rest = ih false kept true opened' (closed_before kept true opened') rest
    else_left x xs false false opened' fits v e ih rest = plain_left x xs false opened' (otherwise ∷ []) v e refl ih rest
    else_left x xs true false opened' fits v e ih rest =
        in_role_faults Else x (otherwise ∷ []) opened' (scan element K true true xs) v e
        ∙ ap (λ b. cond b [] (no_preceding_if ∷ []) ++ [] ++ list_faults second false (scan element K true true xs)) (fits refl refl refl)
        ∙ ih false true true false (closed_before true true false) rest

    must_be_open : (opened : Bool) → cond {A = List (Fault I)} opened [] (no_preceding_if ∷ []) ≡ [] → opened ≡ true
    must_be_open true e = refl
    must_be_open false e = cc

    something : (f : Fault I) (fs : List (Fault I)) → f ∷ fs ≡ [] → ⊥
    something f fs e = cc

    two_conditions : (opened : Bool) (c d : Condition I) (cs : List (Condition I)) → place_faults opened (c ∷ d ∷ cs) ≡ duplicate_if ∷ []
    two_conditions opened none d cs = refl
    two_conditions opened (on x) d cs = refl
    two_conditions opened (else_on x) d cs = refl
    two_conditions opened otherwise d cs = refl

    -- one node, by its conditions
    node_left : (x : Element I) (xs : List (Element I)) (opened kept decided opened' : Bool) (cs : List (Condition I)) → Fits opened kept decided opened' → is_void x.label x.children ≡ false → conditions_of x ≡ cs → Later xs
        → place_faults opened cs ≡ [] → flat_map (condition_faults first) cs ≡ [] → list_faults first (opens cs) xs ≡ [] → list_faults second opened' (taken x xs kept decided (front cs)) ≡ []
    node_left x xs opened kept decided opened' [] fits v e ih p f rest = plain_left x xs false opened' [] v e refl ih rest
    node_left x xs opened kept decided opened' (none ∷ []) fits v e ih p f rest = plain_left x xs false opened' (none ∷ []) v e refl ih rest
    node_left x xs opened kept decided opened' (on s ∷ []) fits v e ih p f rest = if_left x xs opened' _ s refl v e ih f rest
    node_left x xs opened kept decided opened' (else_on s ∷ []) fits v e ih p f rest =
        elif_left x xs kept decided opened' _ s (subst (λ o. Fits o kept decided opened') (must_be_open opened p) fits) v e ih f rest
    node_left x xs opened kept decided opened' (otherwise ∷ []) fits v e ih p f rest =
        else_left x xs kept decided opened' (subst (λ o. Fits o kept decided opened') (must_be_open opened p) fits) v e ih rest
    node_left x xs opened kept decided opened' (c ∷ d ∷ cs) fits v e ih p f rest = absurd (something duplicate_if [] (sym (two_conditions opened c d cs) ∙ p))

    later_at : (v : Bool) (x : Element I) (xs : List (Element I)) → is_void x.label x.children ≡ v → Later xs → Later (x ∷ xs)
    later_at true x xs v ih opened kept decided opened' fits e =
        ap (λ b. list_faults second opened' (cond b (scan element K kept decided xs) (taken x xs kept decided (element.condition_of x)))) v
        ∙ ih opened kept decided opened' fits (subst (λ b. cond b (list_faults first opened xs) (place_faults opened (conditions_of x) ++ flat_map (condition_faults first) (conditions_of x) ++ list_faults first (opens (conditions_of x)) xs) ≡ []) v e)
    later_at false x xs v ih opened kept decided opened' fits e =
        let cs = conditions_of x in
        let all : place_faults opened cs ++ flat_map (condition_faults first) cs ++ list_faults first (opens cs) xs ≡ [] =
        subst (λ b. cond b (list_faults first opened xs) (place_faults opened cs ++ flat_map (condition_faults first) cs ++ list_faults first (opens cs) xs) ≡ []) v e in
        let here = none_before (place_faults opened cs ++ flat_map (condition_faults first) cs) (list_faults first (opens cs) xs) all in
        ap (λ b. list_faults second opened' (cond b (scan element K kept decided xs) (taken x xs kept decided (element.condition_of x)))) v
        ∙ ap (λ c. list_faults second opened' (taken x xs kept decided c)) (first_is (attributes_in (tree x.label x.children end)))
        ∙ node_left x xs opened kept decided opened' cs fits v refl ih (none_before (place_faults opened cs) (flat_map (condition_faults first) cs) here)
        (none_after (place_faults opened cs) (flat_map (condition_faults first) cs) here) (none_after (place_faults opened cs ++ flat_map (condition_faults first) cs) (list_faults first (opens cs) xs) all)

    later : (xs : List (Element I)) → Later xs
    later [] = λ opened kept decided opened' fits e. refl
    later (x ∷ xs) = later_at _ x xs refl (later xs)

    pub list_left : (xs : List (Element I)) → list_faults first false xs ≡ [] → list_faults second false (residual_list element K xs) ≡ []
    list_left xs e = ap (list_faults second false) (sym (scan_is element K xs)) ∙ later xs false false false false (closed_before false false false) e
