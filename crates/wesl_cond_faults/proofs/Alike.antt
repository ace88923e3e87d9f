-- What is told of lists and trees is what refuses them, with spans.
use Rattle.std.proofs.Common.{◌≡◌, ◌⊎◌, ◌==◌, ◌&&◌, Bool, true, false, cond, List, [], ◌∷◌, ◌++◌, map, None, Some, inl, inr, refl, sym, ap, subst, ◌∙◌, append_assoc, if◌then◌else◌, Option}
use Rattle.std.specs.List.{flat_map}
use Rattle.wesl_cond_chains.specs.Chains.{staying}
use Rattle.wesl_cond_chains.specs.Conditions.{is_void}
use Rattle.wesl_cond_chains.specs.Faults.{StandsBy, here, inside, beside, conditions_of, list_at, place_faults}
use Rattle.wesl_cond_chains.specs.FormulaFaults.{Fault, IsAmong}
use Rattle.wesl_cond_chains.specs.Lists.{Element, element, holds_body, judged}
use Rattle.wesl_cond_chains.specs.Places.{Place, StandsAt, condition_places, found_at, list_places, opened_after, opened_through, span_of}
use Rattle.wesl_cond_faults.specs.Listed.{TellsWhatRefuses}
use Rattle.wesl_cond_faults.specs.Places.{IsToldAs, StandsTold, node_span, span_or, told_of_list, told_of_node}
use Rattle.wesl_cond_features.specs.Features.{Replies, known}
use Rattle.wesl_tree_base.specs.declared.span.Span.{Span}
use Rattle.wesl_tree_names.specs.Errors.{span_told}
use Rattle.wesl_tree_syntax.specs.Tree.{ForestOf}

told_by : (b : Bool) (own other : Span) → ((if b then None else Some own) ≡ None) ⊎ (own ≡ (if b then other else own))
told_by true own other = inl refl
told_by false own other = inr refl

told_or : (own other : Span) → (span_told own ≡ None) ⊎ (own ≡ span_or own other)
told_or own other = told_by ((own.start == 0) && (own.end == 0)) own other

module _ {I : Type 0} where
  -- lists of the same length, of which each tells the one in the same place
  abbrev pub AreToldAs : List (Place I) → List (Place I) → Type 0
  AreToldAs [] [] = Unit {0}
  AreToldAs [] (q ∷ qs) = ⊥
  AreToldAs (p ∷ ps) [] = ⊥
  AreToldAs (p ∷ ps) (q ∷ qs) = IsToldAs p q × AreToldAs ps qs

  themselves : (ps : List (Place I)) → AreToldAs ps ps
  themselves [] = tt
  themselves (p ∷ ps) = ((refl, inr refl), themselves ps)

  both : (ps qs ps' qs' : List (Place I)) → AreToldAs ps qs → AreToldAs ps' qs' → AreToldAs (ps ++ ps') (qs ++ qs')
  both [] [] ps' qs' h k = k
  both [] (q ∷ qs) ps' qs' h k = absurd h
  both (p ∷ ps) [] ps' qs' h k = absurd h
  both (p ∷ ps) (q ∷ qs) ps' qs' h k = (h.0, both ps qs ps' qs' h.1 k)

  found : (s t : Span) (fs : List (Fault I)) → (span_told s ≡ None) ⊎ (s ≡ t) → AreToldAs (map (found_at s) fs) (map (found_at t) fs)
  found s t [] e = tt
  found s t (f ∷ fs) e = ((refl, e), found s t fs e)

  unless : (v : Bool) (ps qs : List (Place I)) → AreToldAs ps qs → AreToldAs (cond v [] ps) (cond v [] qs)
  unless true ps qs h = tt
  unless false ps qs h = h

  none_as : (ps qs : List (Place I)) → AreToldAs ps qs → ps ≡ [] → qs ≡ []
  none_as [] [] h e = refl
  none_as [] (q ∷ qs) h e = absurd h
  none_as (p ∷ ps) qs h e = cc

  as_none : (ps qs : List (Place I)) → AreToldAs ps qs → qs ≡ [] → ps ≡ []
  as_none [] qs h e = refl
  as_none (p ∷ ps) [] h e = absurd h
  as_none (p ∷ ps) (q ∷ qs) h e = cc

  told_among : (p : Place I) (ps qs : List (Place I)) → AreToldAs ps qs → IsAmong p ps → (q : Place I) × IsAmong q qs × IsToldAs p q
  told_among p [] qs h k = absurd k
  told_among p (x ∷ ps) [] h k = absurd h
  told_among p (x ∷ ps) (y ∷ qs) h (inl e) = (y, inl refl, subst (λ r. IsToldAs r y) (sym e) h.0)
  told_among p (x ∷ ps) (y ∷ qs) h (inr k) =
      let r = told_among p ps qs h.1 k in
      (r.0, inr r.1, r.2)

  refused_among : (q : Place I) (ps qs : List (Place I)) → AreToldAs ps qs → IsAmong q qs → (p : Place I) × IsAmong p ps × IsToldAs p q
  refused_among q ps [] h k = absurd k
  refused_among q [] (y ∷ qs) h k = absurd h
  refused_among q (x ∷ ps) (y ∷ qs) h (inl e) = (x, inl refl, subst (IsToldAs x) (sym e) h.0)
  refused_among q (x ∷ ps) (y ∷ qs) h (inr k) =
      let r = refused_among q ps qs h.1 k in
      (r.0, inr r.1, r.2)

  module _ (reply : Replies I) where
    abbrev formulas : Element I → List (Place I)
    formulas x = flat_map (condition_places reply) (conditions_of x)

    node_as : (opened : Bool) (x : Element I) → AreToldAs (map (found_at (span_of x.label)) (place_faults opened (conditions_of x)) ++ formulas x) (map (found_at (node_span x)) (place_faults opened (conditions_of x)) ++ formulas x)
    node_as opened x =
        both _ _ (formulas x) (formulas x)
        (found (span_of x.label) (node_span x) (place_faults opened (conditions_of x)) (told_or (span_of x.label) _))
        (themselves (formulas x))

    pub list_as : (opened : Bool) (xs : List (Element I)) → AreToldAs (list_places reply opened xs) (told_of_list reply opened xs)
    list_as opened [] = tt
    list_as opened (x ∷ xs) = both _ _ _ _ (unless (is_void x.label x.children) _ _ (node_as opened x)) (list_as (opened_after opened x) xs)

    -- a list is told to have no fault exactly where it is refused for none
    pub clear_told : (opened : Bool) (xs : List (Element I)) → list_places reply opened xs ≡ [] → told_of_list reply opened xs ≡ []
    clear_told opened xs = none_as _ _ (list_as opened xs)

    pub clear_refused : (opened : Bool) (xs : List (Element I)) → told_of_list reply opened xs ≡ [] → list_places reply opened xs ≡ []
    clear_refused opened xs = as_none _ _ (list_as opened xs)

    -- a list in two parts
    pub told_joined : (opened : Bool) (xs ys : List (Element I)) → told_of_list reply opened (xs ++ ys) ≡ told_of_list reply opened xs ++ told_of_list reply (opened_through opened xs) ys
    told_joined opened [] ys = refl
    told_joined opened (x ∷ xs) ys =
        ap (λ r. told_of_node reply opened x ++ r) (told_joined (opened_after opened x) xs ys)
        ∙ sym (append_assoc (told_of_node reply opened x) (told_of_list reply (opened_after opened x) xs) (told_of_list reply (opened_through (opened_after opened x) xs) ys))

    pub stands_told : (held : Bool) (t : ForestOf I) (p : Place I) → StandsAt reply held t p → (q : Place I) × StandsTold reply held t q × IsToldAs p q
    stands_told held t p (here {l = l} {children = c} e h) =
        let k = told_among p _ _ (list_as false (list_at held l c)) h in
        (k.0, here e k.1, k.2)
    stands_told held t p (inside {l = l} {children = c} e n s) =
        let k = stands_told (holds_body held l) (judged (staying element (known reply)) held l c) p s in
        (k.0, inside e (clear_told false (list_at held l c) n) k.1, k.2)
    stands_told held t p (beside {others = o} s) =
        let k = stands_told held o p s in
        (k.0, beside k.1, k.2)

    pub stands_refused : (held : Bool) (t : ForestOf I) (q : Place I) → StandsTold reply held t q → (p : Place I) × StandsAt reply held t p × IsToldAs p q
    stands_refused held t q (here {l = l} {children = c} e h) =
        let k = refused_among q _ _ (list_as false (list_at held l c)) h in
        (k.0, here e k.1, k.2)
    stands_refused held t q (inside {l = l} {children = c} e n s) =
        let k = stands_refused (holds_body held l) (judged (staying element (known reply)) held l c) q s in
        (k.0, inside e (clear_refused false (list_at held l c) n) k.1, k.2)
    stands_refused held t q (beside {others = o} s) =
        let k = stands_refused held o q s in
        (k.0, beside k.1, k.2)

pub tells_what_refuses : TellsWhatRefuses
tells_what_refuses reply held t = (stands_told reply held t, stands_refused reply held t)
