-- Lists of which a beginning was judged.
use Rattle.std.proofs.Common.{◌≡◌, ℕ, zero, suc, Bool, true, false, cond, List, [], ◌∷◌, ◌++◌, map, take, drop, length, get_or, ◌≤◌, ◌<◌, ◌+◌, Ok, Err, refl, sym, ap, ◌∙◌, subst, append_assoc, append-nil, arith}
use Rattle.std.specs.List.{flat_map}
use Rattle.std.proofs.lemmas.List.{drop_more, map_more}
use Rattle.wesl_cond_chains.specs.Chains.{Judged, residual_after}
use Rattle.wesl_cond_chains.specs.Faults.{conditions}
use Rattle.wesl_cond_chains.specs.Places.{Place, condition_places, list_places}
use Rattle.wesl_cond_chains.specs.Judging.{ListBegins}
use Rattle.wesl_cond_chains.specs.Lists.{Element, elements}
use Rattle.wesl_cond_chains.specs.Nodes.{as_element, attributes_forest, condition_of_attribute}
use Rattle.wesl_cond_chains.specs.Following.{IsTurn, Ends}
use Rattle.wesl_cond_chains.proofs.Places.{formulas_next}
use Rattle.wesl_cond_chains.proofs.Refused.{refuses_before}
use Rattle.wesl_cond_chains.proofs.Taken.{elements_as}
use Rattle.wesl_cond_features.specs.Answers.{Answers}
use Rattle.wesl_cond_chains.specs.Evaluation.{Refuses}
use Rattle.wesl_cond_features.specs.Features.{Replies}
use Rattle.wesl_tree_names.specs.Path.{Text}
use Rattle.wesl_tree_names.specs.declared.errors.Diagnostic.{Diagnostic}
use Rattle.wesl_tree_syntax.specs.Tree.{Tree, before, end, forest_of}
use Rattle.wesl_tree_syntax.specs.declared.attribute.Attribute.{Attribute}
use Rattle.wesl_tree_syntax.specs.declared.span.Spanned.{Spanned}

pub none_left : {A : Type 0} (xs : List A) (i : ℕ) → length xs ≤ i → drop i xs ≡ []
none_left [] zero h = refl
none_left [] (suc i) h = refl
none_left (x ∷ xs) zero h = absurd (omega arith)
none_left (x ∷ xs) (suc i) h = none_left xs i (omega arith)

pub all_taken : {A : Type 0} (xs : List A) (i : ℕ) → length xs ≤ i → take i xs ≡ xs
all_taken [] zero h = refl
all_taken [] (suc i) h = refl
all_taken (x ∷ xs) zero h = absurd (omega arith)
all_taken (x ∷ xs) (suc i) h = ap (λ r. x ∷ r) (all_taken xs i (omega arith))

-- Formulas of attributes.
module _ (reply : Replies ℕ) where
  abbrev pub formulas : List (Spanned Attribute) → List (Place ℕ)
  formulas xs = flat_map (condition_places reply) (conditions (attributes_forest xs))

  formulas_here : (xs : List (Spanned Attribute)) (i : ℕ) (a : Spanned Attribute) → i < length xs → a ≡ get_or xs i a → formulas xs ≡ formulas (drop i xs)
      → formulas xs ≡ condition_places reply (condition_of_attribute a.node) ++ formulas (drop (i + 1) xs)
  formulas_here xs i a lt is so_far =
      so_far ∙ ap formulas (drop_more xs i a lt) ∙ ap (λ b. formulas (b ∷ drop (i + 1) xs)) (sym is)
      ∙ formulas_next reply (condition_of_attribute a.node) (conditions (attributes_forest (drop (i + 1) xs)))

  pub formulas_more : (xs : List (Spanned Attribute)) (i : ℕ) (a : Spanned Attribute) → i < length xs → a ≡ get_or xs i a → formulas xs ≡ formulas (drop i xs)
      → condition_places reply (condition_of_attribute a.node) ≡ [] → formulas xs ≡ formulas (drop (i + 1) xs)
  formulas_more xs i a lt is so_far none = formulas_here xs i a lt is so_far ∙ ap (λ fs. fs ++ formulas (drop (i + 1) xs)) none

  pub formulas_refused : (names : List Text) (xs : List (Spanned Attribute)) (i : ℕ) (a : Spanned Attribute) (e : Diagnostic) → i < length xs → a ≡ get_or xs i a → formulas xs ≡ formulas (drop i xs)
      → Refuses names (condition_places reply (condition_of_attribute a.node)) e → Refuses names (formulas xs) e
  formulas_refused names xs i a e lt is so_far told =
      subst (λ fs. Refuses names fs e) (sym (formulas_here xs i a lt is so_far)) (refuses_before names e (condition_places reply (condition_of_attribute a.node)) (formulas (drop (i + 1) xs)) told)

  pub formulas_end : (xs : List (Spanned Attribute)) (i : ℕ) → length xs ≤ i → formulas xs ≡ formulas (drop i xs) → formulas xs ≡ []
  formulas_end xs i le so_far = so_far ∙ ap formulas (none_left xs i le)

  -- Nodes of a list.
  module _ {A : Type 0} (view : A → Tree) (names : List Text) where
    abbrev pub nodes_of : Bool → List A → List (Element ℕ)
    nodes_of closes xs = map (λ x. as_element closes (view x)) xs

    -- the faults of a list are those of its rest
    abbrev pub IsBegun : List A → ℕ → Bool → Type 0
    IsBegun xs i opened = (closes : Bool) (rest : List (Element ℕ)) → list_places reply false (nodes_of closes xs ++ rest) ≡ list_places reply opened (nodes_of closes (drop i xs) ++ rest)

    begun_here : (xs : List A) (i : ℕ) (opened : Bool) (x : A) → i < length xs → x ≡ get_or xs i x → IsBegun xs i opened → (closes : Bool) (rest : List (Element ℕ))
        → list_places reply false (nodes_of closes xs ++ rest) ≡ list_places reply opened (as_element closes (view x) ∷ (nodes_of closes (drop (i + 1) xs) ++ rest))
    begun_here xs i opened x lt is so_far closes rest =
        so_far closes rest
        ∙ ap (λ ys. list_places reply opened (nodes_of closes ys ++ rest)) (drop_more xs i x lt)
        ∙ ap (λ y. list_places reply opened (as_element closes (view y) ∷ (nodes_of closes (drop (i + 1) xs) ++ rest))) (sym is)

    pub begun_next : (xs : List A) (i : ℕ) (opened after : Bool) (x : A) → i < length xs → x ≡ get_or xs i x → IsBegun xs i opened
        → ((closes : Bool) → ListBegins names reply opened (as_element closes (view x) ∷ []) (Ok after)) → IsBegun xs (i + 1) after
    begun_next xs i opened after x lt is so_far begins = λ closes rest. begun_here xs i opened x lt is so_far closes rest ∙ begins closes (nodes_of closes (drop (i + 1) xs) ++ rest)

    pub begun_refused : (xs : List A) (i : ℕ) (opened : Bool) (x : A) (e : Diagnostic) → i < length xs → x ≡ get_or xs i x → IsBegun xs i opened
        → ((closes : Bool) → ListBegins names reply opened (as_element closes (view x) ∷ []) (Err e)) → (closes : Bool) → ListBegins names reply false (nodes_of closes xs) (Err e)
    begun_refused xs i opened x e lt is so_far begins = λ closes rest. subst (λ fs. Refuses names fs e) (sym (begun_here xs i opened x lt is so_far closes rest)) (begins closes (nodes_of closes (drop (i + 1) xs) ++ rest))

    pub begun_all : (xs : List A) (i : ℕ) (opened : Bool) → length xs ≤ i → IsBegun xs i opened → (closes : Bool) → ListBegins names reply false (nodes_of closes xs) (Ok opened)
    begun_all xs i opened le so_far = λ closes rest. so_far closes rest ∙ ap (λ ys. list_places reply opened (nodes_of closes ys ++ rest)) (none_left xs i le)

    -- A whole list.
    pub list_clear : (xs : List A) (after : Bool) → ListBegins names reply false (nodes_of false xs) (Ok after) → list_places reply false (elements false (forest_of (map view xs))) ≡ []
    list_clear xs after begins = ap (list_places reply false) (sym (elements_as false view xs) ∙ sym (append-nil (nodes_of false xs))) ∙ begins []

    pub list_told : (xs : List A) (e : Diagnostic) → ListBegins names reply false (nodes_of false xs) (Err e) → Refuses names (list_places reply false (elements false (forest_of (map view xs)))) e
    list_told xs e begins = subst (λ ys. Refuses names (list_places reply false ys) e) (append-nil (nodes_of false xs) ∙ elements_as false view xs) (begins [])

    -- A list with more nodes after it.
    pub both_told : (xs : List A) (e : Diagnostic) (more : List (Element ℕ)) → ListBegins names reply false (nodes_of false xs) (Err e) → Refuses names (list_places reply false (elements false (forest_of (map view xs)) ++ more)) e
    both_told xs e more begins = subst (λ ys. Refuses names (list_places reply false (ys ++ more)) e) (elements_as false view xs) (begins more)

    both_are : (xs : List A) (after : Bool) (more : List (Element ℕ)) → ListBegins names reply false (nodes_of false xs) (Ok after) → list_places reply false (elements false (forest_of (map view xs)) ++ more) ≡ list_places reply after more
    both_are xs after more begins = ap (λ ys. list_places reply false (ys ++ more)) (sym (elements_as false view xs)) ∙ begins more

    pub without_last : (xs : List A) (after : Bool) → ListBegins names reply false (nodes_of false xs) (Ok after) → list_places reply false (elements false (forest_of (map view xs)) ++ []) ≡ []
    without_last xs after begins = both_are xs after [] begins

    pub with_last : (xs : List A) (after end_open : Bool) (t : Tree) → ListBegins names reply false (nodes_of false xs) (Ok after) → ListBegins names reply after (as_element true t ∷ []) (Ok end_open)
        → list_places reply false (elements false (forest_of (map view xs)) ++ elements true (before t end)) ≡ []
    with_last xs after end_open t begins last = both_are xs after (as_element true t ∷ []) begins ∙ last []

    pub last_told : (xs : List A) (after : Bool) (t : Tree) (e : Diagnostic) → ListBegins names reply false (nodes_of false xs) (Ok after) → ListBegins names reply after (as_element true t ∷ []) (Err e)
        → Refuses names (list_places reply false (elements false (forest_of (map view xs)) ++ elements true (before t end))) e
    last_told xs after t e begins last = subst (λ fs. Refuses names fs e) (sym (both_are xs after (as_element true t ∷ []) begins)) (last [])

-- Turns that leave a list as it is.
module _ {I N : Type 0} (J : Judged I N) (known : Answers I) where
  joined : (b : Bool) (us : List N) (x : N) (rest : List N) → us ++ cond b (x ∷ rest) rest ≡ (us ++ cond b (x ∷ []) []) ++ rest
  joined true us x rest = sym (append_assoc us (x ∷ []) rest)
  joined false us x rest = ap (λ r. r ++ rest) (sym (append-nil us))

  ends_next : (k d : Bool) (ns : List N) (k' d' : Bool) (x : N) (k'' d'' b : Bool) → Ends J known k d ns k' d' → IsTurn J known k' d' x k'' d'' x b → Ends J known k d (ns ++ x ∷ []) k'' d''
  ends_next k d ns k' d' x k'' d'' b ends turn = λ rest.
      ap (residual_after J known k d) (append_assoc ns (x ∷ []) rest)
      ∙ ends (x ∷ rest)
      ∙ ap (λ r. residual_after J known k d ns ++ r) (turn rest)
      ∙ joined b (residual_after J known k d ns) x (residual_after J known k'' d'' rest)
      ∙ ap (λ r. r ++ residual_after J known k'' d'' rest) (sym (ends (x ∷ []) ∙ ap (λ r. residual_after J known k d ns ++ r) (turn [])))

  pub ends_more : {A : Type 0} (view : A → N) (xs : List A) (i : ℕ) (k d k' d' : Bool) (x : A) (k'' d'' b : Bool) → i < length xs → x ≡ get_or xs i x → Ends J known k d (map view (take i xs)) k' d' → IsTurn J known k' d' (view x) k'' d'' (view x) b
      → Ends J known k d (map view (take (i + 1) xs)) k'' d''
  ends_more view xs i k d k' d' x k'' d'' b lt is ends turn =
      subst (λ ns. Ends J known k d ns k'' d'') (sym (map_more view xs i x lt ∙ ap (λ y. map view (take i xs) ++ view y ∷ []) (sym is)))
      (ends_next k d (map view (take i xs)) k' d' (view x) k'' d'' b ends turn)
