-- The faults of formulas and of the attributes of nodes, told one after the other.
use Rattle.std.proofs.Common.{◌≡◌, ℕ, Bool, true, false, not, ◌&&◌, cond, List, [], ◌∷◌, ◌++◌, ◌⊎◌, map, take, drop, length, ◌≤◌, ◌<◌, ◌+◌, get_or, refl, sym, ap, ◌∙◌, subst, append_assoc, append-nil}
use Rattle.std.specs.List.{flat_map}
use Rattle.std.specs.Global.{Box}
use Rattle.std.proofs.lemmas.List.{drop_more, map_more}
use Rattle.wesl_cond_chains.proofs.Begun.{none_left, all_taken}
use Rattle.wesl_cond_chains.proofs.Places.{formulas_next, place_is}
use Rattle.wesl_cond_chains.proofs.Steps.{joined_places, places_in}
use Rattle.wesl_cond_chains.proofs.Taken.{elements_as}
use Rattle.wesl_cond_chains.specs.Chains.{follows_on}
use Rattle.wesl_cond_chains.specs.Conditions.{attributes_in, first_condition, is_void}
use Rattle.wesl_cond_chains.specs.Faults.{conditions, opens, place_faults}
use Rattle.wesl_cond_chains.specs.FormulaFaults.{Fault, duplicate_if, no_preceding_if}
use Rattle.wesl_cond_chains.specs.Formulas.{form}
use Rattle.wesl_cond_chains.specs.Lists.{Element, elements}
use Rattle.wesl_cond_chains.specs.Nodes.{as_element, attributes_forest, condition_of_attribute, is_several}
use Rattle.wesl_cond_features.specs.Features.{Replies}
use Rattle.wesl_cond_faults.proofs.Adding.{adds_none, adds_both, adds_same}
use Rattle.wesl_cond_chains.proofs.Placed.{through_joined}
use Rattle.wesl_cond_faults.proofs.Alike.{told_joined}
use Rattle.wesl_cond_chains.specs.Places.{Place, found_at, formula_places, condition_places, span_of, opened_after, opened_through}
use Rattle.wesl_cond_faults.specs.Places.{condition_spans, node_span, second_or_only, span_or, told_of_node, told_of_list}
use Rattle.wesl_cond_faults.specs.Telling.{AddsFaults}
use Rattle.wesl_cond_faults.specs.declared.told.Told.{Told}
use Rattle.wesl_tree_base.specs.declared.span.Span.{Span}
use Rattle.wesl_tree_names.specs.Path.{Text}
use Rattle.wesl_tree_syntax.specs.Tree.{Forest, Tree, before, end, forest_of}
use Rattle.wesl_tree_syntax.specs.View.{expression_view}
use Rattle.wesl_tree_syntax.specs.declared.attribute.Attribute.{Attribute}
use Rattle.wesl_tree_syntax.specs.declared.expression.BinaryOperator.{BinaryOperator}
use Rattle.wesl_tree_syntax.specs.declared.expression.BinaryOperator.TheVariants.{ShortCircuitAnd, ShortCircuitOr}
use Rattle.wesl_tree_syntax.specs.declared.expression.Expression.{Expression}
use Rattle.wesl_tree_syntax.specs.declared.expression.Expression.TheViews as made
use Rattle.wesl_tree_syntax.specs.declared.span.Spanned.{Spanned}

-- a node whose conditions stand where they may
pub place_none : (opened : Bool) (f : Forest) (several orphan : Bool) → several ≡ is_several (conditions f) → several ≡ false → orphan ≡ (not opened && follows_on (first_condition f)) → orphan ≡ false → place_faults opened (conditions f) ≡ []
place_none opened f several orphan is apart tells stands =
    place_is opened f
    ∙ ap (λ b. cond b (duplicate_if ∷ []) (cond {A = List (Fault ℕ)} (not opened && follows_on (first_condition f)) (no_preceding_if ∷ []) [])) (sym is ∙ apart)
    ∙ ap (λ b. cond b (no_preceding_if ∷ []) []) (sym tells ∙ stands)

module _ (names : List Text) (reply : Replies ℕ) where
  -- the operands of a connective
  pub adds_operands : (span : Span) (x : Expression) (o : BinaryOperator) (e d : Box (Spanned Expression)) (left right : Spanned Expression) (a b c : Told) → x ≡ made.Binary o e d → (o ≡ ShortCircuitAnd) ⊎ (o ≡ ShortCircuitOr)
      → left ≡ e.value → right ≡ d.value → AddsFaults names (places_in reply left) a b → AddsFaults names (places_in reply right) b c → AddsFaults names (formula_places reply span (form (expression_view x))) a c
  adds_operands span x o e d left right a b c is joins same also p q =
      adds_same names (places_in reply e.value ++ places_in reply d.value) (formula_places reply span (form (expression_view x))) a c
      (sym (ap (λ y. formula_places reply span (form (expression_view y))) is ∙ joined_places reply span o e d joins))
      (adds_both names (places_in reply e.value) (places_in reply d.value) a b c (subst (λ y. AddsFaults names (places_in reply y) a b) same p) (subst (λ y. AddsFaults names (places_in reply y) b c) also q))

  -- Formulas of attributes.
  abbrev pub formulas : List (Spanned Attribute) → List (Place ℕ)
  formulas xs = flat_map (condition_places reply) (conditions (attributes_forest xs))

  -- what is told of a beginning, so that the rest is still to be told
  abbrev pub AreBegun : List (Spanned Attribute) → Told → ℕ → Told → Type 0
  AreBegun xs a i b = (ps : List (Place ℕ)) × AddsFaults names ps a b × (formulas xs ≡ ps ++ formulas (drop i xs))

  pub formulas_start : (xs : List (Spanned Attribute)) (a : Told) → AreBegun xs a 0 a
  formulas_start xs a = ([], adds_none names a, refl)

  pub formulas_more : (xs : List (Spanned Attribute)) (i : ℕ) (x : Spanned Attribute) (a b c : Told) → i < length xs → x ≡ get_or xs i x → AreBegun xs a i b → AddsFaults names (condition_places reply (condition_of_attribute x.node)) b c → AreBegun xs a (i + 1) c
  formulas_more xs i x a b c lt is h k =
      let here = condition_places reply (condition_of_attribute x.node) in (
        h.0 ++ here,
        adds_both names h.0 here a b c h.1 k,
        h.2
            ∙ ap (λ ys. h.0 ++ formulas ys) (drop_more xs i x lt) ∙ ap (λ y. h.0 ++ formulas (y ∷ drop (i + 1) xs)) (sym is)
            ∙ ap (λ r. h.0 ++ r) (formulas_next reply (condition_of_attribute x.node) (conditions (attributes_forest (drop (i + 1) xs))))
            ∙ sym (append_assoc h.0 here (formulas (drop (i + 1) xs))),
      )

  pub formulas_end : (xs : List (Spanned Attribute)) (i : ℕ) (a b : Told) → length xs ≤ i → AreBegun xs a i b → AddsFaults names (formulas xs) a b
  formulas_end xs i a b le h = adds_same names h.0 (formulas xs) a b (sym (h.2 ∙ ap (λ ys. h.0 ++ formulas ys) (none_left xs i le) ∙ append-nil h.0)) h.1

  -- One node.
  module _ (opened : Bool) (t : Tree) where
    pub void_adds : (a : Told) → is_void t.label t.children ≡ true → (closes : Bool) → AddsFaults names (told_of_node reply opened (as_element closes t)) a a
    void_adds a e closes = rw e (adds_none names a)

    pub void_opened : is_void t.label t.children ≡ true → (closes : Bool) → opened ≡ opened_after opened (as_element closes t)
    void_opened e closes = rw e refl

    told_span : (own span : Span) (f : Forest) → own ≡ span_of t.label → span ≡ span_or own (second_or_only (condition_spans f)) → f ≡ attributes_in (before t end) → span ≡ node_span (as_element false t)
    told_span own span f at told is = told ∙ ap (λ o. span_or o (second_or_only (condition_spans f))) at ∙ ap (λ g. span_or (span_of t.label) (second_or_only (condition_spans g))) is

    pub node_adds : (own span : Span) (f : Forest) (a b c : Told) → is_void t.label t.children ≡ false → own ≡ span_of t.label → span ≡ span_or own (second_or_only (condition_spans f)) → f ≡ attributes_in (before t end) → AddsFaults names (map (found_at span) (place_faults opened (conditions f))) a b
        → AddsFaults names (flat_map (condition_places reply) (conditions f)) b c → (closes : Bool) → AddsFaults names (told_of_node reply opened (as_element closes t)) a c
    node_adds own span f a b c e at told is p q closes =
        rw e (
        subst (λ s. AddsFaults names (map (found_at s) (place_faults opened (conditions (attributes_in (before t end)))) ++ flat_map (condition_places reply) (conditions (attributes_in (before t end)))) a c) (told_span own span f at told is)
        (subst (λ g. AddsFaults names (map (found_at span) (place_faults opened (conditions g)) ++ flat_map (condition_places reply) (conditions g)) a c) is
        (adds_both names (map (found_at span) (place_faults opened (conditions f))) (flat_map (condition_places reply) (conditions f)) a b c p q)))

    pub node_opened : (f : Forest) (after : Bool) → is_void t.label t.children ≡ false → f ≡ attributes_in (before t end) → after ≡ opens (conditions f) → (closes : Bool) → after ≡ opened_after opened (as_element closes t)
    node_opened f after e is h closes = rw e (h ∙ ap (λ g. opens (conditions g)) is)

  -- The nodes of a list.
  module _ {A : Type 0} (view : A → Tree) (xs : List A) where
    abbrev pub nodes : List A → List (Element ℕ)
    nodes ys = map (λ x. as_element false (view x)) ys

    abbrev pub IsBegun : Told → ℕ → Bool → Told → Type 0
    IsBegun a i opened b = AddsFaults names (told_of_list reply false (nodes (take i xs))) a b × (opened ≡ opened_through false (nodes (take i xs)))

    pub begun_at_start : (a : Told) (opened : Bool) → opened ≡ false → IsBegun a 0 opened a
    begun_at_start a opened e = (adds_none names a, e)

    one_more : (i : ℕ) (x : A) → i < length xs → x ≡ get_or xs i x → nodes (take (i + 1) xs) ≡ nodes (take i xs) ++ as_element false (view x) ∷ []
    one_more i x lt is = map_more (λ y. as_element false (view y)) xs i x lt ∙ ap (λ y. nodes (take i xs) ++ as_element false (view y) ∷ []) (sym is)

    pub begun_next : (i : ℕ) (x : A) (opened after : Bool) (a b c : Told) → i < length xs → x ≡ get_or xs i x → IsBegun a i opened b → ((closes : Bool) → AddsFaults names (told_of_node reply opened (as_element closes (view x))) b c)
        → ((closes : Bool) → after ≡ opened_after opened (as_element closes (view x))) → IsBegun a (i + 1) after c
    begun_next i x opened after a b c lt is h told opens_on =
        let front = nodes (take i xs) in
        let e = as_element false (view x) in
        let o = opened_through false front in (
          adds_same names (told_of_list reply false front ++ told_of_node reply opened e) (told_of_list reply false (nodes (take (i + 1) xs))) a c
              (sym (ap (told_of_list reply false) (one_more i x lt is) ∙ told_joined reply false front (e ∷ []) ∙ ap (λ r. told_of_list reply false front ++ r) (append-nil (told_of_node reply o e)) ∙ ap (λ b. told_of_list reply false front ++ told_of_node reply b e) (sym h.1)))
              (adds_both names (told_of_list reply false front) (told_of_node reply opened e) a b c h.0 (told false)),
          opens_on false ∙ ap (λ b. opened_after b e) h.1 ∙ sym (ap (opened_through false) (one_more i x lt is) ∙ through_joined false front (e ∷ [])),
        )

    abbrev pub whole : List (Element ℕ)
    whole = elements false (forest_of (map view xs))

    all_nodes : (i : ℕ) → length xs ≤ i → nodes (take i xs) ≡ whole
    all_nodes i le = ap nodes (all_taken xs i le) ∙ elements_as false view xs

    pub begun_all : (i : ℕ) (opened : Bool) (a b : Told) → length xs ≤ i → IsBegun a i opened b → AddsFaults names (told_of_list reply false whole) a b
    begun_all i opened a b le h = adds_same names _ _ a b (ap (told_of_list reply false) (all_nodes i le)) h.0

    pub begun_opened : (i : ℕ) (opened : Bool) (a b : Told) → length xs ≤ i → IsBegun a i opened b → opened ≡ opened_through false whole
    begun_opened i opened a b le h = h.1 ∙ ap (opened_through false) (all_nodes i le)

    -- a list with what closes it
    pub with_last : (t : Tree) (opened : Bool) (a b c : Told) → AddsFaults names (told_of_list reply false whole) a b → opened ≡ opened_through false whole → AddsFaults names (told_of_node reply opened (as_element true t)) b c → AddsFaults names (told_of_list reply false (whole ++ elements true (before t end))) a c
    with_last t opened a b c p e q =
        let x = as_element true t in
        adds_same names (told_of_list reply false whole ++ told_of_node reply opened x) (told_of_list reply false (whole ++ x ∷ [])) a c
        (sym (told_joined reply false whole (x ∷ []) ∙ ap (λ r. told_of_list reply false whole ++ r) (append-nil (told_of_node reply (opened_through false whole) x)) ∙ ap (λ b. told_of_list reply false whole ++ told_of_node reply b x) (sym e)))
        (adds_both names (told_of_list reply false whole) (told_of_node reply opened x) a b c p q)

    pub without_last : (a b : Told) → AddsFaults names (told_of_list reply false whole) a b → AddsFaults names (told_of_list reply false (whole ++ [])) a b
    without_last a b p = adds_same names _ _ a b (ap (told_of_list reply false) (sym (append-nil whole))) p
