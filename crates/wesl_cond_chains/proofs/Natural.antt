-- Identifiers replaced: what is left of a module with other identifiers is what is left of it, with those.
use Rattle.std.proofs.Common.{◌≡◌, Bool, true, false, ◌&&◌, cond, not, List, [], ◌∷◌, ◌++◌, map, Option, Some, None, refl, sym, ap, ◌∙◌}
use Rattle.std.proofs.lemmas.List.{map-append}
use Rattle.wesl_cond_features.specs.declared.chain.Role.{Role}
use Rattle.wesl_cond_features.specs.declared.chain.Role.TheVariants.{Plain, If, Elif, Else}
use Rattle.wesl_cond_chains.specs.Chains.{Condition, none, on, else_on, otherwise, residual_spot, recast_condition, holds, follows_on, residual_list}
use Rattle.wesl_cond_chains.specs.Conditions.{first_of, first_spot, condition_at, or_next, first_condition, attribute_of, replaced, recast, is_statements, is_list, attributes_in, with_attributes, is_void}
use Rattle.wesl_cond_chains.specs.Lists.{Element, element, elements, goes_back, back, is_closed, is_compound, is_option, option_of, is_entered, holds_body, alone, closed_body, closed, judged, through}
use Rattle.wesl_cond_features.specs.Branch.{fate, kept_after, decided_after}
use Rattle.wesl_cond_chains.proofs.Walk.{enact, scan}
use Rattle.wesl_cond_chains.proofs.ChainTurns.{scan_is}
use Rattle.wesl_cond_chains.proofs.Spots.{below_first, by_reading}
use Rattle.wesl_cond_features.specs.Answers.{Answers}
use Rattle.wesl_cond_chains.specs.Formulas.{Form, Spot, always, never, flag, templated, within, negation, conjunction, disjunction, other, nowhere, type_name, has_arguments, named_as, reading, spots, spot, written}
use Rattle.wesl_cond_chains.specs.FormulaResidual.{literal, flag_as, parenthesized, negated_as, both_as, either_as, residual, decided}
use Rattle.wesl_cond_features.specs.declared.features.Truth.{Truth}
use Rattle.wesl_cond_features.specs.declared.features.Truth.TheVariants.{Yes, No, Undecided}
use Rattle.wesl_tree_base.specs.declared.span.Span.{Span}
use Rattle.wesl_tree_syntax.specs.Nodes.{is_attributes}
use Rattle.wesl_tree_syntax.specs.Tree.{LabelOf, ForestOf, end, tree, kind, at, ident, truth, unary, binary, respell_label, respell_forest, respell, statement_node, declaration_node, literal as literal_kind, parenthesized as parenthesized_kind, type_or_identifier, present, if_attribute, elif_attribute, else_attribute, void}
use Rattle.wesl_tree_syntax.specs.Unit.{begins_void}
use Rattle.wesl_tree_syntax.specs.declared.expression.UnaryOperator.TheVariants.{LogicalNegation}
use Rattle.wesl_tree_syntax.specs.declared.expression.BinaryOperator.TheVariants.{ShortCircuitAnd, ShortCircuitOr}

module _ {I J : Type 0} (r : I → J) where
  abbrev pub respell_form : Form I → Form J
  respell_form always = always
  respell_form never = never
  respell_form (flag i c) = flag (r i) (respell_forest r c)
  respell_form (templated i c) = templated (r i) (respell_forest r c)
  respell_form (within p f) = within nowhere (respell_form f)
  respell_form (negation p f) = negation nowhere (respell_form f)
  respell_form (conjunction p f q g) = conjunction nowhere (respell_form f) nowhere (respell_form g)
  respell_form (disjunction p f q g) = disjunction nowhere (respell_form f) nowhere (respell_form g)
  respell_form (other l c) = other (respell_label r l) (respell_forest r c)

  abbrev pub respell_spot : Spot I → Spot J
  respell_spot x = record { span = nowhere; form = respell_form x.form }

  abbrev respell_option : Option I → Option J
  respell_option None = None
  respell_option (Some i) = Some (r i)

  type_name_natural : (c : ForestOf I) → type_name (respell_forest r c) ≡ respell_option (type_name c)
  type_name_natural (tree t (tree p path (tree (ident s i) below arguments)) others) = refl
  type_name_natural c = refl

  has_arguments_natural : (c : ForestOf I) → has_arguments (respell_forest r c) ≡ has_arguments c
  has_arguments_natural (tree t (tree p path (tree i below (tree (kind present) list rest))) others) = refl
  has_arguments_natural c = refl

  named_natural : (o : Option I) (b : Bool) (c : ForestOf I) → named_as (respell_option o) b (respell_forest r c) ≡ respell_form (named_as o b c)
  named_natural None b c = refl
  named_natural (Some i) true c = refl
  named_natural (Some i) false c = refl

  reading_natural : (l : LabelOf I) (c : ForestOf I) (xs : List (Spot I)) → reading (respell_label r l) (respell_forest r c) (map respell_spot xs) ≡ respell_form (reading l c xs)
  reading_natural (kind literal_kind) (tree (truth true) end end) xs = refl
  reading_natural (kind literal_kind) (tree (truth false) end end) xs = refl
  reading_natural (kind parenthesized_kind) c (x ∷ []) = refl
  reading_natural (kind type_or_identifier) c xs = rw (type_name_natural c, has_arguments_natural c) (named_natural (type_name c) (has_arguments c) c)
  reading_natural (unary LogicalNegation) c (x ∷ []) = refl
  reading_natural (binary ShortCircuitAnd) c (x ∷ y ∷ []) = refl
  reading_natural (binary ShortCircuitOr) c (x ∷ y ∷ []) = refl
  reading_natural l c xs = refl

  spot_natural : (l : LabelOf I) (c others : ForestOf I) (xs : List (Spot J)) (ys : List (Spot J)) → xs ≡ map respell_spot (spots c) → ys ≡ map respell_spot (spots others)
      → (record { span = nowhere; form = reading (respell_label r l) (respell_forest r c) xs } ∷ ys) ≡ respell_spot (record { span = nowhere; form = reading l c (spots c) }) ∷ map respell_spot (spots others)
  spot_natural l c others xs ys e d =
      ap (λ zs. record { span = nowhere; form = reading (respell_label r l) (respell_forest r c) zs } ∷ ys) e
      ∙ ap (λ f. record { span = nowhere; form = f } ∷ ys) (reading_natural l c (spots c))
      ∙ ap (λ zs. respell_spot (record { span = nowhere; form = reading l c (spots c) }) ∷ zs) d

  abbrev SpotsNatural : ForestOf I → Type 0
  SpotsNatural c = spots (respell_forest r c) ≡ map respell_spot (spots c)

  spots_natural_beside : (l : LabelOf I) (c : ForestOf I) → SpotsNatural c → SpotsNatural (below_first c) → (others : ForestOf I) → SpotsNatural others → SpotsNatural (tree l c others)
  spots_natural_beside = by_reading r (λ l c. SpotsNatural c → SpotsNatural (below_first c) → (others : ForestOf I) → SpotsNatural others → SpotsNatural (tree l c others))
      (λ s e l c own inner others rest. spot_natural l c others (spots (respell_forest r c)) (spots (respell_forest r others)) inner rest)
      (λ l c plain respelled own inner others rest.
      respelled (respell_forest r others) ∙ spot_natural l c others (spots (respell_forest r c)) (spots (respell_forest r others)) own rest ∙ ap (map respell_spot) (sym (plain others)))

  -- and of the trees below the first
  spots_natural_below : (c : ForestOf I) → SpotsNatural c × SpotsNatural (below_first c)
  spots_natural_below end = (refl, refl)
  spots_natural_below (tree l c others) = let own = spots_natural_below c in (spots_natural_beside l c own.0 own.1 others (spots_natural_below others).0, own.0)

  pub spots_natural : (c : ForestOf I) → SpotsNatural c
  spots_natural c = (spots_natural_below c).0

  written_natural : (f : Form I) → respell r (written f) ≡ written (respell_form f)
  written_natural always = refl
  written_natural never = refl
  written_natural (flag i c) = refl
  written_natural (templated i c) = refl
  written_natural (within p f) = ap (λ t. record { label = kind parenthesized_kind; children = spot nowhere t end }) (written_natural f)
  written_natural (negation p f) = ap (λ t. record { label = unary LogicalNegation; children = spot nowhere t end }) (written_natural f)
  written_natural (conjunction p f q g) =
      ap (λ t. record { label = binary ShortCircuitAnd; children = spot nowhere t (spot nowhere (respell r (written g)) end) }) (written_natural f)
      ∙ ap (λ t. record { label = binary ShortCircuitAnd; children = spot nowhere (written (respell_form f)) (spot nowhere t end) }) (written_natural g)
  written_natural (disjunction p f q g) =
      ap (λ t. record { label = binary ShortCircuitOr; children = spot nowhere t (spot nowhere (respell r (written g)) end) }) (written_natural f)
      ∙ ap (λ t. record { label = binary ShortCircuitOr; children = spot nowhere (written (respell_form f)) (spot nowhere t end) }) (written_natural g)
  written_natural (other l c) = refl

  literal_natural : (f : Form I) → literal (respell_form f) ≡ literal f
  literal_natural always = refl
  literal_natural never = refl
  literal_natural (flag i c) = refl
  literal_natural (templated i c) = refl
  literal_natural (within p f) = refl
  literal_natural (negation p f) = refl
  literal_natural (conjunction p f q g) = refl
  literal_natural (disjunction p f q g) = refl
  literal_natural (other l c) = refl

  flag_natural : (t : Truth) (i : I) (c : ForestOf I) → flag_as t (r i) (respell_forest r c) ≡ respell_form (flag_as t i c)
  flag_natural Yes i c = refl
  flag_natural No i c = refl
  flag_natural Undecided i c = refl

  parenthesized_natural : (p : Span) (f : Form I) → parenthesized nowhere (respell_form f) ≡ respell_form (parenthesized p f)
  parenthesized_natural p always = refl
  parenthesized_natural p never = refl
  parenthesized_natural p (flag i c) = refl
  parenthesized_natural p (templated i c) = refl
  parenthesized_natural p (within q f) = refl
  parenthesized_natural p (negation q f) = refl
  parenthesized_natural p (conjunction q f s g) = refl
  parenthesized_natural p (disjunction q f s g) = refl
  parenthesized_natural p (other l c) = refl

  negated_natural : (t : Truth) (p : Span) (f : Form I) → negated_as t nowhere (respell_form f) ≡ respell_form (negated_as t p f)
  negated_natural Yes p f = refl
  negated_natural No p f = refl
  negated_natural Undecided p f = refl

  both_natural : (t u : Truth) (p : Span) (f : Form I) (q : Span) (g : Form I) → both_as t u nowhere (respell_form f) nowhere (respell_form g) ≡ respell_form (both_as t u p f q g)
  both_natural No u p f q g = refl
  both_natural Yes Yes p f q g = refl
  both_natural Yes No p f q g = refl
  both_natural Yes Undecided p f q g = refl
  both_natural Undecided Yes p f q g = refl
  both_natural Undecided No p f q g = refl
  both_natural Undecided Undecided p f q g = refl

  either_natural : (t u : Truth) (p : Span) (f : Form I) (q : Span) (g : Form I) → either_as t u nowhere (respell_form f) nowhere (respell_form g) ≡ respell_form (either_as t u p f q g)
  either_natural Yes u p f q g = refl
  either_natural No Yes p f q g = refl
  either_natural No No p f q g = refl
  either_natural No Undecided p f q g = refl
  either_natural Undecided Yes p f q g = refl
  either_natural Undecided No p f q g = refl
  either_natural Undecided Undecided p f q g = refl

  abbrev pub respell_condition : Condition I → Condition J
  respell_condition none = none
  respell_condition (on x) = on (respell_spot x)
  respell_condition (else_on x) = else_on (respell_spot x)
  respell_condition otherwise = otherwise

  abbrev pub respell_element : Element I → Element J
  respell_element x = record { closes = x.closes; label = respell_label r x.label; children = respell_forest r x.children }

  -- Tests of labels.
  pub attributes_natural : (l : LabelOf I) → is_attributes (respell_label r l) ≡ is_attributes l
  attributes_natural (kind k) = refl
  attributes_natural l = refl

  pub list_natural : (l : LabelOf I) → is_list (respell_label r l) ≡ is_list l
  list_natural (kind k) = refl
  list_natural l = refl

  pub statements_natural : (l : LabelOf I) → is_statements (respell_label r l) ≡ is_statements l
  statements_natural (kind k) = refl
  statements_natural l = refl

  pub closed_natural : (l : LabelOf I) → is_closed (respell_label r l) ≡ is_closed l
  closed_natural (kind k) = refl
  closed_natural l = refl

  pub compound_natural : (l : LabelOf I) → is_compound (respell_label r l) ≡ is_compound l
  compound_natural (kind k) = refl
  compound_natural l = refl

  pub option_natural : (l : LabelOf I) → is_option (respell_label r l) ≡ is_option l
  option_natural (kind k) = refl
  option_natural l = refl

  pub entered_natural : (l : LabelOf I) → is_entered (respell_label r l) ≡ is_entered l
  entered_natural (kind k) = refl
  entered_natural (at declaration_node s e) = refl
  entered_natural (at statement_node s e) = refl
  entered_natural l = refl

  begins_natural : (c : ForestOf I) → begins_void (respell_forest r c) ≡ begins_void c
  begins_natural end = refl
  begins_natural (tree (kind void) c o) = refl
  begins_natural (tree l c o) = refl

  pub void_natural : (l : LabelOf I) (c : ForestOf I) → is_void (respell_label r l) (respell_forest r c) ≡ is_void l c
  void_natural (at k s e) c = begins_natural c
  void_natural l c = refl

  pub cond_natural : {X Y : Type 0} (f : X → Y) (b b' : Bool) (x x' : X) (y y' : Y) → b' ≡ b → y ≡ f x → y' ≡ f x' → cond b' y y' ≡ f (cond b x x')
  cond_natural f true b' x x' y y' e d g = rw e d
  cond_natural f false b' x x' y y' e d g = rw e g

  pub attributes_in_natural : (t : ForestOf I) → attributes_in (respell_forest r t) ≡ respell_forest r (attributes_in t)
  attributes_in_natural end = refl
  attributes_in_natural (tree l c o) =
      cond_natural (respell_forest r) (is_attributes l) (is_attributes (respell_label r l)) c (cond (is_list l) end (attributes_in c)) _ _ (attributes_natural l) refl
      (cond_natural (respell_forest r) (is_list l) (is_list (respell_label r l)) end (attributes_in c) _ _ (list_natural l) refl (attributes_in_natural c))

  with_natural : (change : ForestOf I → ForestOf I) (change' : ForestOf J → ForestOf J) → ((t : ForestOf I) → change' (respell_forest r t) ≡ respell_forest r (change t))
      → (t : ForestOf I) → with_attributes change' (respell_forest r t) ≡ respell_forest r (with_attributes change t)
  with_natural change change' h end = refl
  with_natural change change' h (tree l c o) = ap (λ x. tree (respell_label r l) x (respell_forest r o))
      (cond_natural (respell_forest r) (is_attributes l) (is_attributes (respell_label r l)) (change c) (cond (is_list l) c (with_attributes change c)) _ _ (attributes_natural l) (h c)
      (cond_natural (respell_forest r) (is_list l) (is_list (respell_label r l)) c (with_attributes change c) _ _ (list_natural l) refl (with_natural change change' h c)))

  pub elements_natural : (b : Bool) (c : ForestOf I) → elements b (respell_forest r c) ≡ map respell_element (elements b c)
  elements_natural b end = refl
  elements_natural b (tree l c o) = ap (λ xs. record { closes = b; label = respell_label r l; children = respell_forest r c } ∷ xs) (elements_natural b o)

  back_natural : (b : Bool) (xs : List (Element I)) → back b (map respell_element xs) ≡ respell_forest r (back b xs)
  back_natural b [] = refl
  back_natural b (x ∷ xs) = cond_natural (respell_forest r) (goes_back b x.closes) (goes_back b x.closes) (tree x.label x.children (back b xs)) (back b xs) _ _ refl (ap (tree (respell_label r x.label) (respell_forest r x.children)) (back_natural b xs)) (back_natural b xs)

  option_of_natural : (w others : ForestOf I) → option_of (respell_forest r w) (respell_forest r others) ≡ respell_forest r (option_of w others)
  option_of_natural end others = refl
  option_of_natural (tree l c o) others = refl

  first_of_natural : (xs : List (Spot I)) → first_of (map respell_spot xs) ≡ respell_spot (first_of xs)
  first_of_natural [] = refl
  first_of_natural (x ∷ xs) = refl

  first_natural : (c : ForestOf I) → first_spot (respell_forest r c) ≡ respell_spot (first_spot c)
  first_natural c = ap first_of (spots_natural c) ∙ first_of_natural (spots c)

  pub condition_natural : (a : ForestOf I) → condition_at (respell_forest r a) ≡ respell_condition (condition_at a)
  condition_natural (tree (kind if_attribute) operand others) = ap on (first_natural operand)
  condition_natural (tree (kind elif_attribute) operand others) = ap else_on (first_natural operand)
  condition_natural (tree (kind else_attribute) operand others) = refl
  condition_natural a = refl

  or_next_natural : (c d : Condition I) → or_next (respell_condition c) (respell_condition d) ≡ respell_condition (or_next c d)
  or_next_natural none d = refl
  or_next_natural (on x) d = refl
  or_next_natural (else_on x) d = refl
  or_next_natural otherwise d = refl

  or_next_equal : (c c' d d' : Condition J) → c ≡ c' → d ≡ d' → or_next c d ≡ or_next c' d'
  or_next_equal c c' d d' e h = ap (λ x. or_next x d) e ∙ ap (or_next c') h

  first_condition_natural : (al : ForestOf I) → first_condition (respell_forest r al) ≡ respell_condition (first_condition al)
  first_condition_natural end = refl
  first_condition_natural (tree l a o) = or_next_equal _ _ _ _ (condition_natural a) (first_condition_natural o) ∙ or_next_natural (condition_at a) (first_condition o)

  attribute_natural : (c : Condition I) → attribute_of (respell_condition c) ≡ respell_forest r (attribute_of c)
  attribute_natural none = refl
  attribute_natural (on x) = ap (λ t. tree (kind if_attribute) (spot nowhere t end) end) (sym (written_natural x.form))
  attribute_natural (else_on x) = ap (λ t. tree (kind elif_attribute) (spot nowhere t end) end) (sym (written_natural x.form))
  attribute_natural otherwise = refl

  over_natural : (l : LabelOf I) (o : ForestOf I) (d : Condition I) → tree (respell_label r l) (attribute_of (respell_condition d)) (respell_forest r o) ≡ respell_forest r (tree l (attribute_of d) o)
  over_natural l o d = ap (λ a. tree (respell_label r l) a (respell_forest r o)) (attribute_natural d)

  replaced_natural : (l : LabelOf I) (a : ForestOf I) (c d : Condition I) (o : ForestOf I) → replaced (respell_label r l) (respell_forest r a) (respell_condition c) (respell_condition d) (respell_forest r o) ≡ respell_forest r (replaced l a c d o)
  replaced_natural l a none d o = refl
  replaced_natural l a (on x) none o = refl
  replaced_natural l a (on x) (on y) o = over_natural l o (on y)
  replaced_natural l a (on x) (else_on y) o = over_natural l o (else_on y)
  replaced_natural l a (on x) otherwise o = over_natural l o otherwise
  replaced_natural l a (else_on x) none o = refl
  replaced_natural l a (else_on x) (on y) o = over_natural l o (on y)
  replaced_natural l a (else_on x) (else_on y) o = over_natural l o (else_on y)
  replaced_natural l a (else_on x) otherwise o = over_natural l o otherwise
  replaced_natural l a otherwise none o = refl
  replaced_natural l a otherwise (on y) o = over_natural l o (on y)
  replaced_natural l a otherwise (else_on y) o = over_natural l o (else_on y)
  replaced_natural l a otherwise otherwise o = over_natural l o otherwise

  -- Lists judged in the one way and in the other.
  module _ (P : List (Element I) → List (Element I)) (Q : List (Element J) → List (Element J)) (natural : (xs : List (Element I)) → Q (map respell_element xs) ≡ map respell_element (P xs)) where
    alone_natural : (c : ForestOf I) → alone Q (respell_forest r c) ≡ respell_forest r (alone P c)
    alone_natural c =
        ap (λ xs. back false (Q xs)) (elements_natural false c)
        ∙ ap (back false) (natural (elements false c))
        ∙ back_natural false (P (elements false c))

    both_elements : (c d : ForestOf I) → Q (elements false (respell_forest r c) ++ elements true (respell_forest r d)) ≡ map respell_element (P (elements false c ++ elements true d))
    both_elements c d =
        ap (λ xs. Q (xs ++ elements true (respell_forest r d))) (elements_natural false c)
        ∙ ap (λ xs. Q (map respell_element (elements false c) ++ xs)) (elements_natural true d)
        ∙ ap Q (sym (map-append respell_element (elements false c) (elements true d)))
        ∙ natural (elements false c ++ elements true d)

    abbrev rebuilt : {K : Type 0} → LabelOf K → LabelOf K → ForestOf K → LabelOf K → ForestOf K → ForestOf K → List (Element K) → ForestOf K
    rebuilt b a x s rest others kept = tree b (tree a x (tree s (back false kept) rest)) (option_of (back true kept) others)

    rebuilt_natural : (b a : LabelOf I) (x : ForestOf I) (s : LabelOf I) (rest others : ForestOf I) (kept : List (Element I))
        → rebuilt (respell_label r b) (respell_label r a) (respell_forest r x) (respell_label r s) (respell_forest r rest) (respell_forest r others) (map respell_element kept) ≡ respell_forest r (rebuilt b a x s rest others kept)
    rebuilt_natural b a x s rest others kept =
        ap (λ f. tree (respell_label r b) (tree (respell_label r a) (respell_forest r x) (tree (respell_label r s) f (respell_forest r rest))) (option_of (back true (map respell_element kept)) (respell_forest r others))) (back_natural false kept)
        ∙ ap (λ f. tree (respell_label r b) (tree (respell_label r a) (respell_forest r x) (tree (respell_label r s) (respell_forest r (back false kept)) (respell_forest r rest))) (option_of f (respell_forest r others))) (back_natural true kept)
        ∙ ap (tree (respell_label r b) (tree (respell_label r a) (respell_forest r x) (tree (respell_label r s) (respell_forest r (back false kept)) (respell_forest r rest)))) (option_of_natural (back true kept) others)

    body_natural : (b : LabelOf I) (body : ForestOf I) (o : LabelOf I) (last others : ForestOf I)
        → closed_body Q (respell_label r b) (respell_forest r body) (respell_label r o) (respell_forest r last) (respell_forest r others) ≡ respell_forest r (closed_body P b body o last others)
    body_natural b end o last others = refl
    body_natural b (tree a x end) o last others = refl
    body_natural b (tree a x (tree s list rest)) o last others =
        cond_natural (respell_forest r) (is_statements s) (is_statements (respell_label r s))
        (rebuilt b a x s rest others (P (elements false list ++ elements true last))) (tree b (tree a x (tree s list rest)) (tree o last others)) _ _ (statements_natural s)
        (ap (rebuilt (respell_label r b) (respell_label r a) (respell_forest r x) (respell_label r s) (respell_forest r rest) (respell_forest r others)) (both_elements list last) ∙ rebuilt_natural b a x s rest others (P (elements false list ++ elements true last)))
        refl

    and_equal : (a a' b b' : Bool) → a ≡ a' → b ≡ b' → (a && b) ≡ (a' && b')
    and_equal a a' b b' e d = ap (λ x. x && b) e ∙ ap (λ x. a' && x) d

    closed_parts_natural : (c : ForestOf I) → closed Q (respell_forest r c) ≡ respell_forest r (closed P c)
    closed_parts_natural end = refl
    closed_parts_natural (tree a x end) = refl
    closed_parts_natural (tree a x (tree b body end)) = refl
    closed_parts_natural (tree a x (tree b body (tree o last others))) = ap (tree (respell_label r a) (respell_forest r x))
        (cond_natural (respell_forest r) (is_compound b && is_option o) (is_compound (respell_label r b) && is_option (respell_label r o)) (closed_body P b body o last others) (tree b body (tree o last others)) _ _
        (and_equal _ _ _ _ (compound_natural b) (option_natural o)) (body_natural b body o last others) refl)

    pub judged_natural : (held : Bool) (l : LabelOf I) (c : ForestOf I) → judged Q held (respell_label r l) (respell_forest r c) ≡ respell_forest r (judged P held l c)
    judged_natural held l c =
        cond_natural (respell_forest r) (is_closed l) (is_closed (respell_label r l)) (closed P c) (cond (is_list l && not (is_statements l && held)) (alone P c) c) _ _ (closed_natural l) (closed_parts_natural c)
        (cond_natural (respell_forest r) (is_list l && not (is_statements l && held)) (is_list (respell_label r l) && not (is_statements (respell_label r l) && held)) (alone P c) c _ _
        (and_equal _ _ _ _ (list_natural l) (ap (λ b. not (b && held)) (statements_natural l))) (alone_natural c) refl)

  pub holds_natural_body : (held : Bool) (l : LabelOf I) → holds_body held (respell_label r l) ≡ holds_body held l
  holds_natural_body held (kind k) = refl
  holds_natural_body held l = refl

  module _ (F : Answers I) (G : Answers J) (agree : (i : I) → F i ≡ G (r i)) where
    residual_natural : (f : Form I) → residual G (respell_form f) ≡ respell_form (residual F f)
    residual_natural always = refl
    residual_natural never = refl
    residual_natural (flag i c) = ap (λ t. flag_as t (r i) (respell_forest r c)) (sym (agree i)) ∙ flag_natural (F i) i c
    residual_natural (templated i c) = refl
    residual_natural (within p f) = ap (parenthesized nowhere) (residual_natural f) ∙ parenthesized_natural p (residual F f)
    residual_natural (negation p f) =
        ap (λ g. negated_as (literal g) nowhere g) (residual_natural f)
        ∙ ap (λ t. negated_as t nowhere (respell_form (residual F f))) (literal_natural (residual F f))
        ∙ negated_natural (literal (residual F f)) p (residual F f)
    residual_natural (conjunction p f q g) =
        ap (λ x. both_as (literal x) (literal (residual G (respell_form g))) nowhere x nowhere (residual G (respell_form g))) (residual_natural f)
        ∙ ap (λ x. both_as (literal (respell_form (residual F f))) (literal x) nowhere (respell_form (residual F f)) nowhere x) (residual_natural g)
        ∙ ap (λ t. both_as t (literal (respell_form (residual F g))) nowhere (respell_form (residual F f)) nowhere (respell_form (residual F g))) (literal_natural (residual F f))
        ∙ ap (λ t. both_as (literal (residual F f)) t nowhere (respell_form (residual F f)) nowhere (respell_form (residual F g))) (literal_natural (residual F g))
        ∙ both_natural (literal (residual F f)) (literal (residual F g)) p (residual F f) q (residual F g)
    residual_natural (disjunction p f q g) =
        ap (λ x. either_as (literal x) (literal (residual G (respell_form g))) nowhere x nowhere (residual G (respell_form g))) (residual_natural f)
        ∙ ap (λ x. either_as (literal (respell_form (residual F f))) (literal x) nowhere (respell_form (residual F f)) nowhere x) (residual_natural g)
        ∙ ap (λ t. either_as t (literal (respell_form (residual F g))) nowhere (respell_form (residual F f)) nowhere (respell_form (residual F g))) (literal_natural (residual F f))
        ∙ ap (λ t. either_as (literal (residual F f)) t nowhere (respell_form (residual F f)) nowhere (respell_form (residual F g))) (literal_natural (residual F g))
        ∙ either_natural (literal (residual F f)) (literal (residual F g)) p (residual F f) q (residual F g)
    residual_natural (other l c) = refl

    on_natural : (x : Spot I) → residual_spot G (respell_spot x) ≡ respell_spot (residual_spot F x)
    on_natural x = ap (λ f. record { span = nowhere; form = f }) (residual_natural x.form)

    decided_natural : (x : Spot I) → decided G (respell_form x.form) ≡ decided F x.form
    decided_natural x = ap literal (residual_natural x.form) ∙ literal_natural (residual F x.form)

    pub holds_natural : (c : Condition I) → holds G (respell_condition c) ≡ holds F c
    holds_natural none = refl
    holds_natural (on x) = decided_natural x
    holds_natural (else_on x) = decided_natural x
    holds_natural otherwise = refl

    pub follows_natural : (c : Condition I) → follows_on (respell_condition c) ≡ follows_on c
    follows_natural none = refl
    follows_natural (on x) = refl
    follows_natural (else_on x) = refl
    follows_natural otherwise = refl

    recast_condition_natural : (role : Role) (c : Condition I) → recast_condition G role (respell_condition c) ≡ respell_condition (recast_condition F role c)
    recast_condition_natural Plain c = refl
    recast_condition_natural If none = refl
    recast_condition_natural If (on x) = ap on (on_natural x)
    recast_condition_natural If (else_on x) = ap on (on_natural x)
    recast_condition_natural If otherwise = refl
    recast_condition_natural Elif none = refl
    recast_condition_natural Elif (on x) = ap else_on (on_natural x)
    recast_condition_natural Elif (else_on x) = ap else_on (on_natural x)
    recast_condition_natural Elif otherwise = refl
    recast_condition_natural Else none = refl
    recast_condition_natural Else (on x) = refl
    recast_condition_natural Else (else_on x) = refl
    recast_condition_natural Else otherwise = refl

    recast_natural : (role : Role) (al : ForestOf I) → recast G role (respell_forest r al) ≡ respell_forest r (recast F role al)
    recast_natural role end = refl
    recast_natural role (tree l a o) =
        ap (λ c. replaced (respell_label r l) (respell_forest r a) c (recast_condition G role c) (recast G role (respell_forest r o))) (condition_natural a)
        ∙ ap (λ d. replaced (respell_label r l) (respell_forest r a) (respell_condition (condition_at a)) d (recast G role (respell_forest r o))) (recast_condition_natural role (condition_at a))
        ∙ ap (replaced (respell_label r l) (respell_forest r a) (respell_condition (condition_at a)) (respell_condition (recast_condition F role (condition_at a)))) (recast_natural role o)
        ∙ replaced_natural l a (condition_at a) (recast_condition F role (condition_at a)) (recast F role o)

    abbrev pub condition_in : Element I → Condition I
    condition_in x = first_condition (attributes_in (tree x.label x.children end))

    pub condition_in_natural : (x : Element I) → element.condition_of (respell_element x) ≡ respell_condition (condition_in x)
    condition_in_natural x = ap first_condition (attributes_in_natural (tree x.label x.children end)) ∙ first_condition_natural (attributes_in (tree x.label x.children end))

    role_natural : (role : Role) (x : Element I) → element.in_role G role (respell_element x) ≡ respell_element (element.in_role F role x)
    role_natural role x = ap (λ c. record { closes = x.closes; label = respell_label r x.label; children = c })
        (cond_natural (respell_forest r) (is_attributes x.label) (is_attributes (respell_label r x.label)) (recast F role x.children) (cond (is_list x.label) x.children (with_attributes (recast F role) x.children)) _ _ (attributes_natural x.label) (recast_natural role x.children)
        (cond_natural (respell_forest r) (is_list x.label) (is_list (respell_label r x.label)) x.children (with_attributes (recast F role) x.children) _ _ (list_natural x.label) refl (with_natural (recast F role) (recast G role) (recast_natural role) x.children)))

    enact_natural : (o : Option Role) (x : Element I) (rest : List (Element I)) → enact element G o (respell_element x) (map respell_element rest) ≡ map respell_element (enact element F o x rest)
    enact_natural None x rest = refl
    enact_natural (Some role) x rest = ap (λ y. y ∷ map respell_element rest) (role_natural role x)

    scan_natural : (k d : Bool) (xs : List (Element I)) → scan element G k d (map respell_element xs) ≡ map respell_element (scan element F k d xs)
    scan_natural k d [] = refl
    scan_natural k d (x ∷ xs) =
        let c = condition_in x in
        let f = follows_on c in
        let h = holds F c in
        let y = respell_element x in
        let next = λ (b : Bool) (t : Truth). enact element G (fate (b && k) (b && d) t) y (scan element G (kept_after (b && k) (b && d) t) (decided_after (b && d) t) (map respell_element xs)) in
        ap (λ v. cond v (scan element G k d (map respell_element xs)) (next (follows_on (element.condition_of y)) (holds G (element.condition_of y)))) (void_natural x.label x.children)
        ∙ ap (λ e. cond (is_void x.label x.children) (scan element G k d (map respell_element xs)) (next (follows_on e) (holds G e))) (condition_in_natural x)
        ∙ ap (λ b. cond (is_void x.label x.children) (scan element G k d (map respell_element xs)) (next b (holds G (respell_condition c)))) (follows_natural c)
        ∙ ap (λ t. cond (is_void x.label x.children) (scan element G k d (map respell_element xs)) (next f t)) (holds_natural c)
        ∙ cond_natural (map respell_element) (is_void x.label x.children) (is_void x.label x.children) (scan element F k d xs) (enact element F (fate (f && k) (f && d) h) x (scan element F (kept_after (f && k) (f && d) h) (decided_after (f && d) h) xs)) _ _ refl (scan_natural k d xs)
        (ap (enact element G (fate (f && k) (f && d) h) y) (scan_natural (kept_after (f && k) (f && d) h) (decided_after (f && d) h) xs) ∙ enact_natural (fate (f && k) (f && d) h) x (scan element F (kept_after (f && k) (f && d) h) (decided_after (f && d) h) xs))

    judge_natural : (xs : List (Element I)) → residual_list element G (map respell_element xs) ≡ map respell_element (residual_list element F xs)
    judge_natural xs = sym (scan_is element G (map respell_element xs)) ∙ scan_natural false false xs ∙ ap (map respell_element) (scan_is element F xs)

    pub through_natural : (held : Bool) (t : ForestOf I) → through (residual_list element G) held (respell_forest r t) ≡ respell_forest r (through (residual_list element F) held t)
    through_natural held end = refl
    through_natural held (tree l c o) =
        let inner = ap (λ h. through (residual_list element G) h (respell_forest r c)) (holds_natural_body held l) ∙ through_natural (holds_body held l) c in
        ap (tree (respell_label r l) (cond (is_entered (respell_label r l)) (judged (residual_list element G) held (respell_label r l) (through (residual_list element G) (holds_body held (respell_label r l)) (respell_forest r c))) (respell_forest r c))) (through_natural held o)
        ∙ ap (λ x. tree (respell_label r l) x (respell_forest r (through (residual_list element F) held o)))
        (cond_natural (respell_forest r) (is_entered l) (is_entered (respell_label r l)) (judged (residual_list element F) held l (through (residual_list element F) (holds_body held l) c)) c _ _ (entered_natural l)
        (ap (judged (residual_list element G) held (respell_label r l)) inner ∙ judged_natural (residual_list element F) (residual_list element G) judge_natural held l (through (residual_list element F) (holds_body held l) c)) refl)
