-- The faults of the conditions of a judged list, each with the span of what is at fault, in document order.
use Rattle.std.specs.Prelude.{List, [], ◌∷◌, ◌++◌, map, Bool, false, cond}
use Rattle.std.specs.List.{flat_map}
use Rattle.wesl_cond_chains.specs.Chains.{Condition, none, on, else_on, otherwise}
use Rattle.wesl_cond_chains.specs.Conditions.{is_void}
use Rattle.wesl_cond_chains.specs.Faults.{StandsBy, conditions, conditions_of, opens, place_faults}
use Rattle.wesl_cond_chains.specs.FormulaFaults.{Fault, invalid_flag, invalid_expression, faults_if_refused}
use Rattle.wesl_cond_chains.specs.Formulas.{Form, always, never, flag, templated, within, negation, conjunction, disjunction, other, nowhere}
use Rattle.wesl_cond_chains.specs.Lists.{Element}
use Rattle.wesl_cond_features.specs.Features.{Replies, known}
use Rattle.wesl_tree_base.specs.declared.span.Span.{Span}
use Rattle.wesl_tree_syntax.specs.Tree.{LabelOf, ForestOf, at}

-- A fault, and the span of what is at fault: of an expression, or of a node.
pub record Place (I : Type 0) : Type 0 where
  pub span : Span
  pub fault : Fault I

module _ {I : Type 0} where
  -- a fault, with the span of what is at fault
  abbrev pub found_at : Span → Fault I → Place I
  found_at span fault = record { span = span; fault = fault }

  -- both sides of a connective are judged, and nothing inside what is no formula
  abbrev pub formula_places : Replies I → Span → Form I → List (Place I)
  formula_places reply span always = []
  formula_places reply span never = []
  formula_places reply span (flag name c) = map (found_at span) (faults_if_refused (reply name) name)
  formula_places reply span (templated name c) = found_at span (invalid_flag name) ∷ []
  formula_places reply span (within p f) = formula_places reply p f
  formula_places reply span (negation p f) = formula_places reply p f
  formula_places reply span (conjunction p f q g) = formula_places reply p f ++ formula_places reply q g
  formula_places reply span (disjunction p f q g) = formula_places reply p f ++ formula_places reply q g
  formula_places reply span (other l c) = found_at span invalid_expression ∷ []

  -- the faults in the formula of a condition; an @else has none
  abbrev pub condition_places : Replies I → Condition I → List (Place I)
  condition_places reply none = []
  condition_places reply (on x) = formula_places reply x.span x.form
  condition_places reply (else_on x) = formula_places reply x.span x.form
  condition_places reply otherwise = []

  -- the faults in the formulas of all conditions of an attributes list
  abbrev pub all_condition_places : Replies I → ForestOf I → List (Place I)
  all_condition_places reply attributes = flat_map (condition_places reply) (conditions attributes)

  -- the span of a node; a kind of node without one has `0..0`
  abbrev pub span_of : LabelOf I → Span
  span_of (at k s e) = record { start = s; end = e }
  span_of _ = nowhere

  -- the node first, for where its conditions stand, then the formulas of its conditions
  abbrev pub node_places : Replies I → Bool → Element I → List (Place I)
  node_places reply opened x =
      cond (is_void x.label x.children) []
      (map (found_at (span_of x.label)) (place_faults opened (conditions_of x)) ++ flat_map (condition_places reply) (conditions_of x))

  -- whether an @elif or an @else may come after a node; a void changes nothing
  abbrev pub opened_after : Bool → Element I → Bool
  opened_after opened x = cond (is_void x.label x.children) opened (opens (conditions_of x))

  -- the same after several nodes
  abbrev pub opened_through : Bool → List (Element I) → Bool
  opened_through opened [] = opened
  opened_through opened (x ∷ xs) = opened_through (opened_after opened x) xs

  -- the faults of a list, node by node; `opened` where an @elif or an @else may stand first
  abbrev pub list_places : Replies I → Bool → List (Element I) → List (Place I)
  list_places reply opened [] = []
  list_places reply opened (x ∷ xs) = node_places reply opened x ++ list_places reply (opened_after opened x) xs

  -- a fault stands in some trees, with the span of what is at fault
  abbrev pub StandsAt : Replies I → Bool → ForestOf I → Place I → Type 0
  StandsAt reply = StandsBy (list_places reply false) (known reply)
