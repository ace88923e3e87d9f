-- Where the faults of the conditions of a judged list are told, in document order.
use Rattle.std.specs.Prelude.{◌≡◌, ◌⊎◌, ◌==◌, ◌&&◌, List, [], ◌∷◌, ◌++◌, map, Bool, false, None, cond, if◌then◌else◌}
use Rattle.std.specs.List.{flat_map}
use Rattle.wesl_cond_chains.specs.Chains.{Condition, none, on, else_on, otherwise}
use Rattle.wesl_cond_chains.specs.Conditions.{attributes_in, condition_at, is_void}
use Rattle.wesl_cond_chains.specs.Faults.{StandsBy, conditions_of, place_faults}
use Rattle.wesl_cond_chains.specs.Formulas.{nowhere}
use Rattle.wesl_cond_chains.specs.Lists.{Element}
use Rattle.wesl_cond_chains.specs.Places.{Place, condition_places, found_at, opened_after, span_of}
use Rattle.wesl_cond_features.specs.Features.{Replies, known}
use Rattle.wesl_tree_base.specs.declared.span.Span.{Span}
use Rattle.wesl_tree_names.specs.Errors.{span_told}
use Rattle.wesl_tree_syntax.specs.Tree.{ForestOf, end, tree}

-- a span, or another where it is `0..0`
abbrev pub span_or : Span → Span → Span
span_or own other = if (own.start == 0) && (own.end == 0) then other else own

-- of some spans the second, or the only one; where there is none, `0..0`
abbrev pub second_or_only : List Span → Span
second_or_only [] = nowhere
second_or_only (s ∷ []) = s
second_or_only (s ∷ t ∷ others) = t

-- A fault is told of a place: as one that is the same, with the same span, or, where no span is told of the place, with any.
abbrev pub IsToldAs : {I : Type 0} → Place I → Place I → Type 0
IsToldAs p q = (p.fault ≡ q.fault) × ((span_told p.span ≡ None) ⊎ (p.span ≡ q.span))

module _ {I : Type 0} where
  -- the span of an attribute before others, if it is a condition
  abbrev pub and_span : Condition I → Span → List Span → List Span
  and_span none s others = others
  and_span (on x) s others = s ∷ others
  and_span (else_on x) s others = s ∷ others
  and_span otherwise s others = s ∷ others

  -- of an attributes list the spans of those that are conditions
  abbrev pub condition_spans : ForestOf I → List Span
  condition_spans end = []
  condition_spans (tree l attribute others) = and_span (condition_at attribute) (span_of l) (condition_spans others)

  -- The span that is told of a node for where its conditions stand: its own. Where it has none, as no parameter, clause,
  -- continuing block and `break if` has, it is that of the attribute that goes on with no chain, or of the second condition.
  abbrev pub node_span : Element I → Span
  node_span x = span_or (span_of x.label) (second_or_only (condition_spans (attributes_in (tree x.label x.children end))))

  -- the node first, for where its conditions stand, then the formulas of its conditions
  abbrev pub told_of_node : Replies I → Bool → Element I → List (Place I)
  told_of_node reply opened x =
      cond (is_void x.label x.children) []
      (map (found_at (node_span x)) (place_faults opened (conditions_of x)) ++ flat_map (condition_places reply) (conditions_of x))

  -- the faults of a list, node by node; `opened` where an @elif or an @else may stand first
  abbrev pub told_of_list : Replies I → Bool → List (Element I) → List (Place I)
  told_of_list reply opened [] = []
  told_of_list reply opened (x ∷ xs) = told_of_node reply opened x ++ told_of_list reply (opened_after opened x) xs

  -- a fault stands in some trees, with the span that is told of it
  abbrev pub StandsTold : Replies I → Bool → ForestOf I → Place I → Type 0
  StandsTold reply = StandsBy (told_of_list reply false) (known reply)
