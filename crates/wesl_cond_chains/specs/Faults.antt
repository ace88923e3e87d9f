-- The places at which conditions are refused.
use Rattle.std.specs.Prelude.{◌≡◌, List, [], ◌∷◌, ◌++◌, Bool, true, false, not, ◌&&◌, cond}
use Rattle.std.specs.List.{flat_map}
use Rattle.wesl_cond_chains.specs.Chains.{Condition, none, on, else_on, otherwise, staying}
use Rattle.wesl_cond_chains.specs.Conditions.{condition_at, attributes_in, is_statements, is_list, is_void}
use Rattle.wesl_cond_chains.specs.Lists.{Element, element, elements, is_closed, is_compound, is_option, is_entered, holds_body, judged}
use Rattle.wesl_cond_chains.specs.FormulaFaults.{Fault, no_preceding_if, duplicate_if, IsAmong, formula_faults}
use Rattle.wesl_cond_features.specs.Answers.{Answers}
use Rattle.wesl_cond_features.specs.Features.{Replies, known}
use Rattle.wesl_tree_syntax.specs.Tree.{LabelOf, ForestOf, end, tree}

module _ {I : Type 0} where
  -- the faults in the formula of a condition; an @else has none
  abbrev pub condition_faults : Replies I → Condition I → List (Fault I)
  condition_faults reply none = []
  condition_faults reply (on x) = formula_faults reply x.form
  condition_faults reply (else_on x) = formula_faults reply x.form
  condition_faults reply otherwise = []

  -- a condition before others, unless it is none
  abbrev pub and_rest : Condition I → List (Condition I) → List (Condition I)
  and_rest none cs = cs
  and_rest (on x) cs = on x ∷ cs
  and_rest (else_on x) cs = else_on x ∷ cs
  and_rest otherwise cs = otherwise ∷ cs

  -- all conditions of an attributes list
  abbrev pub conditions : ForestOf I → List (Condition I)
  conditions end = []
  conditions (tree l attribute others) = and_rest (condition_at attribute) (conditions others)

  -- all conditions of a node
  abbrev pub conditions_of : Element I → List (Condition I)
  conditions_of x = conditions (attributes_in (tree x.label x.children end))

  -- whether an @elif or an @else may come next: one of the conditions is an @if or an @elif
  abbrev pub opens : List (Condition I) → Bool
  opens [] = false
  opens (none ∷ cs) = opens cs
  opens (on x ∷ cs) = true
  opens (else_on x ∷ cs) = true
  opens (otherwise ∷ cs) = opens cs

  -- two conditions on a node, or one that goes on with no chain
  abbrev pub place_faults : Bool → List (Condition I) → List (Fault I)
  place_faults opened [] = []
  place_faults opened (none ∷ []) = []
  place_faults opened (on x ∷ []) = []
  place_faults opened (else_on x ∷ []) = cond opened [] (no_preceding_if ∷ [])
  place_faults opened (otherwise ∷ []) = cond opened [] (no_preceding_if ∷ [])
  place_faults opened (c ∷ d ∷ cs) = duplicate_if ∷ []

  -- the faults of a list of nodes, voids apart
  abbrev pub list_faults : Replies I → Bool → List (Element I) → List (Fault I)
  list_faults reply opened [] = []
  list_faults reply opened (x ∷ xs) =
      cond (is_void x.label x.children)
      (list_faults reply opened xs)
      (place_faults opened (conditions_of x) ++ flat_map (condition_faults reply) (conditions_of x) ++ list_faults reply (opens (conditions_of x)) xs)

  -- the statements of a body and then what closes them, as one list; what is no body has the empty list
  abbrev pub body_list : ForestOf I → ForestOf I → List (Element I)
  body_list (tree a attributes (tree s list rest)) last = cond (is_statements s) (elements false list ++ elements true last) []
  body_list body last = []

  -- the list of a loop or of a continuing block, by its children: the statements of its body, then the continuing block or
  -- the `break if`; children of any other form have the empty list
  abbrev pub closed_list : ForestOf I → List (Element I)
  closed_list (tree a attributes (tree b body (tree o last others))) = cond (is_compound b && is_option o) (body_list body last) []
  closed_list children = []

  -- the list that is judged at a node, if any
  abbrev pub list_at : Bool → LabelOf I → ForestOf I → List (Element I)
  list_at held l children = cond (is_closed l) (closed_list children) (cond (is_list l && not (is_statements l && held)) (elements false children) [])

-- Something stands in a list that is judged, or, where the list has nothing, inside its nodes that stay. What a list has is
-- told by `listed`: its faults, say.
pub data StandsBy {I F : Type 0} (listed : List (Element I) → List F) (answers : Answers I) : Bool → ForestOf I → F → Type 0 where
  here : {held : Bool} {l : LabelOf I} {children others : ForestOf I} {f : F}
      → is_entered l ≡ true → IsAmong f (listed (list_at held l children)) → StandsBy listed answers held (tree l children others) f
  inside : {held : Bool} {l : LabelOf I} {children others : ForestOf I} {f : F}
      → is_entered l ≡ true → listed (list_at held l children) ≡ []
      → StandsBy listed answers (holds_body held l) (judged (staying element answers) held l children) f → StandsBy listed answers held (tree l children others) f
  beside : {held : Bool} {l : LabelOf I} {children others : ForestOf I} {f : F} → StandsBy listed answers held others f → StandsBy listed answers held (tree l children others) f

-- a fault stands in some trees
abbrev pub Stands : {I : Type 0} → Replies I → Bool → ForestOf I → Fault I → Type 0
Stands reply = StandsBy (list_faults reply false) (known reply)
