-- The faults of a list, node by node.
use Rattle.std.proofs.Common.{◌≡◌, ℕ, Bool, true, false, not, ◌&&◌, cond, List, [], ◌∷◌, ◌++◌, map, refl, sym, ap, ◌∙◌, subst, append_assoc}
use Rattle.std.specs.List.{flat_map}
use Rattle.wesl_cond_chains.specs.Chains.{Condition, none, on, else_on, otherwise, follows_on}
use Rattle.wesl_cond_chains.specs.Conditions.{condition_at, first_condition, or_next, attributes_in, is_void}
use Rattle.wesl_cond_chains.specs.Faults.{and_rest, conditions, opens, place_faults}
use Rattle.wesl_cond_chains.specs.Lists.{Element}
use Rattle.wesl_cond_chains.specs.Nodes.{as_element, is_any, is_several, several_after}
use Rattle.wesl_cond_chains.specs.Evaluation.{Refuses}
use Rattle.wesl_cond_chains.specs.FormulaFaults.{Fault, no_preceding_if, duplicate_if}
use Rattle.wesl_cond_chains.specs.Places.{Place, condition_places, found_at, list_places, span_of}
use Rattle.wesl_cond_chains.proofs.Refused.{one_refused, refuses_after, refuses_before}
use Rattle.wesl_cond_features.specs.Features.{Replies}
use Rattle.wesl_tree_names.specs.Path.{Text}
use Rattle.wesl_tree_base.specs.declared.faults.CondCompError.TheVariants.{DuplicateIf, NoPrecedingIf}
use Rattle.wesl_tree_base.specs.declared.span.Span.{Span}
use Rattle.wesl_tree_names.specs.Errors.{IsPlaced}
use Rattle.wesl_tree_names.specs.declared.errors.Diagnostic.{Diagnostic}
use Rattle.wesl_tree_names.specs.declared.errors.Error as error
use Rattle.wesl_tree_syntax.specs.Tree.{Forest, Tree, end, tree, before}

-- One condition more.
pub several-seen : (c : Condition ℕ) (cs : List (Condition ℕ)) → is_any c ≡ true → several_after true (and_rest c cs) ≡ true
several-seen none cs e = cc
several-seen (on x) cs e = refl
several-seen (else_on x) cs e = refl
several-seen otherwise cs e = refl

pub several-first : (c : Condition ℕ) (cs : List (Condition ℕ)) → is_any c ≡ true → several_after false (and_rest c cs) ≡ several_after true cs
several-first none cs e = cc
several-first (on x) cs e = refl
several-first (else_on x) cs e = refl
several-first otherwise cs e = refl

pub several-none : (s : Bool) (c : Condition ℕ) (cs : List (Condition ℕ)) → is_any c ≡ false → several_after s (and_rest c cs) ≡ several_after s cs
several-none s none cs e = refl
several-none s (on x) cs e = cc
several-none s (else_on x) cs e = cc
several-none s otherwise cs e = cc

pub several-end : (s : Bool) → several_after s [] ≡ false
several-end true = refl
several-end false = refl

pub opens-true : (c : Condition ℕ) (cs : List (Condition ℕ)) → opens (c ∷ []) ≡ true → opens (and_rest c cs) ≡ true
opens-true none cs e = cc
opens-true (on x) cs e = refl
opens-true (else_on x) cs e = refl
opens-true otherwise cs e = cc

pub opens-false : (c : Condition ℕ) (cs : List (Condition ℕ)) → opens (c ∷ []) ≡ false → opens (and_rest c cs) ≡ opens cs
opens-false none cs e = refl
opens-false (on x) cs e = cc
opens-false (else_on x) cs e = cc
opens-false otherwise cs e = refl

pub ruleset several_steps = (several-seen, several-first, several-none, several-end)

pub ruleset opens_steps = (opens-true, opens-false)

-- Where a condition stands, by whether there are several and by the first.
abbrev by_first : Bool → List (Condition ℕ) → Condition ℕ → List (Fault ℕ)
by_first opened cs c = cond (is_several cs) (duplicate_if ∷ []) (cond (not opened && follows_on c) (no_preceding_if ∷ []) [])

place_on : (opened : Bool) (c : Condition ℕ) (cs : List (Condition ℕ)) → is_any c ≡ true → place_faults opened (c ∷ cs) ≡ by_first opened (c ∷ cs) c
place_on opened none cs e = cc
place_on true (on x) [] e = refl
place_on false (on x) [] e = refl
place_on true (else_on x) [] e = refl
place_on false (else_on x) [] e = refl
place_on true otherwise [] e = refl
place_on false otherwise [] e = refl
place_on opened (on x) (d ∷ cs) e = refl
place_on opened (else_on x) (d ∷ cs) e = refl
place_on opened otherwise (d ∷ cs) e = refl

place_next : (opened : Bool) (c : Condition ℕ) (cs : List (Condition ℕ)) (next : Condition ℕ) → place_faults opened cs ≡ by_first opened cs next → place_faults opened (and_rest c cs) ≡ by_first opened (and_rest c cs) (or_next c next)
place_next opened none cs next e = e
place_next opened (on x) cs next e = place_on opened (on x) cs refl
place_next opened (else_on x) cs next e = place_on opened (else_on x) cs refl
place_next opened otherwise cs next e = place_on opened otherwise cs refl

pub place_is : (opened : Bool) (a : Forest) → place_faults opened (conditions a) ≡ by_first opened (conditions a) (first_condition a)
place_is true end = refl
place_is false end = refl
place_is opened (tree l a o) = place_next opened (condition_at a) (conditions o) (first_condition o) (place_is opened o)

-- Two conditions on a node, one that goes on with no chain, and neither.
module _ (names : List Text) (span : Span) (opened : Bool) (a : Forest) where
  abbrev pub Refused : Diagnostic → Type 0
  Refused told = Refuses names (map (found_at span) (place_faults opened (conditions a))) told

  abbrev left_over : Bool → List (Fault ℕ)
  left_over orphan = cond orphan (no_preceding_if ∷ []) []

  pub several_refused : (several : Bool) (told : Diagnostic) → several ≡ is_several (conditions a) → several ≡ true → IsPlaced (error.CondComp DuplicateIf) span told → Refused told
  several_refused several told is so at =
      subst (λ fs. Refuses names (map (found_at span) fs) told) (sym (place_is opened a ∙ ap (λ b. cond b (duplicate_if ∷ []) (left_over (not opened && follows_on (first_condition a)))) (sym is ∙ so)))
      (one_refused names (error.CondComp DuplicateIf) span duplicate_if told at tt)

  apart : (several orphan b : Bool) → several ≡ is_several (conditions a) → several ≡ false → orphan ≡ (not opened && follows_on (first_condition a)) → orphan ≡ b → place_faults opened (conditions a) ≡ left_over b
  apart several orphan b is so tells stands =
      place_is opened a ∙ ap (λ s. cond s (duplicate_if ∷ []) (left_over (not opened && follows_on (first_condition a)))) (sym is ∙ so) ∙ ap left_over (sym tells ∙ stands)

  pub orphan_refused : (several orphan : Bool) (told : Diagnostic) → several ≡ is_several (conditions a) → several ≡ false → orphan ≡ (not opened && follows_on (first_condition a)) → orphan ≡ true → IsPlaced (error.CondComp NoPrecedingIf) span told → Refused told
  orphan_refused several orphan told is so tells stands at =
      subst (λ fs. Refuses names (map (found_at span) fs) told) (sym (apart several orphan true is so tells stands))
      (one_refused names (error.CondComp NoPrecedingIf) span no_preceding_if told at tt)

  pub none_refused : (several orphan : Bool) → several ≡ is_several (conditions a) → several ≡ false → orphan ≡ (not opened && follows_on (first_condition a)) → orphan ≡ false → map (found_at span) (place_faults opened (conditions a)) ≡ []
  none_refused several orphan is so tells stands = ap (map (found_at span)) (apart several orphan false is so tells stands)

-- Formulas.
pub formulas_next : (reply : Replies ℕ) (c : Condition ℕ) (cs : List (Condition ℕ)) → flat_map (condition_places reply) (and_rest c cs) ≡ condition_places reply c ++ flat_map (condition_places reply) cs
formulas_next reply none cs = refl
formulas_next reply (on x) cs = refl
formulas_next reply (else_on x) cs = refl
formulas_next reply otherwise cs = refl

-- One node of a list.
module _ (names : List Text) (reply : Replies ℕ) (opened closes : Bool) (t : Tree) where
  abbrev of_node : List (Condition ℕ)
  of_node = conditions (attributes_in (before t end))

  abbrev at_node : List (Place ℕ)
  at_node = map (found_at (span_of t.label)) (place_faults opened of_node)

  abbrev formulas : List (Place ℕ)
  formulas = flat_map (condition_places reply) of_node

  whole : is_void t.label t.children ≡ false → (rest : List (Element ℕ)) → list_places reply opened ((as_element closes t ∷ []) ++ rest) ≡ at_node ++ (formulas ++ list_places reply (opens of_node) rest)
  whole e rest = rw e (append_assoc at_node formulas (list_places reply (opens of_node) rest))

  pub node_begins : is_void t.label t.children ≡ false → at_node ≡ [] → formulas ≡ [] → (rest : List (Element ℕ)) → list_places reply opened ((as_element closes t ∷ []) ++ rest) ≡ list_places reply (opens of_node) rest
  node_begins v e d rest = whole v rest ∙ ap (λ xs. xs ++ (formulas ++ list_places reply (opens of_node) rest)) e ∙ ap (λ xs. xs ++ list_places reply (opens of_node) rest) d

  pub place_refused : (told : Diagnostic) → is_void t.label t.children ≡ false → Refuses names at_node told → (rest : List (Element ℕ)) → Refuses names (list_places reply opened ((as_element closes t ∷ []) ++ rest)) told
  place_refused told v h rest = subst (λ xs. Refuses names xs told) (sym (whole v rest)) (refuses_before names told at_node (formulas ++ list_places reply (opens of_node) rest) h)

  pub formula_refused : (told : Diagnostic) → is_void t.label t.children ≡ false → at_node ≡ [] → Refuses names formulas told → (rest : List (Element ℕ)) → Refuses names (list_places reply opened ((as_element closes t ∷ []) ++ rest)) told
  formula_refused told v clear h rest =
      subst (λ xs. Refuses names xs told) (sym (whole v rest))
      (refuses_after names told at_node (formulas ++ list_places reply (opens of_node) rest) clear (refuses_before names told formulas (list_places reply (opens of_node) rest) h))
