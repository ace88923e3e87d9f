-- One node of a list, taken.
use Rattle.std.proofs.Common.{◌≡◌, ℕ, Bool, true, false, ◌&&◌, cond, List, [], ◌∷◌, ◌++◌, map, Option, Some, None, is_some, refl, sym, ap, ◌∙◌, append-nil}
use Rattle.wesl_cond_features.specs.declared.chain.Role.{Role}
use Rattle.wesl_cond_chains.specs.Chains.{follows_on, holds, residual_list, residual_after}
use Rattle.wesl_cond_chains.specs.Conditions.{first_condition, attributes_in, with_attributes, recast, is_void}
use Rattle.wesl_cond_chains.specs.Lists.{Element, element, still, elements, back, alone}
use Rattle.wesl_cond_chains.specs.Nodes.{as_element, optional_elements, optional_forest}
use Rattle.wesl_cond_chains.specs.Following.{IsTurn, AreTurns}
use Rattle.wesl_cond_features.specs.Branch.{fate, kept_after, decided_after}
use Rattle.wesl_cond_chains.proofs.Walk.{enact, scan}
use Rattle.wesl_cond_chains.proofs.ChainTurns.{turn_of, after_is}
use Rattle.wesl_cond_features.specs.Answers.{Answers}
use Rattle.wesl_cond_features.specs.declared.features.Truth.{Truth}
use Rattle.wesl_tree_syntax.specs.Tree.{Tree, Forest, end, tree, before, forest_of}
use Rattle.wesl_cond_chains.proofs.Fronts.{map_in_turn}

abbrev first_element : Bool → Element ℕ → Forest → Element ℕ
first_element closes x end = x
first_element closes x (tree l c o) = record { closes = closes; label = l; children = c }

-- a node with its attributes in a role, as an element
pub in_role_is : (known : Answers ℕ) (role : Role) (closes : Bool) (t u : Tree) → before u end ≡ with_attributes (recast known role) (before t end) → as_element closes u ≡ element.in_role known role (as_element closes t)
in_role_is known role closes t u e = ap (first_element closes (as_element closes t)) e

-- what the conditions of a node say
abbrev pub Goes : Answers ℕ → Tree → Bool → Truth → Type 0
Goes known t f h = (f ≡ follows_on (first_condition (attributes_in (before t end)))) × (h ≡ holds known (first_condition (attributes_in (before t end))))

taken : (known : Answers ℕ) (kept decided closes : Bool) (t : Tree) (f : Bool) (h : Truth) (rest : List (Element ℕ)) → is_void t.label t.children ≡ false → Goes known t f h
    → scan element known kept decided (as_element closes t ∷ rest) ≡ enact element known (fate (f && kept) (f && decided) h) (as_element closes t) (scan element known (kept_after (f && kept) (f && decided) h) (decided_after (f && decided) h) rest)
taken known kept decided closes t f h rest v is = rw (v, is.0, is.1) refl

pub node_stays : (known : Answers ℕ) (kept decided closes : Bool) (t u : Tree) (f : Bool) (h : Truth) (kept' decided' : Bool) (role : Role) → is_void t.label t.children ≡ false → Goes known t f h
    → Some role ≡ fate (f && kept) (f && decided) h → kept' ≡ kept_after (f && kept) (f && decided) h → decided' ≡ decided_after (f && decided) h
    → before u end ≡ with_attributes (recast known role) (before t end)
    → IsTurn element known kept decided (as_element closes t) kept' decided' (as_element closes u) true
node_stays known kept decided closes t u f h kept' decided' role v is o a b e = turn_of element known kept decided (as_element closes t) kept' decided' (as_element closes u) true (λ rest.
    taken known kept decided closes t f h rest v is
    ∙ rw (← o, ← a, ← b) (ap (λ x. x ∷ scan element known kept' decided' rest) (sym (in_role_is known role closes t u e))))

-- a node that goes
pub node_goes : (known : Answers ℕ) (kept decided closes : Bool) (t : Tree) (u : Element ℕ) (f : Bool) (h : Truth) (kept' decided' : Bool) → is_void t.label t.children ≡ false → Goes known t f h
    → None ≡ fate (f && kept) (f && decided) h → kept' ≡ kept_after (f && kept) (f && decided) h → decided' ≡ decided_after (f && decided) h
    → IsTurn element known kept decided (as_element closes t) kept' decided' u false
node_goes known kept decided closes t u f h kept' decided' v is o a b = turn_of element known kept decided (as_element closes t) kept' decided' u false (λ rest.
    taken known kept decided closes t f h rest v is ∙ rw (← o, ← a, ← b) refl)

-- a node that is left as it is
enact_still : (known : Answers ℕ) (o : Option Role) (x : Element ℕ) (rest : List (Element ℕ)) → enact still known o x rest ≡ cond (is_some o) (x ∷ rest) rest
enact_still known None x rest = refl
enact_still known (Some role) x rest = refl

passed : (known : Answers ℕ) (kept decided closes : Bool) (t : Tree) (f : Bool) (h : Truth) (rest : List (Element ℕ)) → is_void t.label t.children ≡ false → Goes known t f h
    → scan still known kept decided (as_element closes t ∷ rest) ≡ enact still known (fate (f && kept) (f && decided) h) (as_element closes t) (scan still known (kept_after (f && kept) (f && decided) h) (decided_after (f && decided) h) rest)
passed known kept decided closes t f h rest v is = rw (v, is.0, is.1) refl

pub node_passed : (known : Answers ℕ) (kept decided closes : Bool) (t : Tree) (f : Bool) (h : Truth) (o : Option Role) (kept' decided' stays : Bool) → is_void t.label t.children ≡ false → Goes known t f h
    → o ≡ fate (f && kept) (f && decided) h → kept' ≡ kept_after (f && kept) (f && decided) h → decided' ≡ decided_after (f && decided) h → stays ≡ is_some o
    → IsTurn still known kept decided (as_element closes t) kept' decided' (as_element closes t) stays
node_passed known kept decided closes t f h o kept' decided' stays v is e a b d =
    let x = as_element closes t in
    turn_of still known kept decided x kept' decided' x stays (λ rest.
    passed known kept decided closes t f h rest v is
    ∙ ap (λ p. enact still known p x (scan still known (kept_after (f && kept) (f && decided) h) (decided_after (f && decided) h) rest)) (sym e)
    ∙ ap (λ k. enact still known o x (scan still known k (decided_after (f && decided) h) rest)) (sym a)
    ∙ ap (λ k. enact still known o x (scan still known kept' k rest)) (sym b)
    ∙ enact_still known o x (scan still known kept' decided' rest)
    ∙ ap (λ k. cond k (x ∷ scan still known kept' decided' rest) (scan still known kept' decided' rest)) (sym d))

-- Lists.
pub elements_of : (closes : Bool) (ts : List Tree) → elements closes (forest_of ts) ≡ map (as_element closes) ts
elements_of closes [] = refl
elements_of closes (t ∷ ts) = ap (λ xs. as_element closes t ∷ xs) (elements_of closes ts)

pub elements_as : {A : Type 0} (closes : Bool) (view : A → Tree) (xs : List A) → map (λ x. as_element closes (view x)) xs ≡ elements closes (forest_of (map view xs))
elements_as closes view xs = map_in_turn view (as_element closes) xs ∙ sym (elements_of closes (map view xs))

pub optional_as : {A : Type 0} (closes : Bool) (view : A → Tree) (o : Option A) → optional_elements closes view o ≡ elements closes (optional_forest view o)
optional_as closes view None = refl
optional_as closes view (Some x) = refl

pub back_open : (f : Forest) → back false (elements false f) ≡ f
back_open end = refl
back_open (tree l c o) = ap (tree l c) (back_open o)

module _ (known : Answers ℕ) where
  pub list_is : (kept decided : Bool) (ts : List (Element ℕ)) (kept' decided' : Bool) (us : List (Element ℕ)) → kept ≡ false → decided ≡ false
      → AreTurns element known kept decided ts kept' decided' us → us ≡ residual_list element known ts
  list_is kept decided ts kept' decided' us e d turns = sym (append-nil us) ∙ sym (turns []) ∙ rw (e, d, append-nil ts) (after_is element known ts)

  pub both_are : (kept decided : Bool) (ts : List (Element ℕ)) (kept' decided' : Bool) (us last : List (Element ℕ)) (kept'' decided'' : Bool) (stays : List (Element ℕ)) → kept ≡ false → decided ≡ false
      → AreTurns element known kept decided ts kept' decided' us → AreTurns element known kept' decided' last kept'' decided'' stays → us ++ stays ≡ residual_list element known (ts ++ last)
  both_are kept decided ts kept' decided' us last kept'' decided'' stays e d turns more =
      ap (λ r. us ++ r) (sym (append-nil stays) ∙ sym (more []) ∙ ap (residual_after element known kept' decided') (append-nil last))
      ∙ sym (turns last) ∙ rw (e, d) (after_is element known (ts ++ last))

  pub forest_is : {A : Type 0} (view : A → Tree) (xs ys : List A) → map (λ x. as_element false (view x)) ys ≡ residual_list element known (map (λ x. as_element false (view x)) xs)
      → forest_of (map view ys) ≡ alone (residual_list element known) (forest_of (map view xs))
  forest_is view xs ys e =
      sym (back_open (forest_of (map view ys)))
      ∙ ap (back false) (sym (elements_as false view ys) ∙ e ∙ ap (residual_list element known) (elements_as false view xs))

  pub together : {A B : Type 0} (view : A → Tree) (last : B → Tree) (xs : List A) (o : Option B)
      → residual_list element known (map (λ x. as_element false (view x)) xs ++ optional_elements true last o) ≡ residual_list element known (elements false (forest_of (map view xs)) ++ elements true (optional_forest last o))
  together view last xs o = rw (elements_as false view xs, optional_as true last o) refl

  -- what closes a list, taken
  pub last_goes : {A : Type 0} (view : A → Tree) (kept decided closes : Bool) (o : Option A) (y : A) (kept' decided' : Bool) (u : Element ℕ) (stays : Bool) → o ≡ Some y → IsTurn element known kept decided (as_element closes (view y)) kept' decided' u stays → stays ≡ false
      → (rest : List (Element ℕ)) → residual_after element known kept decided (optional_elements closes view o ++ rest) ≡ residual_after element known kept' decided' rest
  last_goes view kept decided closes o y kept' decided' u stays is turn e rest =
      ap (λ p. residual_after element known kept decided (optional_elements closes view p ++ rest)) is ∙ turn rest ∙ ap (λ b. cond b (u ∷ residual_after element known kept' decided' rest) (residual_after element known kept' decided' rest)) e

  pub last_stays : {A : Type 0} (view : A → Tree) (kept decided closes : Bool) (o : Option A) (y : A) (kept' decided' : Bool) (u : Element ℕ) (stays : Bool) → o ≡ Some y → IsTurn element known kept decided (as_element closes (view y)) kept' decided' u stays → stays ≡ true
      → (rest : List (Element ℕ)) → residual_after element known kept decided (optional_elements closes view o ++ rest) ≡ u ∷ residual_after element known kept' decided' rest
  last_stays view kept decided closes o y kept' decided' u stays is turn e rest =
      ap (λ p. residual_after element known kept decided (optional_elements closes view p ++ rest)) is ∙ turn rest ∙ ap (λ b. cond b (u ∷ residual_after element known kept' decided' rest) (residual_after element known kept' decided' rest)) e
