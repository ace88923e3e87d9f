-- What answers to flags leave of chains of branches, over any nodes that may have a condition.
use Rattle.std.specs.Prelude.{List, [], ◌∷◌, ◌++◌, map, Bool, true, false, not, cond, ◌&&◌}
use Rattle.std.specs.List.{flat_map, filter}
use Rattle.wesl_cond_features.specs.declared.chain.Role.{Role}
use Rattle.wesl_cond_features.specs.declared.chain.Role.TheVariants.{Plain, If, Elif, Else}
use Rattle.wesl_cond_features.specs.Answers.{Answers}
use Rattle.wesl_cond_chains.specs.Formulas.{Spot}
use Rattle.wesl_cond_chains.specs.FormulaResidual.{residual, decided}
use Rattle.wesl_cond_features.specs.declared.features.Truth.{Truth}
use Rattle.wesl_cond_features.specs.declared.features.Truth.TheVariants.{Yes, No, Undecided}

-- the condition of a node: none, an @if, an @elif or an @else
pub data Condition (I : Type 0) : Type 0 where
  none : Condition I
  on : Spot I → Condition I
  else_on : Spot I → Condition I
  otherwise : Condition I

module _ {I : Type 0} where
  -- what is left of a formula in its place
  abbrev pub residual_spot : Answers I → Spot I → Spot I
  residual_spot known x = record { span = x.span; form = residual known x.form }

  -- whether it holds: no condition and an @else count as true
  abbrev pub holds : Answers I → Condition I → Truth
  holds known none = Yes
  holds known (on x) = decided known x.form
  holds known (else_on x) = decided known x.form
  holds known otherwise = Yes

  -- whether it goes on with a chain
  abbrev pub follows_on : Condition I → Bool
  follows_on none = false
  follows_on (on x) = false
  follows_on (else_on x) = true
  follows_on otherwise = true

  -- a condition in a role, with what is left of its formula
  abbrev pub recast_condition : Answers I → Role → Condition I → Condition I
  recast_condition known Plain c = none
  recast_condition known If none = none
  recast_condition known If (on x) = on (residual_spot known x)
  recast_condition known If (else_on x) = on (residual_spot known x)
  recast_condition known If otherwise = otherwise
  recast_condition known Elif none = none
  recast_condition known Elif (on x) = else_on (residual_spot known x)
  recast_condition known Elif (else_on x) = else_on (residual_spot known x)
  recast_condition known Elif otherwise = otherwise
  recast_condition known Else none = none
  recast_condition known Else (on x) = otherwise
  recast_condition known Else (else_on x) = otherwise
  recast_condition known Else otherwise = otherwise

-- nodes that are judged
pub record Judged (I N : Type 0) : Type 0 where
  pub is_void : N → Bool
  pub condition_of : N → Condition I
  pub in_role : Answers I → Role → N → N

-- true or undecided
abbrev pub is_not_false : Truth → Bool
is_not_false Yes = true
is_not_false No = false
is_not_false Undecided = true

-- the role of the first branch that stays: plain where it is true, @if where it is undecided; a false one never stays
abbrev pub first_role : Truth → Role
first_role Yes = Plain
first_role No = Plain
first_role Undecided = If

-- the role of a branch that stays after it: @else where it is true, @elif where it is undecided; a false one never stays
abbrev pub later_role : Truth → Role
later_role Yes = Else
later_role No = Else
later_role Undecided = Elif

module _ {I N : Type 0} (J : Judged I N) where
  -- whether it is no void
  abbrev pub is_node : N → Bool
  is_node n = not (J.is_void n)

  -- whether it goes on with a chain: its condition is an @elif or an @else
  abbrev pub is_branch : N → Bool
  is_branch n = follows_on (J.condition_of n)

  -- a node before chains: in the first of them where that begins with an @elif or an @else, else in a chain of its own
  abbrev pub attach : N → List (List N) → List (List N)
  attach n [] = (n ∷ []) ∷ []
  attach n ([] ∷ cs) = (n ∷ []) ∷ cs
  attach n ((m ∷ c) ∷ cs) = cond (is_branch m) ((n ∷ m ∷ c) ∷ cs) ((n ∷ []) ∷ (m ∷ c) ∷ cs)

  -- The chains of a list: a node, and the @elif and @else nodes directly after it. A node without a condition begins one too,
  -- and so does an @elif or an @else that stands first.
  abbrev pub chains : List N → List (List N)
  chains [] = []
  chains (n ∷ ns) = attach n (chains ns)

  -- whether the condition of a node holds
  abbrev pub branch : Answers I → N → Truth
  branch known n = holds known (J.condition_of n)

  -- a branch before later ones, none of which is left after a true one
  abbrev pub until : Truth → N → List N → List N
  until Yes n ns = n ∷ []
  until No n ns = n ∷ ns
  until Undecided n ns = n ∷ ns

  -- the branches up to the first true one
  abbrev pub up_to_true : Answers I → List N → List N
  up_to_true known [] = []
  up_to_true known (n ∷ ns) = until (branch known n) n (up_to_true known ns)

  -- the branches that stay
  abbrev pub live : Answers I → List N → List N
  live known c = filter (λ n. is_not_false (branch known n)) (up_to_true known c)

  -- a later branch that stays, as an @else where it is true and else as an @elif
  abbrev pub later : Answers I → N → N
  later known n = J.in_role known (later_role (branch known n)) n

  -- the first one that stays is plain where it is true and else an @if, a later one is an @else or an @elif
  abbrev pub headed : Answers I → List N → List N
  headed known [] = []
  headed known (n ∷ ns) = J.in_role known (first_role (branch known n)) n ∷ map (later known) ns

  -- what is left of a chain: its branches that stay, each in its role
  abbrev pub residual_chain : Answers I → List N → List N
  residual_chain known c = headed known (live known c)

  -- What is left of a list: voids go, and each chain is judged whole.
  abbrev pub residual_list : Answers I → List N → List N
  residual_list known ns = flat_map (residual_chain known) (chains (filter is_node ns))

  -- the nodes of a list that stay, as they were
  abbrev pub staying : Answers I → List N → List N
  staying known ns = flat_map (live known) (chains (filter is_node ns))

  -- what is left of the rest of a chain, of which a branch stays already, or was true
  abbrev pub rest_of_chain : Answers I → Bool → Bool → List N → List N
  rest_of_chain known kept true c = []
  rest_of_chain known true false c = map (later known) (live known c)
  rest_of_chain known false false c = headed known (live known c)

  -- what is left of chains, the first of which may go on with that one
  abbrev pub rest_of_chains : Answers I → Bool → Bool → List (List N) → List N
  rest_of_chains known kept decided [] = []
  rest_of_chains known kept decided ([] ∷ cs) = flat_map (residual_chain known) cs
  rest_of_chains known kept decided ((n ∷ c) ∷ cs) = rest_of_chain known (is_branch n && kept) (is_branch n && decided) (n ∷ c) ++ flat_map (residual_chain known) cs

  -- What is left of a list after a chain that it may go on with, of which a branch stays already, or was true.
  abbrev pub residual_after : Answers I → Bool → Bool → List N → List N
  residual_after known kept decided ns = rest_of_chains known kept decided (chains (filter is_node ns))
