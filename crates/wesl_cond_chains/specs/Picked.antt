-- What a choice picks: of each chain the first branch whose formula is true.
use Rattle.std.specs.Prelude.{List, [], ◌∷◌, Bool, true, false, cond}
use Rattle.std.specs.List.{flat_map, filter}
use Rattle.wesl_cond_features.specs.declared.chain.Role.TheVariants.{Plain}
use Rattle.wesl_cond_chains.specs.Chains.{Condition, none, on, else_on, otherwise, Judged, is_node, chains}
use Rattle.wesl_cond_chains.specs.Lists.{element, through}
use Rattle.wesl_cond_chains.specs.Residual.{first_tree}
use Rattle.wesl_cond_features.specs.Answers.{Answers}
use Rattle.wesl_cond_chains.specs.Formulas.{value_under}
use Rattle.wesl_cond_features.specs.declared.features.Truth.TheVariants.{Yes, No}
use Rattle.wesl_tree_syntax.specs.Tree.{ForestOf, TreeOf, end, tree}
use Rattle.wesl_tree_syntax.specs.Unit.{UnitOf}

-- which flags are true
abbrev pub Choice : Type 0 → Type 0
Choice I = I → Bool

module _ {I : Type 0} where
  -- the answers of a choice
  abbrev pub chosen : Choice I → Answers I
  chosen choice = λ flag. cond (choice flag) Yes No

  -- no condition and an @else count as true
  abbrev pub is_true : Choice I → Condition I → Bool
  is_true choice none = true
  is_true choice (on x) = value_under choice x.form
  is_true choice (else_on x) = value_under choice x.form
  is_true choice otherwise = true

module _ {I N : Type 0} (J : Judged I N) (choice : Choice I) where
  -- of a chain the first branch that is true, without its condition; nothing where none is true
  abbrev pub picked_chain : List N → List N
  picked_chain [] = []
  picked_chain (n ∷ c) = cond (is_true choice (J.condition_of n)) (J.in_role (chosen choice) Plain n ∷ []) (picked_chain c)

  -- what is picked of each chain of a list; voids go
  abbrev pub picked_list : List N → List N
  picked_list ns = flat_map picked_chain (chains J (filter (is_node J) ns))

module _ {I : Type 0} where
  -- trees, with what is picked of each judged list in them
  abbrev pub picked_forest : Choice I → ForestOf I → ForestOf I
  picked_forest choice = through (picked_list element choice) false

  -- a tree, with what is picked of each judged list in it
  abbrev pub picked_tree : Choice I → TreeOf I → TreeOf I
  picked_tree choice t = first_tree t (picked_forest choice (tree t.label t.children end))

  -- a unit, with what is picked of each judged list in it
  abbrev pub picked_unit : Choice I → UnitOf I → UnitOf I
  picked_unit choice u = record { imports = picked_tree choice u.imports; directives = picked_tree choice u.directives; declarations = picked_tree choice u.declarations }
