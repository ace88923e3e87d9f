-- The flags that a module names in its formulas.
use Rattle.std.specs.Prelude.{◌≡◌, List, [], ◌∷◌, ◌++◌, Bool, true, false, ◌||◌}
use Rattle.wesl_cond_chains.specs.Picked.{Choice, chosen}
use Rattle.wesl_cond_features.specs.Answers.{Answers, or_else}
use Rattle.wesl_tree_syntax.specs.Nodes.{is_formula}
use Rattle.wesl_tree_syntax.specs.Tree.{LabelOf, ForestOf, end, tree, ident}
use Rattle.wesl_tree_syntax.specs.Unit.{UnitOf}

module _ {I : Type 0} where
  -- the identifier that a label is, inside a formula; outside of formulas, and of any other label, none
  abbrev pub identifier : Bool → LabelOf I → List I
  identifier true (ident r name) = name ∷ []
  identifier _ _ = []

  -- all identifiers in formulas, in document order, with repeats
  abbrev pub flags_in : Bool → ForestOf I → List I
  flags_in inside end = []
  flags_in inside (tree l children others) = identifier inside l ++ flags_in (inside || is_formula l) children ++ flags_in inside others

  -- all flags of a module, in document order, with repeats
  abbrev pub flags_of : UnitOf I → List I
  flags_of u = flags_in false u.imports.children ++ flags_in false u.directives.children ++ flags_in false u.declarations.children

  -- the flags of this list that are answered are so in the choice
  abbrev pub AgreesOn : List I → Choice I → Answers I → Type 0
  AgreesOn [] choice known = Unit {0}
  AgreesOn (flag ∷ flags) choice known = (or_else (known flag) (chosen choice flag) ≡ chosen choice flag) × AgreesOn flags choice known
