-- Units whose identifiers stand for something, and how they are named and numbered.
use Rattle.std.specs.Prelude.{◌≡◌, ◌<◌, ◌↔◌, ℕ, List, [], Contains, Vec, length}
use Rattle.std.specs.declared.alloc.Global.{Global}
use Rattle.wesl_tree_names.specs.Path.{Text}
use Rattle.wesl_tree_syntax.specs.Tree.{ForestOf, branch, identifiers, respell, respell_forest, imports as imports_kind}
use Rattle.wesl_tree_syntax.specs.Unit.{UnitOf, UnitView, forest_of_unit, spelled, numbers}
use Rattle.wesl_tree_syntax.specs.View.{directives_tree, declarations_tree}
use Rattle.wesl_tree_syntax.specs.declared.span.Spanned.{Spanned}
use Rattle.wesl_tree_syntax.specs.declared.declaration.GlobalDirective.{GlobalDirective}
use Rattle.wesl_tree_syntax.specs.declared.declaration.GlobalDeclaration.{GlobalDeclaration}
use Rattle.wesl_tree_syntax.specs.Numbers.{AreNumbers}
use Rattle.wesl_link_assembly.specs.Pathless.{without_paths}

-- directives and declarations, and no imports
abbrev pub nodes_of : Vec (Spanned GlobalDirective) Global → Vec (Spanned GlobalDeclaration) Global → UnitOf ℕ
nodes_of ds gs = record { imports = branch imports_kind []; directives = directives_tree ds; declarations = declarations_tree gs }

-- all but which identifiers trees have, and spans
abbrev pub shape : {I : Type 0} → ForestOf I → ForestOf (Unit {0})
shape = respell_forest (λ i. tt)

-- a unit, each identifier under a name
abbrev pub printed_unit : {K : Type 0} → (K → Text) → UnitOf K → UnitOf Text
printed_unit print u = record { imports = respell print u.imports; directives = respell print u.directives; declarations = respell print u.declarations }

-- The unit of the nodes whose identifiers stand for this, in document order: references lose their paths, each thing is
-- named as it is printed, and two identifiers have one number exactly where they stand for one thing; numbers run
-- 0, 1, 2, .. by first occurrence. The table of names has one name for each number.
pub record IsLinkedAs {I K : Type 0} (print : K → Text) (nodes : UnitOf I) (denotations : List K) (unit : UnitView) : Type 0 where
  pub linked : UnitOf K
  pub same_shape : shape (forest_of_unit linked) ≡ shape (without_paths (forest_of_unit nodes))
  pub meanings : identifiers (forest_of_unit linked) ≡ denotations
  pub named : spelled unit ≡ printed_unit print linked
  pub numbered : AreNumbers denotations (numbers unit)
  pub table : (m : ℕ) → (m < length unit.names) ↔ Contains (numbers unit) m
