-- What is promised of units with other names.
use Rattle.std.specs.Prelude.{◌≡◌, ◌↔◌, true, is_some, Contains}
use Rattle.wesl_tree_names.specs.Path.{Text}
use Rattle.wesl_tree_syntax.specs.Tree.{TreeOf, end, before, trees}
use Rattle.wesl_tree_syntax.specs.Unit.{UnitOf, forest_of_unit}
use Rattle.wesl_text_form.specs.Productions.{Sort}
use Rattle.wesl_text_form.specs.Says.{IsWritable, spelling_as}
use Rattle.wesl_text_respell.specs.Respelled.{IsRespelled}
use Rattle.wesl_text_respell.specs.Joined.{IsUnit, AreParts, IsPartOf}

-- a unit that is writable is so under other names
abbrev pub RespelledUnits : Type 0
RespelledUnits = (u v : UnitOf Text) → IsRespelled (forest_of_unit u) (forest_of_unit v) → IsWritable u ≡ true → IsWritable v ≡ true

-- and so is a tree in the place of a sort
abbrev pub RespelledTrees : Type 0
RespelledTrees =
    (s : Sort) (t w : TreeOf Text) → IsRespelled (before t end) (before w end) → is_some (spelling_as s t) ≡ true → is_some (spelling_as s w) ≡ true

-- a unit is writable exactly where each of its parts is, alone
abbrev pub UnitsOfParts : Type 0
UnitsOfParts = (u : UnitOf Text) → IsUnit u → (IsWritable u ≡ true) ↔ AreParts u

-- a unit without imports, whose directives and declarations are each one of a writable unit, is writable
abbrev pub JoinedUnits : Type 0
JoinedUnits =
    (u : UnitOf Text) → IsUnit u → u.imports.children ≡ end
    → ((t : TreeOf Text) → Contains (trees u.directives.children) t → IsPartOf (λ v. v.directives) t)
    → ((t : TreeOf Text) → Contains (trees u.declarations.children) t → IsPartOf (λ v. v.declarations) t)
    → IsWritable u ≡ true
