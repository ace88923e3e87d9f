-- Units of parts: imports, directives and declarations.
use Rattle.std.specs.Prelude.{◌≡◌, true, is_some, Contains}
use Rattle.wesl_tree_names.specs.Path.{Text}
use Rattle.wesl_tree_syntax.specs.Tree.{TreeOf, kind, end, tree, trees, imports as imports_kind, directive_list, declarations as declarations_kind}
use Rattle.wesl_tree_syntax.specs.Unit.{UnitOf}
use Rattle.wesl_text_form.specs.Productions.{Sort, an_import, a_directive, a_declaration}
use Rattle.wesl_text_form.specs.Spelling.{Forest}
use Rattle.wesl_text_form.specs.Says.{IsWritable, spelling_as}

-- its three trees are a list of imports, one of directives, and one of declarations
pub record IsUnit (u : UnitOf Text) : Type 0 where
  pub imports : u.imports.label ≡ kind imports_kind
  pub directives : u.directives.label ≡ kind directive_list
  pub declarations : u.declarations.label ≡ kind declarations_kind

-- each of the trees is writable in the place of a sort, alone
abbrev pub AreWritableAs : Sort → Forest → Type 0
AreWritableAs s end = Unit {0}
AreWritableAs s (tree l children others) = (is_some (spelling_as s (record { label = l; children = children })) ≡ true) × AreWritableAs s others

-- each part of the unit is writable alone
pub record AreParts (u : UnitOf Text) : Type 0 where
  pub imports : AreWritableAs an_import u.imports.children
  pub directives : AreWritableAs a_directive u.directives.children
  pub declarations : AreWritableAs a_declaration u.declarations.children

-- a writable unit has the tree among these of its trees
abbrev pub IsPartOf : (UnitOf Text → TreeOf Text) → TreeOf Text → Type 0
IsPartOf part t = (u : UnitOf Text) × (IsWritable u ≡ true) × Contains (trees (part u).children) t
