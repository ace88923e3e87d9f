-- A whole module: a table of names, and its imports, directives and declarations.
use Rattle.std.specs.Prelude.{ℕ, Bool, true, false, ◌&&◌, List, [], length, get_or, if◌then◌else◌}
use Rattle.wesl_tree_names.specs.Path.{Text}
use Rattle.wesl_tree_syntax.specs.Tree.{ForestOf, TreeOf, Tree, kind, void, end, tree, branch, identifiers, respell, tree_below, imports as imports_kind, directive_list, declarations as declarations_kind}

-- what a module says: numbers for its identifiers, and a name for each number
pub record UnitView : Type 0 where
  pub names : List Text
  pub imports : Tree
  pub directives : Tree
  pub declarations : Tree

-- a module without names, imports, directives and declarations
abbrev pub empty_unit : UnitView
empty_unit = record { names = []; imports = branch imports_kind []; directives = branch directive_list []; declarations = branch declarations_kind [] }

-- every identifier has a name in the table
abbrev pub unit_below : UnitView → Bool
unit_below u = tree_below (length u.names) u.imports && tree_below (length u.names) u.directives && tree_below (length u.names) u.declarations

-- imports, directives and declarations, where an identifier is an `I`
pub record UnitOf (I : Type 0) : Type 0 where
  pub imports : TreeOf I
  pub directives : TreeOf I
  pub declarations : TreeOf I

module _ {I : Type 0} where
  -- the imports, the directives and the declarations as three trees side by side
  abbrev pub forest_of_unit : UnitOf I → ForestOf I
  forest_of_unit u = tree u.imports.label u.imports.children (tree u.directives.label u.directives.children (tree u.declarations.label u.declarations.children end))

-- the three trees of a module without its table of names, so that each identifier is its number
abbrev pub trees_of : UnitView → UnitOf ℕ
trees_of u = record { imports = u.imports; directives = u.directives; declarations = u.declarations }

-- the name of a number in a table; a number outside has the empty text
abbrev pub name_in : List Text → ℕ → Text
name_in names i = get_or names i []

-- each identifier replaced by its name
abbrev pub spelled : UnitView → UnitOf Text
spelled u = record { imports = respell (name_in u.names) u.imports; directives = respell (name_in u.names) u.directives; declarations = respell (name_in u.names) u.declarations }

-- the numbers of its identifiers in document order
abbrev pub numbers : UnitView → List ℕ
numbers u = identifiers (forest_of_unit (trees_of u))

module _ {I : Type 0} where
  -- whether the trees begin with a void declaration
  abbrev pub begins_void : ForestOf I → Bool
  begins_void end = false
  begins_void (tree (kind void) children others) = true
  begins_void (tree _ children others) = false

  -- a list without the nodes that hold a void declaration
  abbrev pub without_voids : ForestOf I → ForestOf I
  without_voids end = end
  without_voids (tree l children others) = if begins_void children then without_voids others else tree l children (without_voids others)
