-- The names that a module declares for itself.
use Rattle.std.specs.Prelude.{ℕ, Bool, true, false, List, [], ◌∷◌, ◌++◌, map, if◌then◌else◌}
use Rattle.wesl_tree_names.specs.Path.{Text}
use Rattle.wesl_tree_syntax.specs.Tree.{LabelOf, ForestOf, end, tree, kind, ident, binder, if_attribute, elif_attribute, else_attribute}
use Rattle.wesl_tree_syntax.specs.Unit.{UnitView, name_in}
use Rattle.wesl_scope_strip.specs.Forests.{first_children, one_begins, own_identifiers}

module _ {I : Type 0} where
  -- whether the label is that of an attribute `@if`, `@elif` or `@else`
  abbrev pub is_condition : LabelOf I → Bool
  is_condition (kind if_attribute) = true
  is_condition (kind elif_attribute) = true
  is_condition (kind else_attribute) = true
  is_condition _ = false

  -- whether an import or a declaration, in its node, has a conditional attribute: its first field are its attributes
  abbrev pub is_conditional : ForestOf I → Bool
  is_conditional node = one_begins is_condition (first_children (first_children node))

  -- the names that are bound in these trees
  abbrev pub binders_in : ForestOf I → List I
  binders_in end = []
  binders_in (tree (ident binder x) children others) = x ∷ binders_in others
  binders_in (tree l children others) = binders_in children ++ binders_in others

  -- the content of an import: its fields after its attributes and its path
  abbrev pub content : ForestOf I → ForestOf I
  content (tree _ _ (tree _ _ others)) = others
  content _ = end

  -- the names that an import binds, in its node, if it has no condition
  abbrev pub imported_in : ForestOf I → List I
  imported_in node = if is_conditional node then [] else binders_in (content (first_children node))

  -- the name that a declaration declares, in its node, if it declares one and has no condition
  abbrev pub declared_in : ForestOf I → List I
  declared_in node = if is_conditional node then [] else own_identifiers (first_children node)

  -- the names that these imports bind, those with a condition left out
  abbrev pub imported : ForestOf I → List I
  imported end = []
  imported (tree l node others) = imported_in node ++ imported others

  -- the names that these declarations declare, those with a condition left out
  abbrev pub declared : ForestOf I → List I
  declared end = []
  declared (tree l node others) = declared_in node ++ declared others

-- the numbers of the names of the imports and then of the declarations that have no condition, in document order
abbrev pub plain_numbers : UnitView → List ℕ
plain_numbers u = imported u.imports.children ++ declared u.declarations.children

-- the spellings of these names, in the same order
abbrev pub plain_names : UnitView → List Text
plain_names u = map (name_in u.names) (plain_numbers u)
