-- What the imports of a module bind (WESL, "Imports" and "Visibility").
use Rattle.std.specs.Prelude.{ℕ, suc, Bool, true, false, ◌||◌, Option, Some, None, List, [], ◌∷◌, ◌++◌, if◌then◌else◌}
use Rattle.wesl_tree_names.specs.Path.{Text, Path, from_package, extend, join}
use Rattle.wesl_tree_syntax.specs.Tree.{LabelOf, ForestOf, TreeOf, end, tree, kind, texts, path, identifiers, trees, publish, import_item, import_entry}
use Rattle.wesl_tree_syntax.specs.Unit.{UnitOf}
use Rattle.wesl_cond_choices.specs.declared.place.Place.{Place}
use Rattle.wesl_cond_choices.specs.declared.place.Place.TheVariants as places
use Rattle.wesl_link_symbols.specs.declared.symbols.Import.{Import}

module _ {I : Type 0} where
  -- the children of the first tree, and none where there is no tree
  abbrev pub below : ForestOf I → ForestOf I
  below end = end
  below (tree l children others) = children

  -- the trees after the first, and none where there is no tree
  abbrev pub after : ForestOf I → ForestOf I
  after end = end
  after (tree l children others) = others

  -- whether a node is an item of an import, with or without a new name
  abbrev pub is_item : LabelOf I → Bool
  is_item (kind import_item) = true
  is_item _ = false

  -- whether a node is an entry of a collection
  abbrev pub is_entry : LabelOf I → Bool
  is_entry (kind import_entry) = true
  is_entry _ = false

  -- whether an attribute is `@publish`
  abbrev pub is_publish : LabelOf I → Bool
  is_publish (kind publish) = true
  is_publish _ = false

  -- the texts of a label, such as the components of an entry; a label of another sort has none
  abbrev pub label_texts : LabelOf I → List Text
  label_texts (texts names) = names
  label_texts _ = []

  -- the path of a label, if it has one
  abbrev pub label_path : LabelOf I → Option Path
  label_path (path p) = Some p
  label_path _ = None

  -- the label of the first tree, read by `f`, and `none` where there is no tree
  abbrev pub first_label : {X : Type 0} → X → (LabelOf I → X) → ForestOf I → X
  first_label none f end = none
  first_label none f (tree l children others) = f l

-- Where the parts of an import statement lead.
pub data Base : Type 0 where
  -- the statement has no path: an entry's first component is the name of a package
  unset : Base
  -- to no module
  nowhere : Base
  to : Path → Base

-- where an entry with these components leads
abbrev pub entered : Base → List Text → Base
entered unset [] = nowhere
entered unset (first ∷ names) = to (record { origin = from_package first; components = names })
entered nowhere names = nowhere
entered (to p) names = to (extend p names)

-- where a statement with this path leads in the module at `own`; one without a path leaves it to its entries
abbrev pub base_of : Path → Option Path → Base
base_of own None = unset
base_of own (Some p) = to (join own p)

module _ {I : Type 0} (stands : Place) where
  -- The name that an import binds, its target, whether other modules see it, and where its statement stands. From where it
  -- asks, and what it finds there, is not settled yet.
  abbrev pub import_of : Bool → Path → I → I → Import Path I
  import_of published p item bound = record { bound = bound; path = p; item = item; published = published; place = stands; from = places.Always; order = 2 }

  -- An item with a target is an import; its identifiers are its own name and, where it has one, its new name, which is then
  -- bound.
  abbrev pub item_imports : Bool → Base → List I → List (Import Path I)
  item_imports published (to p) (item ∷ []) = import_of published p item item ∷ []
  item_imports published (to p) (item ∷ bound ∷ _) = import_of published p item bound ∷ []
  item_imports published _ _ = []

  -- the imports of an import's content, and of the entries in it
  abbrev pub content_imports : Bool → Base → ForestOf I → List (Import Path I)
  content_imports published base end = []
  content_imports published base (tree l children others) =
      (if is_item l then item_imports published base (identifiers children)
      else if is_entry l then content_imports published (entered base (first_label [] label_texts children)) children
      else content_imports published base children)
      ++ content_imports published base others

module _ {I : Type 0} where
  -- whether one of the attributes is `@publish`
  abbrev pub is_published : ForestOf I → Bool
  is_published end = false
  is_published (tree l children others) = first_label false is_publish children || is_published others

  -- the fields of a statement are its attributes, its path and its content
  abbrev pub statement_imports : Path → Place → ForestOf I → List (Import Path I)
  statement_imports own stands fields =
      content_imports stands (is_published (below fields)) (base_of own (first_label None label_path (below (after fields)))) (after (after fields))

  -- statements from this number on
  abbrev pub imports_from : Path → ℕ → List (TreeOf I) → List (Import Path I)
  imports_from own j [] = []
  imports_from own j (t ∷ ts) = statement_imports own (places.Import j) (below t.children) ++ imports_from own (suc j) ts

  -- the imports with a target of these statements of the module at `own`, in document order
  abbrev pub all_imports : Path → ForestOf I → List (Import Path I)
  all_imports own statements = imports_from own 0 (trees statements)

  -- the imports with a target of the module at this path, in document order
  abbrev pub imports : Path → UnitOf I → List (Import Path I)
  imports own u = all_imports own u.imports.children
