-- What a `var` says in its `<..>`: an address space and an access mode, which a compiler reads as names (WGSL, "Address
-- Spaces", "Memory Access Mode").
use Rattle.std.specs.Prelude.{Option, Some, None, List, [], ◌∷◌, ◌++◌, map}
use Rattle.std.specs.Option.{option_map, option_to_list}
use Rattle.wesl_tree_names.specs.Path.{Text}
use Rattle.wesl_tree_syntax.specs.Tree.{LabelOf, ForestOf, end, tree, kind, ident, space, access, binder, var_kind, declaration}
use Rattle.wesl_tree_syntax.specs.Unit.{UnitOf, forest_of_unit}
use Rattle.wesl_tree_syntax.specs.declared.declaration.AddressSpace.{AddressSpace}
use Rattle.wesl_tree_syntax.specs.declared.declaration.AddressSpace.TheVariants.{Function, Private, Workgroup, Uniform, Storage, Handle}
use Rattle.wesl_tree_syntax.specs.declared.declaration.AccessMode.{AccessMode}
use Rattle.wesl_tree_syntax.specs.declared.declaration.AccessMode.TheVariants.{Read, Write, ReadWrite}
use Rattle.wesl_text_form.specs.Operators.{space_word, access_word}

-- what a declaration says of its name: an address space, and perhaps an access mode
abbrev pub Memory : Type 0
Memory = Option (AddressSpace × Option AccessMode)

-- the words of these
abbrev pub memory_words : Memory → List Text
memory_words None = []
memory_words (Some m) = space_word m.0 ∷ option_to_list (option_map access_word m.1)

-- the words of all address spaces, of all access modes, and of both: what a `var` may say
abbrev pub every_space : List Text
every_space = map space_word (Function ∷ Private ∷ Workgroup ∷ Uniform ∷ Storage ∷ Handle ∷ [])

abbrev pub every_mode : List Text
every_mode = map access_word (Read ∷ Write ∷ ReadWrite ∷ [])

abbrev pub every_word : List Text
every_word = every_space ++ every_mode

module _ {I : Type 0} where
  -- the words in trees side by side, in document order
  abbrev pub words_in : ForestOf I → List Text
  words_in end = []
  words_in (tree (space s) children others) = space_word s ∷ (words_in children ++ words_in others)
  words_in (tree (access a) children others) = access_word a ∷ (words_in children ++ words_in others)
  words_in (tree l children others) = words_in children ++ words_in others

  -- those of the `var` among the fields of a declaration
  abbrev pub words_of_var : ForestOf I → List Text
  words_of_var end = []
  words_of_var (tree (kind var_kind) children others) = words_in children
  words_of_var (tree l children others) = words_of_var others

  -- the words that a node says of the name that it declares: only a declaration with `var` says any
  abbrev pub words_of : LabelOf I → ForestOf I → List Text
  words_of (kind declaration) children = words_of_var children
  words_of _ children = []

  -- of each name that is declared in the fields of a node, and in what they hold, the words that are said of it: of those
  -- that the node itself declares the words ws
  abbrev pub said : List Text → ForestOf I → List (List Text)
  said ws end = []
  said ws (tree (ident binder x) children others) = ws ∷ said ws others
  said ws (tree (ident r x) children others) = said ws others
  said ws (tree l children others) = said (words_of l children) children ++ said ws others

  -- the same, each with the name
  abbrev pub said_of : List Text → ForestOf I → List (List Text × I)
  said_of ws end = []
  said_of ws (tree (ident binder x) children others) = (ws, x) ∷ said_of ws others
  said_of ws (tree (ident r x) children others) = said_of ws others
  said_of ws (tree l children others) = said_of (words_of l children) children ++ said_of ws others

  -- the words that are said of each name that a module declares, in document order
  abbrev pub sayings : UnitOf I → List (List Text)
  sayings u = said [] (forest_of_unit u)
