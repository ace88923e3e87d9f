-- The linked form: what a link leaves of a world of modules (WESL, "Imports").
use Rattle.std.specs.Prelude.{◌≡◌, ◌++◌, ℕ, Bool, true, false, Option, Some, None, List, [], ◌∷◌, Contains, flat_map, map}
use Rattle.wesl_tree_names.specs.Path.{Text, Path}
use Rattle.wesl_tree_syntax.specs.Tree.{LabelOf, kind, const_assert, TreeOf, trees, branch, forest_of, identifiers, imports as imports_kind, directive_list, declarations as declarations_kind}
use Rattle.wesl_tree_syntax.specs.Unit.{UnitOf, UnitView}
use Rattle.wesl_link_symbols.specs.declared.symbols.Reference.{Reference}
use Rattle.wesl_link_symbols.specs.declared.symbols.Symbol.{Symbol}
use Rattle.wesl_link_symbols.specs.Tables.{Table}
use Rattle.wesl_link_reach.specs.World.{Task, LeadsTo, Reached}
use Rattle.wesl_scope_occurrences.specs.Pieces.{declarations_in}
use Rattle.wesl_link_tables.specs.Imports.{first_label}
use Rattle.wesl_link_tables.specs.Numbering.{AreRelated}
use Rattle.wesl_link_tables.specs.Tables.{name_of, paired, uses}
use Rattle.wesl_link_tables.specs.Uses.{Use, declares, refers, unclear, local as in_block}
use Rattle.wesl_link_assembly.specs.Denotations.{DenotationOf, symbol, local, free_name, printed_as}
use Rattle.wesl_link_assembly.specs.Directives.{Thins}
use Rattle.wesl_link_assembly.specs.Linked.{IsLinkedAs}
use Rattle.wesl_link_engine.specs.Worlds.{Module, tables}

-- ---- what identifiers stand for

-- what an identifier of a linked unit stands for, with paths and names as texts, and blocks by their numbers
abbrev pub Denotation : Type 0
Denotation = DenotationOf Path Text ℕ

-- what the module at `own` asks for leads to the symbol
abbrev pub AskedLeadsTo : List (Table Path Text) → Path → Reference Path Text → Symbol Path Text → Type 0
AskedLeadsTo w own asked s = LeadsTo w (record { asker = Some own; path = asked.path; name = asked.name; from = asked.from }) s

-- What an identifier of the module at `own` stands for: a declared name for its symbol, a name of a block for itself there,
-- a reference for what that leads to which it asks for, and where it asks for nothing, for its name. A name that is unclear
-- stands for nothing.
abbrev pub StandsFor : List (Table Path Text) → Path → Use Path Text → Denotation → Type 0
StandsFor w own (declares n) d = d ≡ symbol own n
StandsFor w own (in_block b n) d = d ≡ local own b n
StandsFor w own (refers n asked) (symbol p m) = (a : Reference Path Text) × Contains asked a × AskedLeadsTo w own a (record { path = p; name = m })
StandsFor w own (refers n asked) (free_name m) = (m ≡ n) × (asked ≡ [])
StandsFor w own (refers n asked) (local p b m) = ⊥
StandsFor w own (unclear n x) d = ⊥

-- ---- what is held

-- a declaration of a module, and what its identifiers are, in document order
pub record Placed : Type 0 where
  pub home : Module
  pub declaration : TreeOf Text
  pub uses : List (Use Path Text)

-- the declarations of a module, in the order of its source
abbrev pub placed : Module → List Placed
placed m = paired (λ t us. record { home = m; declaration = t; uses = us }) (declarations_in m.unit) (uses m.path m.unit)

-- whether the label is that of a const_assert
abbrev pub is_assert : {I : Type 0} → LabelOf I → Bool
is_assert (kind const_assert) = true
is_assert _ = false

-- a declaration whose symbol is reached is held, a const_assert, and no void
abbrev pub IsHeldAs : List (Table Path Text) → Task Path Text → Placed → Option Text → Type 0
IsHeldAs w task d (Some n) = Reached w task (record { path = d.home.path; name = n })
IsHeldAs w task d None = first_label false is_assert d.declaration.children ≡ true

-- the declaration is held: the symbol of the name that it binds is reached, or it is a const_assert
abbrev pub IsHeld : List (Table Path Text) → Task Path Text → Placed → Type 0
IsHeld w task d = IsHeldAs w task d (name_of d.declaration)

-- those of which Q holds, in their order
pub data Selects {X : Type 0} (Q : X → Type 0) : List X → List X → Type 0 where
  none : Selects Q [] []
  taken : (x : X) (xs ys : List X) → Q x → Selects Q xs ys → Selects Q (x ∷ xs) (x ∷ ys)
  left : (x : X) (xs ys : List X) → (Q x → ⊥) → Selects Q xs ys → Selects Q (x ∷ xs) ys

-- one list for each, joined
pub data Joins {X Y : Type 0} (R : X → List Y → Type 0) : List X → List Y → Type 0 where
  none : Joins R [] []
  one_more : (x : X) (xs : List X) (ys zs : List Y) → R x ys → Joins R xs zs → Joins R (x ∷ xs) (ys ++ zs)

-- the held declarations of a module, in the order of its source
abbrev pub AreHeldOf : List (Table Path Text) → Task Path Text → Module → List Placed → Type 0
AreHeldOf w task m held = Selects (IsHeld w task) (placed m) held

-- what the identifiers of a declaration stand for, in document order
abbrev pub AreMeanings : List (Table Path Text) → Placed → List Denotation → Type 0
AreMeanings w d meanings = AreRelated (StandsFor w d.home.path) d.uses meanings

-- ---- the whole

-- the directives of modules, one after the other
abbrev pub directives_in : List Module → List (TreeOf Text)
directives_in ms = flat_map (λ m. trees m.unit.directives.children) ms

-- the unit of these directives and held declarations, which has no imports
abbrev pub unit_of : List (TreeOf Text) → List Placed → UnitOf Text
unit_of directives held = record { imports = branch imports_kind []; directives = branch directive_list directives; declarations = branch declarations_kind (map (λ d. d.declaration) held) }

-- The linked unit of modules in their order: of equal adjacent directives one, and the held declarations of each module;
-- references without their paths, each identifier under the name of what it stands for (words stand for themselves), and
-- numbered by it.
pub record IsAssembled (w : List Module) (task : Task Path Text) (names : Path → Text → Text) (unit : UnitView) : Type 0 where
  pub directives : List (TreeOf Text)
  pub held : List Placed
  pub meanings : List Denotation
  pub thinned : Thins (directives_in w) directives
  pub holds : Joins (AreHeldOf (tables w) task) w held
  pub means : Joins (AreMeanings (tables w)) held meanings
  pub linked : IsLinkedAs (printed_as names) (unit_of directives held) (map free_name (identifiers (forest_of directives)) ++ meanings) unit
