-- What a `Resolutions` is: the modules of a link, the names that were kept, how many turns it took, and the names that symbols
-- are printed as.
use Rattle.std.specs.Prelude.{◌≡◌, ℕ, Bool, true, false, not, ◌&&◌, if◌then◌else◌, Option, Some, None, List, [], ◌∷◌, ◌++◌, Contains, map, filter_map}
use denote.Ref.{Bor}
use Rattle.wesl_tree_names.specs.Path.{Text, Path, path_view}
use Rattle.wesl_tree_names.specs.PathOrder.{same_path}
use Rattle.wesl_tree_names.specs.declared.path.ModulePath.{ModulePath}
use Rattle.wesl_tree_syntax.specs.Unit.{UnitView, spelled, empty_unit}
use Rattle.wesl_tree.specs.Translation.{unit_view}
use Rattle.wesl_tree.specs.declared.unit.TranslationUnit.{TranslationUnit}
use Rattle.wesl_link_symbols.specs.Names.{Declares}
use Rattle.wesl_mangle_forms.specs.declared.mangler.Mangler.{Ghosts}
use Rattle.wesl_link_engine.specs.Recorded.{Write, IsRecordedBy, firsts, writes_of}
use Rattle.wesl_link_engine.specs.Worlds.{Module, table, task_of}
use Rattle.wesl_link_engine.specs.Linked.{IsAssembled}

-- What a link found. It took a turn for each module and for each reached symbol.
pub record Resolved : Type 0 where
  -- the modules of the link, the root's first
  pub modules : List Module
  pub kept : List Text
  -- whether all that the modules declare was asked for
  pub is_eager : Bool
  pub turns : ℕ
  -- the printed name of each symbol
  pub names : Path → Text → Text

-- the unit, as it is spelled, at the path
abbrev pub module_at : ModulePath → TranslationUnit → Module
module_at path unit = record { path = path_view path; unit = spelled (unit_view unit) }

-- the paths of modules, in their order
abbrev pub paths_of : List Module → List Path
paths_of ms = map (λ m. m.path) ms

-- these paths, in their order
abbrev pub paths_told : List (Bor ModulePath) → List Path
paths_told ps = map (λ p. path_view p.now) ps

-- the path of the root, which is the first module; none where there are no modules
abbrev pub first_path : List Module → Option Path
first_path [] = None
first_path (m ∷ ms) = Some m.path

-- nothing is linked: no module, and each symbol prints as its name
pub record IsNothing (r : Resolved) : Type 0 where
  pub modules : r.modules ≡ []
  pub kept : r.kept ≡ []
  pub eager : r.is_eager ≡ false
  pub turns : r.turns ≡ 0
  pub names : (p : Path) (n : Text) → r.names p n ≡ n

-- ---- printed names

-- the names that a mangler gives; those of the root stay where they are not to be mangled
abbrev pub mangled : Path → Bool → (Path → Text → Text) → Path → Text → Text
mangled root mangle_root name_of p n = if same_path p root && not mangle_root then n else name_of p n

-- on each symbol that the modules declare the names agree
abbrev pub NamesAgree : List Module → (Path → Text → Text) → (Path → Text → Text) → Type 0
NamesAgree w names others = (m : Module) (n : Text) → Contains w m → Declares (table m) n → names m.path n ≡ others m.path n

-- the same link, under the names that a mangler gives
pub record IsMangled (name_of : Path → Text → Text) (mangle_root : Bool) (before after : Resolved) : Type 0 where
  pub modules : after.modules ≡ before.modules
  pub kept : after.kept ≡ before.kept
  pub eager : after.is_eager ≡ before.is_eager
  pub turns : after.turns ≡ before.turns
  pub names : (root : Path) → first_path before.modules ≡ Some root → NamesAgree after.modules after.names (mangled root mangle_root name_of)

-- ---- a mangler's record

-- the names that a module declares, each once, where it stands first
abbrev pub declared_names : Module → List Text
declared_names m = firsts (filter_map (λ d. d.name) (table m).declarations)

-- each declared name of each module, reached or not, in module order
abbrev pub writes_from : (Path → Text → Text) → List Module → List Write
writes_from name_of [] = []
writes_from name_of (m ∷ ms) = writes_of name_of m.path (declared_names m) ++ writes_from name_of ms

-- those of the root only where it is to be mangled
abbrev pub writes : (Path → Text → Text) → Bool → List Module → List Write
writes name_of true w = writes_from name_of w
writes name_of false [] = []
writes name_of false (root ∷ others) = writes_from name_of others

-- the mangler's record is what it was with a write for each of these names, in module order
abbrev pub RecordsWrites : {M : Type 0} → Ghosts M → M → M → Bool → List Module → Type 0
RecordsWrites g old new mangle_root w = IsRecordedBy (g.writes old) (writes (g.name_of old) mangle_root w) (g.recorded old) (g.recorded new)

-- ---- the linked unit

-- of the modules, the root's first: the unit is their linked form; of no modules it is the empty unit
abbrev pub IsAssembledOf : Resolved → List Module → UnitView → Type 0
IsAssembledOf r [] unit = unit ≡ empty_unit
IsAssembledOf r (root ∷ others) unit = IsAssembled (root ∷ others) (task_of root r.kept r.is_eager) r.names unit

-- the linked form of the modules, from the kept names of the root or of all that is declared, each symbol under its printed
-- name; of no modules the empty unit
abbrev pub AssemblesTo : Resolved → UnitView → Type 0
AssemblesTo r unit = IsAssembledOf r r.modules unit
