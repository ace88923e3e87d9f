-- How the parts of a linked unit are held in numbers.
use Rattle.std.specs.Prelude.{◌≡◌, ◌++◌, Bool, true, false, Option, Some, None, List, [], ◌∷◌, Contains, Vec, length, map}
use Rattle.std.specs.declared.alloc.Global.{Global}
use Rattle.wesl_tree_names.specs.Path.{Text, Path, path_view}
use Rattle.wesl_tree_syntax.specs.Tree.{Tree, forest_of, before, end, identifiers, declaration_node}
use Rattle.wesl_tree_syntax.specs.Unit.{UnitView, forest_of_unit}
use Rattle.wesl_tree_syntax.specs.View.{global_view, placed as tree_of}
use Rattle.wesl_tree_syntax.specs.declared.span.Spanned.{Spanned}
use Rattle.wesl_tree_syntax.specs.declared.declaration.GlobalDirective.{GlobalDirective}
use Rattle.wesl_tree_syntax.specs.declared.declaration.GlobalDeclaration.{GlobalDeclaration}
use Rattle.wesl_link_symbols.specs.declared.ids.PathId.{PathId}
use Rattle.wesl_tree_base.specs.declared.ids.NameId.{NameId}
use Rattle.wesl_link_symbols.specs.declared.symbols.Reference.{Reference}
use Rattle.wesl_link_symbols.specs.Tables.{Declaration, Table}
use Rattle.wesl_link_symbols.specs.Names.{Declares, asked_for}
use Rattle.wesl_link_reach.specs.World.{LeadsTo}
use Rattle.wesl_link_reach.specs.Linking.{Linking}
use Rattle.wesl_link_reach.specs.Keeping.{StandsHeld}
use Rattle.wesl_link_tables.specs.Imports.{first_label}
use Rattle.wesl_link_tables.specs.Numbering.{Numbering, NameAt, PathAt, AreRelated}
use Rattle.wesl_link_tables.specs.TextsView.{numbering_of_texts as numbering}
use Rattle.wesl_link_tables.specs.declared.texts.NumberTexts.{NumberTexts}
use Rattle.wesl_link_tables.specs.declared.marks.Mark.{Mark}
use Rattle.wesl_link_tables.specs.declared.marks.Mark.TheVariants as marks
use Rattle.wesl_link_assembly.specs.Denotations.{symbol, local, free_name, printed_as}
use Rattle.wesl_link_assembly.specs.Linked.{shape, nodes_of, IsLinkedAs}
use Rattle.wesl_link_assembly.specs.Views.{Meaning, denotation_view}
use Rattle.wesl_link_assembly.specs.declared.denotation.Denotation.{Denotation}
use Rattle.wesl_link_engine.specs.Given.{Given}
use Rattle.wesl_link_engine.specs.Linked.{Selects, Joins, Placed, placed, is_assert, IsHeld, AreHeldOf, AreMeanings}
use Rattle.wesl_link_engine.specs.Resolved.{mangled}
use Rattle.wesl_link_engine.specs.Worlds.{table, tables}
use Rattle.wesl_link_engine.specs.Keeping.{name_text, denotation_text, module_of, all_loaded, loaded_modules, modules_in, task_in, or_own, IsLinkOf}
use Rattle.wesl_link_engine.specs.declared.loaded.LoadedModule.{LoadedModule}
use Rattle.wesl_link_engine.specs.declared.link.Link.{Link}
use Rattle.wesl_link_engine.specs.declared.assemble.Parts.{Parts}

-- ---- printed names

-- the name of a symbol: what it was given, and else its own
abbrev pub printed_by : Numbering → Given → PathId → NameId → Text
printed_by nb given p n = or_own (name_text nb n) (given (record { path = p; name = n }))

-- each name that the module declares has the name that the mangler gives, the root's only where it is to be mangled
abbrev pub IsGivenName : Link → Given → Bool → (Path → Text → Text) → LoadedModule → Type 0
IsGivenName l given mangle_root name_of m =
    (p : PathId) (n : NameId) (x : Text) → Declares (table (module_of m)) x → PathAt (numbering l.numbers) p (path_view m.path) → NameAt (numbering l.numbers) n x
    → printed_by (numbering l.numbers) given p n ≡ mangled (path_view l.root.path) mangle_root name_of (path_view m.path) x

-- so it is for all modules
abbrev pub IsGivenAll : Link → Bool → (Path → Text → Text) → Given → Type 0
IsGivenAll l mangle_root name_of given = (m : LoadedModule) → Contains (all_loaded l) m → IsGivenName l given mangle_root name_of m

-- ---- identifiers

-- what the mark asks for, a declaration of the module that is held refers to; in such a one nothing is unclear
abbrev pub IsAskable : Linking PathId NameId → Table PathId NameId → Mark → Type 0
IsAskable k t (marks.Asks r) = StandsHeld k t r
IsAskable k t (marks.Unclear n) = ⊥
IsAskable k t _ = Unit {0}

module _ (nb : Numbering) (k : Linking PathId NameId) (t : Table PathId NameId) where
  -- what an identifier with the mark stands for
  abbrev pub IsMeant : Mark → Meaning → Type 0
  IsMeant (marks.Declares n) d = d ≡ symbol t.path n
  IsMeant (marks.Asks r) (symbol p n) = LeadsTo k.tables (asked_for t r) (record { path = p; name = n })
  IsMeant (marks.Asks r) _ = ⊥
  IsMeant (marks.Unclear n) d = ⊥
  IsMeant (marks.Local b n) d = d ≡ local t.path b (name_text nb n)
  IsMeant (marks.Free n) d = d ≡ free_name (name_text nb n)

  -- what an identifier with each of the marks stands for is added, in their order
  abbrev pub AddsMeanings : List Mark → List Denotation → List Denotation → Type 0
  AddsMeanings ms old new = (ds : List Meaning) × (map denotation_view new ≡ map denotation_view old ++ ds) × AreRelated IsMeant ms ds

-- what has numbers has texts
abbrev pub IsNamed : Numbering → Meaning → Type 0
IsNamed nb (symbol p n) = ((q : Path) × PathAt nb p q) × ((x : Text) × NameAt nb n x)
IsNamed nb (local p b n) = (q : Path) × PathAt nb p q
IsNamed nb (free_name n) = Unit {0}

-- ---- declarations

-- a declaration of that name is held where its symbol is, and of those without a name the const_asserts are
abbrev pub IsHeldHere : Linking PathId NameId → PathId → GlobalDeclaration → Option NameId → Type 0
IsHeldHere k p g (Some n) = Contains k.symbols (record { path = p; name = n })
IsHeldHere k p g None = first_label false is_assert (before (global_view g) end) ≡ true

-- the declaration refers to all that the marks ask for
abbrev pub RefersToAll : Declaration PathId NameId → List Mark → Type 0
RefersToAll d ms = (r : Reference PathId NameId) → Contains ms (marks.Asks r) → Contains d.references r

-- so it is for all marks
abbrev pub AreAskable : Linking PathId NameId → Table PathId NameId → List Mark → Type 0
AreAskable k t ms = (m : Mark) → Contains ms m → IsAskable k t m

-- no mark is unclear
abbrev pub AreClear : List Mark → Type 0
AreClear ms = (n : NameId) → Contains ms (marks.Unclear n) → ⊥

-- ---- parts

-- a global declaration as a tree, its identifiers as numbers
abbrev pub declaration_tree : Spanned GlobalDeclaration → Tree
declaration_tree = tree_of global_view declaration_node

-- the trees of the declarations that were added
abbrev pub nodes : Parts → List Tree
nodes p = map declaration_tree p.declarations.items

-- what identifiers stand for, as it was added
abbrev pub meanings : Parts → List Meaning
meanings p = map denotation_view p.denotations.items

module _ (nb : Numbering) (k : Linking PathId NameId) (t : Table PathId NameId) where
  -- the declaration is added with what its identifiers stand for
  pub record AddsHeld (g : Tree) (ms : List Mark) (before after : Parts) : Type 0 where
    pub meant : List Meaning
    pub declarations : nodes after ≡ nodes before ++ g ∷ []
    pub denotations : meanings after ≡ meanings before ++ meant
    pub means : AreRelated (IsMeant nb k t) ms meant

  -- the declaration is added so where it is held, and else nothing is
  pub data AddsOne (g : Spanned GlobalDeclaration) (name : Option NameId) (ms : List Mark) (before after : Parts) : Type 0 where
    is_added : IsHeldHere k t.path g.node name → AddsHeld (declaration_tree g) ms before after → AddsOne g name ms before after
    is_not_held : (IsHeldHere k t.path g.node name → ⊥) → after ≡ before → AddsOne g name ms before after

-- the nodes are those of declarations, in other numbers
abbrev pub AreAlike : List Tree → List Placed → Type 0
AreAlike ts held = shape (forest_of ts) ≡ shape (forest_of (map (λ d. d.declaration) held))

-- of these declarations those that are held are added, with what their identifiers stand for
pub record AddsPlaced (l : Link) (all : List Placed) (before after : Parts) : Type 0 where
  pub added : List Tree
  pub held : List Placed
  pub meant : List Meaning
  pub declarations : nodes after ≡ nodes before ++ added
  pub denotations : meanings after ≡ meanings before ++ meant
  pub holds : Selects (IsHeld (tables (modules_in l)) (task_in l)) all held
  pub means : Joins (AreMeanings (tables (modules_in l))) held (map (denotation_text (numbering l.numbers)) meant)
  pub named : (d : Meaning) → Contains meant d → IsNamed (numbering l.numbers) d
  pub alike : AreAlike added held

-- the declarations of the module that are held are added, with what their identifiers stand for
abbrev pub AddsModule : Link → LoadedModule → Parts → Parts → Type 0
AddsModule l m before after = AddsPlaced l (placed (module_of m)) before after

-- The parts that were added of these modules, after these words.
pub record AreParts (l : Link) (ms : List LoadedModule) (words : List Meaning) (p : Parts) : Type 0 where
  pub held : List Placed
  pub meant : List Meaning
  pub denotations : meanings p ≡ words ++ meant
  pub holds : Joins (AreHeldOf (tables (modules_in l)) (task_in l)) (loaded_modules ms) held
  pub means : Joins (AreMeanings (tables (modules_in l))) held (map (denotation_text (numbering l.numbers)) meant)
  pub named : (d : Meaning) → Contains meant d → IsNamed (numbering l.numbers) d
  pub alike : AreAlike (nodes p) held

-- ---- a link that was taken apart

-- the modules are those of the link, whose numbers and whose tables these are
pub record AreModulesOf (l : Link) (numbers : NumberTexts) (k : Linking PathId NameId) (ms : List LoadedModule) : Type 0 where
  pub sound : IsLinkOf (task_in l) l
  pub numbers_are : l.numbers ≡ numbers
  pub linked_is : l.linked ≡ k
  pub modules_are : all_loaded l ≡ ms

-- all that a link holds of these modules was added, where none was refused
abbrev pub MovesAll : NumberTexts → Linking PathId NameId → List LoadedModule → Parts → Parts → Type 0
MovesAll numbers k ms old new = (l : Link) → AreModulesOf l numbers k ms → (words : List Meaning) → AreParts l [] words old
    → AreParts l ms words new

-- the module is one of them
pub record IsModuleOf (l : Link) (numbers : NumberTexts) (k : Linking PathId NameId) (m : LoadedModule) : Type 0 where
  pub sound : IsLinkOf (task_in l) l
  pub numbers_are : l.numbers ≡ numbers
  pub linked_is : l.linked ≡ k
  pub inside : Contains (all_loaded l) m

-- ---- the unit

-- one meaning for each identifier
abbrev pub HasMeanings : Vec (Spanned GlobalDirective) Global → Parts → Type 0
HasMeanings ds p = length p.denotations.items ≡ length (identifiers (forest_of_unit (nodes_of ds p.declarations)))

-- the unit of directives and parts, under the names that were given
abbrev pub IsLinkedOf : Numbering → Given → Vec (Spanned GlobalDirective) Global → Parts → UnitView → Type 0
IsLinkedOf nb given ds p unit = IsLinkedAs (printed_as (printed_by nb given)) (nodes_of ds p.declarations) (meanings p) unit
