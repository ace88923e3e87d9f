-- A root whose kept names are numbers, and what a link of it finds.
use Rattle.std.specs.Prelude.{◌≡◌, ℕ, Some, None, List, Result, IfErr, drop}
use Rattle.wesl_tree_names.specs.Path.{Text, Path, path_view}
use Rattle.wesl_tree_names.specs.declared.errors.Diagnostic.{Diagnostic}
use Rattle.wesl_tree_names.specs.declared.errors.ResolveError.{ResolveError}
use Rattle.wesl_tree_syntax.specs.Unit.{UnitOf, spelled}
use Rattle.wesl_tree.specs.Translation.{unit_view}
use Rattle.wesl_link_symbols.specs.declared.ids.PathId.{PathId}
use Rattle.wesl_tree_base.specs.declared.ids.NameId.{NameId}
use Rattle.wesl_link_symbols.specs.declared.symbols.Symbol.{Symbol}
use Rattle.wesl_link_reach.specs.Linking as links
use Rattle.wesl_link_symbols.specs.Tables.{Table}
use Rattle.wesl_link_tables.specs.Marks.{AreMarked}
use Rattle.wesl_link_tables.specs.Tables.{table_at, uses}
use Rattle.wesl_link_tables.specs.Numbering.{Numbering, AreRelated, NameAt, IsNumbered}
use Rattle.wesl_link_tables.specs.TextsView.{numbering_of_texts}
use Rattle.wesl_link_tables.specs.declared.texts.NumberTexts.{NumberTexts}
use Rattle.wesl_link_engine.specs.GivenView.{given}
use Rattle.wesl_link_engine.specs.Taking.{AreTaken}
use Rattle.wesl_link_engine.specs.Resolved.{module_at}
use Rattle.wesl_link_engine.specs.Refusal.{TellsFault}
use Rattle.wesl_link_engine.specs.Worlds.{task_of, IsModuleOrder, IsLinked, IsRefused}
use Rattle.wesl_link_engine.specs.Keeping.{IsSound, resolved, modules_of, turns_of}
use Rattle.wesl_link_engine.specs.declared.link.Link.{Link}
use Rattle.wesl_link_engine.specs.declared.loaded.Held.{Held}
use Rattle.wesl_link_engine.specs.declared.resolutions.Resolutions.{Resolutions}
use Rattle.wesl_link_engine.specs.declared.resolve.Root.{Root}

-- the table is that of the root's unit, where it stands
abbrev pub IsTableOf : Numbering → Root → Table PathId NameId → Type 0
IsTableOf nb root t = IsNumbered nb t (table_at (path_view root.path) (spelled (unit_view root.unit)))

-- the marks that are kept with the root are those of its identifiers
abbrev pub HasItsMarks : Numbering → Root → Type 0
HasItsMarks nb root = AreMarked nb root.marks.items (uses (path_view root.path) (spelled (unit_view root.unit)))

-- these are the texts of the root's kept names
abbrev pub AreKeptTexts : Numbering → Root → List Text → Type 0
AreKeptTexts nb root keep = AreRelated (NameAt nb) root.kept.items keep

module _ (hands : Path → UnitOf Text → Type 0) (refuses : Path → ResolveError → Type 0) (nb : Numbering) (root : Root) (limit : ℕ) where
  -- What is found is a link of the root, with the kept names of any such texts, the root first and the others in path
  -- order, each symbol under its own name.
  pub record IsReached (found : Resolutions) : Type 0 where
    pub linked : (keep : List Text) → AreKeptTexts nb root keep
        → IsLinked hands refuses (module_at root.path root.unit) (task_of (module_at root.path root.unit) keep root.is_eager) limit (turns_of found) (modules_of found)
    pub order : IsModuleOrder (module_at root.path root.unit) (modules_of found)
    pub kept : (keep : List Text) → AreKeptTexts nb root keep → (resolved found).kept ≡ keep
    pub eager : (resolved found).is_eager ≡ root.is_eager
    pub sound : IsSound found
    pub names : (p : Path) (n : Text) → (resolved found).names p n ≡ n

  -- a diagnostic tells a fault that stands in a world of the root and the module that holds it, or want of memory
  abbrev pub RefusesNumbered : Result Resolutions Diagnostic → Type 0
  RefusesNumbered result =
      (keep : List Text) → AreKeptTexts nb root keep
      → IfErr result (TellsFault (IsRefused hands refuses (module_at root.path root.unit) (task_of (module_at root.path root.unit) keep root.is_eager) limit))

-- the link holds the root, whose table is the first, and what was linked
abbrev pub IsLinkFrom : Root → NumberTexts → links.Linking PathId NameId → Link → Type 0
IsLinkFrom root numbers linked l =
    l ≡ record {
      root = record { path = root.path; place = 0; unit = root.unit; marks = root.marks };
      others = l.others;
      kept = root.kept;
      is_eager = root.is_eager;
      numbers = numbers;
      linked = linked;
    }

-- What is found holds a link of the root, with the modules that are kept for the other tables, and no symbol was given a name.
pub record HoldsLink (root : Root) (nb : Numbering) (units : List (PathId × Held)) (linked : links.Linking PathId NameId) (found : Resolutions) : Type 0 where
  pub link : Link
  pub holds : found.link ≡ Some link
  pub others : AreTaken nb units (drop 1 linked.tables) link.others.items
  pub texts : numbering_of_texts link.numbers ≡ nb
  pub rest : IsLinkFrom root link.numbers linked link
  pub none_given : (s : Symbol PathId NameId) → given found.given s ≡ None
