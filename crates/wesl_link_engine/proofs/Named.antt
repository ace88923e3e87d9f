-- What is told of the modules whose names were given so far.
use Rattle.std.specs.Prelude.{◌≡◌, Some, None, List, Contains}
use Rattle.wesl_tree_names.specs.Path.{Text, Path, path_view}
use Rattle.wesl_link_symbols.specs.declared.ids.PathId.{PathId}
use Rattle.wesl_tree_base.specs.declared.ids.NameId.{NameId}
use Rattle.wesl_link_symbols.specs.Names.{Declares}
use Rattle.wesl_link_tables.specs.Numbering.{Numbering, NameAt, PathAt}
use Rattle.wesl_link_engine.specs.Given.{Given}
use Rattle.wesl_link_engine.specs.Keeping.{module_of}
use Rattle.wesl_link_engine.specs.Worlds.{table}
use Rattle.wesl_link_engine.specs.declared.loaded.LoadedModule.{LoadedModule}
use Rattle.wesl_link_engine.specs.declared.link.Link.{Link}

-- the names that these modules declare have the names that a mangler gives, and no others have one
pub record GivesTo (nb : Numbering) (ms : List LoadedModule) (name_of : Path → Text → Text) (given : Given) : Type 0 where
  pub names : (m : LoadedModule) (p : PathId) (n : NameId) (x : Text) → Contains ms m → Declares (table (module_of m)) x → PathAt nb p (path_view m.path) → NameAt nb n x
      → given (record { path = p; name = n }) ≡ Some (name_of (path_view m.path) x)
  pub none : (p : PathId) (n : NameId) → ((m : LoadedModule) → Contains ms m → PathAt nb p (path_view m.path) → ⊥) → given (record { path = p; name = n }) ≡ None

-- none of these modules has the path of this one
abbrev pub IsFreshAfter : List LoadedModule → LoadedModule → Type 0
IsFreshAfter ms m = (k : LoadedModule) → Contains ms k → path_view k.path ≡ path_view m.path → ⊥

-- no module, or the root alone
abbrev pub AreOnlyRoot : Link → List LoadedModule → Type 0
AreOnlyRoot l ms = (k : LoadedModule) → Contains ms k → k ≡ l.root
