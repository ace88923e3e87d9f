-- Why a link is refused.
use Rattle.std.specs.Prelude.{◌≡◌, ◌⊎◌, false, Option, Some, None, option_map, slice_get, string_bytes, String}
use Rattle.std.specs.declared.alloc.Global.{Global}
use Rattle.wesl_tree_names.specs.Path.{Text, Path, path_view}
use Rattle.wesl_tree_names.specs.Errors.{resolver_is_memory, error_of_resolve, IsBare}
use Rattle.wesl_tree_names.specs.declared.errors.ImportError as import_error
use Rattle.wesl_tree_names.specs.declared.errors.ResolveError as resolve_error
use Rattle.wesl_tree_names.specs.declared.errors.Error as error
use Rattle.wesl_tree_names.specs.declared.errors.Diagnostic.{Diagnostic, out-Diagnostic}
use Rattle.wesl_tree_names.specs.declared.path.ModulePath.{ModulePath}
use Rattle.wesl_link_symbols.specs.declared.ids.PathId.{PathId}
use Rattle.wesl_link_reach.specs.declared.error.LinkError.{LinkError}
use Rattle.wesl_link_reach.specs.declared.error.LinkError.TheVariants as faults
use Rattle.wesl_link_reach.specs.Faults.{Fault, duplicate, refused, missing, private, too_many, ambiguous, too_many_flags}
use Rattle.wesl_link_tables.specs.Numbering.{Numbering, NameAt, PathAt}

-- ---- what is told

-- the fault that an error of an import tells is one of which P holds; want of memory is no such error, nor what holds it
abbrev pub TellsOfImport : (Fault Path Text resolve_error.ResolveError → Type 0) → import_error.ImportError → Type 0
TellsOfImport P (import_error.DuplicateSymbol n) = (p : Path) × P (duplicate p (string_bytes n))
TellsOfImport P (import_error.ResolveError e) = (resolver_is_memory e ≡ false) × P (refused e)
TellsOfImport P (import_error.MissingDecl p n) = P (missing (path_view p) (string_bytes n))
TellsOfImport P (import_error.Private n p) = P (private (string_bytes n) (path_view p))
TellsOfImport P (import_error.AmbiguousSymbol n) = P (ambiguous (string_bytes n))
TellsOfImport P (import_error.TooManyFlags p) = P (too_many_flags (path_view p))

-- the error tells a fault of which P holds, or want of memory
abbrev pub TellsOf : (Fault Path Text resolve_error.ResolveError → Type 0) → error.Error → Type 0
TellsOf P (error.Import e) = TellsOfImport P e
TellsOf P (error.ModuleLimit k) = P (too_many k)
TellsOf P error.Memory = Unit {0}
TellsOf P _ = ⊥

-- the module that holds a fault, where one does: it has the two targets, or it lacks the name or hides it
abbrev pub home_of : {E : Type 0} → Fault Path Text E → Option Path
home_of (duplicate p n) = Some p
home_of (missing p n) = Some p
home_of (private n p) = Some p
home_of _ = None

-- the diagnostic tells this module, or where there is none no module, and nothing else of the place
pub record TellsHome (home : Option Path) (d : Diagnostic) : Type 0 where
  pub home_told : option_map path_view (out-Diagnostic d).«module» ≡ home
  pub no_declaration : (out-Diagnostic d).declaration ≡ None
  pub no_display : (out-Diagnostic d).display ≡ None
  pub no_span : (out-Diagnostic d).span ≡ None
  pub no_source : (out-Diagnostic d).source ≡ None

-- the diagnostic tells a fault of which P holds and the module that holds it, or want of memory and no module
pub record TellsFault (P : Fault Path Text resolve_error.ResolveError → Type 0) (d : Diagnostic) : Type 0 where
  pub fault : TellsOf (λ f. P f × TellsHome (home_of f) d) (out-Diagnostic d).error
  pub memory : (out-Diagnostic d).error ≡ error.Memory → TellsHome None d

-- ---- in numbers

-- the numbers that the fault has are numbers of names and of paths
abbrev pub HasNumbers : Numbering → LinkError resolve_error.ResolveError → Type 0
HasNumbers numbering (faults.DuplicateSymbol p n) = (x : Text) × NameAt numbering n x
HasNumbers numbering (faults.Refused r) = Unit {0}
HasNumbers numbering (faults.MissingDecl p n) = ((q : Path) × PathAt numbering p q) × ((x : Text) × NameAt numbering n x)
HasNumbers numbering (faults.Private n p) = ((x : Text) × NameAt numbering n x) × ((q : Path) × PathAt numbering p q)
HasNumbers numbering (faults.AmbiguousSymbol n) = (x : Text) × NameAt numbering n x
HasNumbers numbering (faults.TooManyFlags p) = (q : Path) × PathAt numbering p q
HasNumbers numbering (faults.ModuleLimit k) = Unit {0}
HasNumbers numbering faults.Memory = Unit {0}

-- the error tells the fault: that of a resolver as it is, any other with the names and paths of its numbers
abbrev pub TellsLinkError : Numbering → LinkError resolve_error.ResolveError → error.Error → Type 0
TellsLinkError numbering (faults.DuplicateSymbol p n) e = (x : String Global) × (e ≡ error.Import (import_error.DuplicateSymbol x)) × NameAt numbering n (string_bytes x)
TellsLinkError numbering (faults.Refused r) e = e ≡ error_of_resolve r
TellsLinkError numbering (faults.MissingDecl p n) e =
    (q : ModulePath) × (x : String Global) × (e ≡ error.Import (import_error.MissingDecl q x)) × PathAt numbering p (path_view q) × NameAt numbering n (string_bytes x)
TellsLinkError numbering (faults.Private n p) e =
    (x : String Global) × (q : ModulePath) × (e ≡ error.Import (import_error.Private x q)) × NameAt numbering n (string_bytes x) × PathAt numbering p (path_view q)
TellsLinkError numbering (faults.AmbiguousSymbol n) e = (x : String Global) × (e ≡ error.Import (import_error.AmbiguousSymbol x)) × NameAt numbering n (string_bytes x)
TellsLinkError numbering (faults.TooManyFlags p) e = (q : ModulePath) × (e ≡ error.Import (import_error.TooManyFlags q)) × PathAt numbering p (path_view q)
TellsLinkError numbering (faults.ModuleLimit k) e = e ≡ error.ModuleLimit k
TellsLinkError numbering faults.Memory e = e ≡ error.Memory

-- the number of the module that holds the fault, where one does
abbrev pub holder_of : LinkError resolve_error.ResolveError → Option PathId
holder_of (faults.DuplicateSymbol p n) = Some p
holder_of (faults.MissingDecl p n) = Some p
holder_of (faults.Private n p) = Some p
holder_of _ = None

-- the path of a number, if it has one
abbrev pub IsModuleAt : Numbering → Option PathId → Option ModulePath → Type 0
IsModuleAt numbering None m = m ≡ None
IsModuleAt numbering (Some p) None = slice_get numbering.paths p.0 ≡ None
IsModuleAt numbering (Some p) (Some m) = PathAt numbering p (path_view m)

-- a diagnostic of this error, which tells the module alone
abbrev pub IsIn : error.Error → Option ModulePath → Diagnostic → Type 0
IsIn e m d = out-Diagnostic d ≡ record { error = e; declaration = None; «module» = m; display = None; span = None; source = None }

-- the diagnostic has the error and the path of the number, or tells want of memory
abbrev pub TellsAt : Numbering → Option PathId → error.Error → Diagnostic → Type 0
TellsAt numbering id e d = IsBare error.Memory d ⊎ ((m : Option ModulePath) × IsModuleAt numbering id m × IsIn e m d)

-- the diagnostic tells the fault and the module that holds it, or want of memory
abbrev pub IsToldBy : Numbering → LinkError resolve_error.ResolveError → Diagnostic → Type 0
IsToldBy numbering fault d = IsBare error.Memory d ⊎ ((e : error.Error) × TellsLinkError numbering fault e × TellsAt numbering (holder_of fault) e d)
