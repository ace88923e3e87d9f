-- Texts that are kept by paths.
use Rattle.std.specs.Prelude.{◌≡◌, ◌⊎◌, if◌then◌else◌, Option, Some, None, List, [], ◌∷◌, map, codes, String, string_bytes}
use Rattle.std.specs.declared.alloc.Global.{Global}
use Rattle.wesl_tree_names.specs.Path.{Text, Path, path_view}
use Rattle.wesl_tree_names.specs.PathOrder.{same_path}
use Rattle.wesl_tree_names.specs.Errors.{IsModuleNotFound}
use Rattle.wesl_tree_names.specs.declared.path.ModulePath.{ModulePath}
use Rattle.wesl_tree_names.specs.declared.errors.Error.{Error}
use Rattle.wesl_tree_names.specs.declared.errors.ResolveError.{ResolveError}
use Rattle.wesl_tree_syntax.specs.Unit.{UnitOf}
use Rattle.wesl_resolve_base.specs.Refusals.{IsToldRefusal}

-- what the entries of a map say
abbrev pub texts_of : List (ModulePath × String Global) → List (Path × Text)
texts_of es = map (λ e. (path_view e.0, string_bytes e.1)) es

-- the text at a path
abbrev pub text_at : Path → List (Path × Text) → Option Text
text_at p [] = None
text_at p (e ∷ es) = if same_path p e.0 then Some e.1 else text_at p es

-- a path that is there keeps its place and takes the new text; another goes last
abbrev pub put : Path → Text → List (Path × Text) → List (Path × Text)
put p text [] = (p, text) ∷ []
put p text (e ∷ es) = if same_path p e.0 then (e.0, text) ∷ es else e ∷ put p text es

-- the text that was put last is at its path, and each other path has what it had
abbrev pub IsLast : Path → Text → List (Path × Text) → List (Path × Text) → Type 0
IsLast p text before after = (q : Path) → text_at q after ≡ (if same_path p q then Some text else text_at q before)

-- the text was put at the path
abbrev pub IsPut : Path → Text → List (Path × Text) → List (Path × Text) → Type 0
IsPut p text before after = (after ≡ put p text before) × IsLast p text before after

-- the text at the path is read as the unit
abbrev pub IsReadAt : (Text → UnitOf Text → Type 0) → List (Path × Text) → Path → UnitOf Text → Type 0
IsReadAt reads texts p u = (text : Text) × (text_at p texts ≡ Some text) × reads text u

-- the path has no text, and the error says that no module is found at it, with the text `virtual module`
abbrev pub IsMissing : List (Path × Text) → Path → ResolveError → Type 0
IsMissing texts p e = (text_at p texts ≡ None) × IsModuleNotFound p (codes "virtual module") e

-- the path has no text, or its text cannot be read, which is told with the path and the text
abbrev pub IsRefusedAt : (Text → Error → Type 0) → List (Path × Text) → Path → ResolveError → Type 0
IsRefusedAt unreadable texts p e = IsMissing texts p e ⊎ ((text : Text) × (text_at p texts ≡ Some text) × IsToldRefusal (unreadable text) p None (Some text) e)
