-- What is known of a module while its identifiers are marked.
use Rattle.std.specs.Prelude.{◌≡◌, ℕ, false, Option, List, [], ◌∷◌, ◌++◌, map, flat_map, take, drop, get_or, Vec}
use Rattle.std.specs.declared.alloc.Global.{Global}
use Rattle.wesl_tree_names.specs.Path.{Text, Origin, from_package, Path, path_view, is_relative}
use Rattle.wesl_tree_names.specs.declared.path.ModulePath.{ModulePath}
use Rattle.wesl_tree_syntax.specs.Tree.{TreeOf, kind, declarations, trees, respell}
use Rattle.wesl_tree_syntax.specs.Unit.{UnitOf, UnitView, spelled, name_in}
use Rattle.wesl_tree_syntax.specs.View.{declarations_tree}
use Rattle.wesl_tree_syntax.specs.declared.declaration.GlobalDeclaration.{GlobalDeclaration}
use Rattle.wesl_tree_syntax.specs.declared.span.Spanned.{Spanned}
use Rattle.wesl_tree.specs.Translation.{unit_view}
use Rattle.wesl_cond_choices.specs.declared.place.Place.{Place}
use Rattle.wesl_link_symbols.specs.declared.ids.PathId.{PathId}
use Rattle.wesl_tree_base.specs.declared.ids.NameId.{NameId}
use Rattle.wesl_link_symbols.specs.declared.symbols.Reference.{Reference}
use Rattle.wesl_scope_occurrences.specs.Occurrences.{occurrences}
use Rattle.wesl_scope_meanings.specs.Scopes.{Key}
use Rattle.wesl_scope_meanings.specs.Sensed.{Sense}
use Rattle.wesl_scope_meanings.specs.Senses.{Manner, of_declaration, of_word, of_meaning, manner_in}
use Rattle.wesl_scope_meanings.specs.Read.{AreRead, meaning_read}
use Rattle.wesl_link_tables.specs.Marks.{IsMark}
use Rattle.wesl_link_tables.specs.Numbering.{Numbering, AreRelated, IsRelatedOption, AreNumberedNames, AreNumberedReferences, AreNumberedBinders, IsNumberedScope, NameAt, PathAt}
use Rattle.wesl_link_tables.specs.NumbersView.{numbering}
use Rattle.wesl_link_split.specs.ScopeView.{scope_view}
use Rattle.wesl_link_split.specs.Split.{Scope, under}
use Rattle.wesl_link_split.specs.declared.binders.Binder.{Binder}
use Rattle.wesl_link_tables.specs.Tables.{name_of, scope_of}
use Rattle.wesl_link_tables.specs.Uses.{Use, declares, refers, local, texts, aims, asked, unclear_in, plain_use, path_use, meant, use_of}
use Rattle.wesl_link_tables.specs.declared.marks.Asked.{Asked}
use Rattle.wesl_link_tables.specs.declared.marks.Mark.{Mark}
use Rattle.wesl_link_tables.specs.declared.marks.Mark.TheVariants as marks
use Rattle.wesl_link_tables.specs.declared.numbers.Numbers.{Numbers}
use Rattle.wesl_link_tables.specs.declared.reading.Reading.{Reading}

-- ---- the module

-- the unit of the module, with its table of names
abbrev pub view_in : Reading → UnitView
view_in r = unit_view r.unit.now

-- the unit of the module, as it is spelled
abbrev pub unit_in : Reading → UnitOf Text
unit_in r = spelled (view_in r)

-- where the module stands
abbrev pub own_path : Reading → Path
own_path r = path_view r.path.now

-- what the names of the module stand for
abbrev pub scope_in : Reading → Scope Path Text
scope_in r = scope_of (own_path r) (unit_in r)

-- what a name is at a place of it whose identifier is read so
abbrev pub use_read : Scope Path Text → Place → Manner → Text → Key → Use Path Text
use_read s here of_declaration x key = declares x
use_read s here of_word x key = refers x []
use_read s here of_meaning x key = meant s here x key

-- what a name is at a place of it whose identifier is read in this sense
abbrev pub used_as : Reading → Place → Sense → Text → Use Path Text
used_as r here s x = use_read (scope_in r) here (manner_in s) x (meaning_read (view_in r) r.senses.now s)

-- what a name without a path is at a place of it
abbrev pub plain_in : Reading → Place → Text → Use Path Text
plain_in r here x = plain_use (scope_in r) here x

-- what a name under a path is there
abbrev pub aimed_in : Reading → Place → ModulePath → Text → Use Path Text
aimed_in r here p x = path_use (scope_in r) here (path_view p) x

-- what a name is there under a path that begins with the name of these imports, of which the first counts; without imports the
-- path is joined to the module's
abbrev pub under_in : Reading → Place → List (Binder Path Text) → ModulePath → Text → Use Path Text
under_in r here bs p x = refers x (map (under texts (scope_in r) x here) (aims (own_path r) bs (path_view p)))

-- what its identifiers are, in document order
abbrev pub all_uses : Reading → List (Use Path Text)
all_uses r = map (use_of (scope_in r) (occurrences (unit_in r))) (occurrences (unit_in r))

-- what its identifier with this number is, counted in document order; beyond the last a local name without text
abbrev pub use_at : Reading → ℕ → Use Path Text
use_at r i = get_or (all_uses r) i (local 0 [])

-- the elements from one place up to another, which is left out
abbrev pub span : {X : Type 0} → ℕ → ℕ → List X → List X
span from to xs = drop from (take to xs)

-- what the identifiers from one place up to another ask for
abbrev pub references_in : Reading → ℕ → ℕ → List (Reference Path Text)
references_in r from to = flat_map asked (span from to (all_uses r))

-- the names that stand for two things at the identifiers from one place up to another
abbrev pub unclear_names : Reading → ℕ → ℕ → List Text
unclear_names r from to = flat_map unclear_in (span from to (all_uses r))

-- what was read of it
pub record IsRead (r : Reading) : Type 0 where
  pub own : is_relative (own_path r) ≡ false
  pub label : (view_in r).declarations.label ≡ kind declarations
  pub senses : AreRead (view_in r) r.senses.now

-- of each of these declarations the number of the name that it binds, if it binds one
abbrev pub AreNumbersOfNames : Numbering → List (Option NameId) → List (TreeOf Text) → Type 0
AreNumbersOfNames nb ids ds = AreRelated (IsRelatedOption (NameAt nb)) ids (map name_of ds)

-- the number of its path, what its names stand for by numbers, and the numbers of its names
pub record IsNumberedBy (nb : Numbering) (r : Reading) : Type 0 where
  pub own : PathAt nb r.own (own_path r)
  pub scope : IsNumberedScope nb (scope_view r.scope.now) (scope_in r)
  pub ids : AreRelated (NameAt nb) r.ids.now (view_in r).names

-- ---- what names ask for, by numbers

-- the mark of a name that asks for these
abbrev pub mark_of : NameId → List (Reference PathId NameId) → Mark
mark_of n [] = marks.Free n
mark_of n (r ∷ rs) = marks.Asks r

-- references are added that say these by numbers
abbrev pub AddsReferences : Numbering → List (Reference PathId NameId) → List (Reference PathId NameId) → List (Reference Path Text) → Type 0
AddsReferences nb old new more = (added : List (Reference PathId NameId)) × (new ≡ old ++ added) × AreNumberedReferences nb added more

-- the numbers of these names are added
abbrev pub AddsNames : Numbering → List NameId → List NameId → List Text → Type 0
AddsNames nb old new more = (added : List NameId) × (new ≡ old ++ added) × AreNumberedNames nb added more

-- the mark says what an identifier is, and what it asks for is added, or the name that stands for two things
pub record Marks (nb : Numbering) (m : Mark) (old new : Asked) (u : Use Path Text) : Type 0 where
  pub mark : IsMark nb m u
  pub added : AddsReferences nb old.references.items new.references.items (asked u)
  pub unclear : AddsNames nb old.unclear.items new.unclear.items (unclear_in u)

-- the mark says what the name of that number is, in these texts, and what it asks for is added
abbrev pub MarksName : Numbers → Numbers → NameId → (Text → Use Path Text) → Mark → Asked → Asked → Type 0
MarksName before after name as_use m old new = (x : Text) → NameAt (numbering before) name x → Marks (numbering after) m old new (as_use x)

-- the number is that of the package with which a path begins
abbrev pub IsPackage : Numbering → NameId → Origin → Type 0
IsPackage nb n (from_package x) = NameAt nb n x
IsPackage nb n _ = ⊥

-- the same of a name under a path that begins with the name of imports, which have these numbers
abbrev pub MarksUnder : Numbers → Numbers → Reading → Place → ModulePath → List (Binder PathId NameId) → NameId → Mark → Asked → Asked → Type 0
MarksUnder before after r here path imports name m old new =
    (bs : List (Binder Path Text)) → AreNumberedBinders (numbering before) imports bs → MarksName before after name (under_in r here bs path) m old new

-- of each of these declarations the number of the name that it binds by a table of names, if it binds one
abbrev pub NumbersNames : Numbering → List Text → Vec (Spanned GlobalDeclaration) Global → List (Option NameId) → Type 0
NumbersNames nb names nodes ids = AreNumbersOfNames nb ids (trees (respell (name_in names) (declarations_tree nodes)).children)
