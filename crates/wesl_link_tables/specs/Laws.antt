-- Laws of declarations and of imports.
use Rattle.std.specs.Prelude.{◌≡◌, ◌↔◌, false, Some, map, Contains}
use Rattle.wesl_tree_names.specs.Path.{Text, Path}
use Rattle.wesl_tree_syntax.specs.Tree.{before, end, identifiers, kind, declarations}
use Rattle.wesl_tree_syntax.specs.Unit.{UnitOf}
use Rattle.wesl_scope_occurrences.specs.Pieces.{declarations_in}
use Rattle.wesl_cond_choices.specs.declared.place.Place.{Place}
use Rattle.wesl_link_symbols.specs.Laws.{HasOneTarget}
use Rattle.wesl_link_symbols.specs.Names.{Answers}
use Rattle.wesl_link_symbols.specs.declared.symbols.Answer.{Answer}
use Rattle.wesl_link_symbols.specs.declared.symbols.Import.{Import}
use Rattle.wesl_link_symbols.specs.declared.symbols.LookUp.{LookUp}
use Rattle.wesl_link_split.specs.Split.{is_own_split, is_split, settled}
use Rattle.wesl_link_tables.specs.Imports.{imports}
use Rattle.wesl_link_tables.specs.Tables.{binders_at, scope_of, table_at, uses}
use Rattle.wesl_link_tables.specs.Uses.{use_name, texts}

-- each identifier of a declaration stands once
abbrev pub UsesAreIdentifiers : Type 0
UsesAreIdentifiers = (own : Path) (u : UnitOf Text) → u.declarations.label ≡ kind declarations
    → map (map use_name) (uses own u) ≡ map (λ t. identifiers (before t end)) (declarations_in u)

-- the look-up of a name in the module at a path, asked by this module itself from one of its places
abbrev pub own_look_up : {P N : Type 0} → P → N → Place → LookUp P N
own_look_up own n from = record { asker = Some own; path = own; name = n; from = from }

-- What an import asks for that aims at a name of its own module is answered from where it asks as from where it stands.
abbrev pub ImportsAskAsThemselves : Type 0
ImportsAskAsThemselves =
    (own : Path) (u : UnitOf Text) (i : Import Path Text) → Contains (imports own u) i → i.path ≡ own
    → (a : Answer Path Text)
    → Answers (table_at own u) (own_look_up own i.item (settled texts (scope_of own u) i).from) a
    ↔ Answers (table_at own u) (own_look_up own i.item i.place) a

-- A name has one target in the table of a unit, and so conditions play no part in it, where its binders have one, dead ones
-- counted, and that target is no name of the same module whose binders have several.
abbrev pub PlainNamesHaveOneTarget : Type 0
PlainNamesHaveOneTarget =
    (own : Path) (u : UnitOf Text) (n : Text) → is_split texts (binders_at own u) n ≡ false
    → ((i : Import Path Text) → Contains (imports own u) i → i.bound ≡ n → is_own_split texts (scope_of own u) i.path i.item ≡ false)
    → HasOneTarget (table_at own u) n
