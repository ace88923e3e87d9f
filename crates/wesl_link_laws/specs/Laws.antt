-- Laws of linked units, as functions of the crate cite them: of each unit that is the linked form of a link's modules, and of
-- the unit of a `Resolutions`.
use Rattle.std.specs.Prelude.{◌↔◌, true, List}
use Rattle.wesl_tree_names.specs.Path.{Text, Path}
use Rattle.wesl_tree_syntax.specs.Unit.{UnitView, spelled, numbers}
use Rattle.wesl_tree_syntax.specs.Numbers.{AreNumbers}
use Rattle.wesl_scope_occurrences.specs.Occurrences.{occurrences}
use Rattle.wesl_scope_meanings.specs.Scopes.{keys}
use Rattle.wesl_scope_numbers.specs.Faithful.{IsFaithful}
use Rattle.wesl_mangle_forms.specs.Escape.{escape}
use Rattle.wesl_link_reach.specs.World.{Task}
use Rattle.wesl_link_engine.specs.Worlds.{Module}
use Rattle.wesl_link_engine.specs.Linked.{IsAssembled}
use Rattle.wesl_link_engine.specs.Resolved.{AssemblesTo, IsMangled, NamesAgree}
use Rattle.wesl_link.specs.Keeping.{resolved}
use Rattle.wesl_link.specs.declared.resolutions.Resolutions.{Resolutions}
use Rattle.wesl_link_laws.specs.Linked.{IsFound, IsEntered}
use Rattle.wesl_link_laws.specs.Apart.{NamesAreApart}
use Rattle.wesl_link_laws.specs.Escaped.{Holds, HoldsSymbol, AreReadBack, AreReversible, LeavesEscapes}

-- its numbers are the canonical numbers of plain scoping on it, which `retarget_idents` gives
abbrev pub HasCanonicalNumbers : UnitView → Type 0
HasCanonicalNumbers unit = AreNumbers (keys (occurrences (spelled unit))) (numbers unit)

-- a linked unit is faithful exactly where its numbers are the canonical ones
abbrev pub LinkedIsCanonical : Type 0
LinkedIsCanonical =
    (w : List Module) (task : Task Path Text) (names : Path → Text → Text) (unit : UnitView) → IsFound w task → IsAssembled w task names unit
    → IsFaithful unit ↔ HasCanonicalNumbers unit

-- a linked unit is faithful where binders of its module block that are spelled alike have one number, and none of them is
-- spelled as a parameter, a local declaration or a free reference of it
abbrev pub ApartIsFaithful : Type 0
ApartIsFaithful =
    (w : List Module) (task : Task Path Text) (names : Path → Text → Text) (unit : UnitView) → IsFound w task → IsAssembled w task names unit
    → NamesAreApart unit → IsFaithful unit

-- a unit linked under escape names, those of the root too, is faithful where each held symbol is read back from its escape
-- name, and no parameter, no local declaration and no free reference of it is spelled as the escape name of one
abbrev pub EscapedIsFaithful : Type 0
EscapedIsFaithful =
    (w : List Module) (task : Task Path Text) (names : Path → Text → Text) (unit : UnitView) → IsFound w task → IsAssembled w task names unit
    → NamesAgree w names escape → AreReadBack (Holds w task) → LeavesEscapes (Holds w task) unit → IsFaithful unit

-- ---- the same of the unit of a `Resolutions`, whose modules are those of code

-- the unit of a `Resolutions` whose modules are entered is faithful exactly where its numbers are the canonical ones
abbrev pub ResolvedIsCanonical : Type 0
ResolvedIsCanonical = (r : Resolutions) (unit : UnitView) → IsEntered (resolved r) → AssemblesTo (resolved r) unit → IsFaithful unit ↔ HasCanonicalNumbers unit

-- the unit of such a `Resolutions` is faithful where its names are apart
abbrev pub ResolvedIsFaithful : Type 0
ResolvedIsFaithful = (r : Resolutions) (unit : UnitView) → IsEntered (resolved r) → AssemblesTo (resolved r) unit → NamesAreApart unit → IsFaithful unit

-- Where the modules of a `Resolutions` are entered, and it is mangled by escape names, the root too, its unit is faithful if
-- each symbol that it holds is reversible, and no parameter, no local declaration and no free reference of it is spelled as
-- the escape name of one. (The names in it are short, as all of code, so that its reversible symbols are read back.)
abbrev pub MangledIsFaithful : Type 0
MangledIsFaithful =
    (before after : Resolutions) (unit : UnitView) → IsEntered (resolved before) → IsMangled escape true (resolved before) (resolved after) → AssemblesTo (resolved after) unit
    → AreReversible (HoldsSymbol (resolved after)) → LeavesEscapes (HoldsSymbol (resolved after)) unit → IsFaithful unit
