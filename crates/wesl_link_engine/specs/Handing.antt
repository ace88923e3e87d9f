-- The modules that a link has from a resolver, under the numbers of the link.
use Rattle.std.specs.Prelude.{◌≡◌, ℕ, Option, List, Contains, Vec}
use Rattle.std.specs.declared.alloc.Global.{Global}
use Rattle.wesl_tree_names.specs.Path.{Text, Path}
use Rattle.wesl_tree_names.specs.declared.errors.ResolveError.{ResolveError}
use Rattle.wesl_tree_syntax.specs.Unit.{UnitOf, spelled}
use Rattle.wesl_tree.specs.Translation.{unit_view}
use Rattle.wesl_tree.specs.declared.unit.TranslationUnit.{TranslationUnit}
use Rattle.wesl_resolve_base.specs.Resolver.{MeansTheSame}
use Rattle.wesl_resolve_base.specs.declared.resolver.Resolver.{Ghosts}
use Rattle.wesl_link_symbols.specs.declared.ids.PathId.{PathId}
use Rattle.wesl_tree_base.specs.declared.ids.NameId.{NameId}
use Rattle.wesl_link_symbols.specs.Tables.{Table}
use Rattle.wesl_link_symbols.specs.Keyed.{Puts}
use Rattle.wesl_link_tables.specs.Marks.{AreMarked}
use Rattle.wesl_link_tables.specs.Tables.{table_at, uses}
use Rattle.wesl_link_tables.specs.Numbering.{Numbering, Grows, PathAt, IsNumbered}
use Rattle.wesl_link_tables.specs.declared.marks.Mark.{Mark}
use Rattle.wesl_link_engine.specs.declared.loaded.Held.{Held}

-- what is handed out and refused at least here, is so there
pub record Follows {P U E : Type 0} (handed : P → U → Type 0) (refused : P → E → Type 0) (handed_there : P → U → Type 0) (refused_there : P → E → Type 0) : Type 0 where
  pub hands : (p : P) (u : U) → handed p u → handed_there p u
  pub refuses : (p : P) (e : E) → refused p e → refused_there p e

-- the resolver is one of these, as is each that means the same, and it is held by the loan of that name
pub record StaysOne {R : Type 0} (hands : R → Path → UnitOf Text → Type 0) (refuses : R → Path → ResolveError → Type 0)
    (source : R → Path → Text → Type 0) (lacks : R → Path → ResolveError → Type 0) (shown : R → Path → Option Text → Type 0)
    (these : R → Type 0) (loan : ℕ) (resolver : R) (name : ℕ) : Type 0 where
  pub here : these resolver
  pub on : (a b : R) → these a → MeansTheSame hands refuses source lacks shown a b → these b
  pub held : name ≡ loan

-- the same, by what the resolver's type says of its answers
abbrev pub StaysLent : {R : Type 0} → Ghosts R → (R → Type 0) → ℕ → R → ℕ → Type 0
StaysLent g these loan resolver name = StaysOne g.hands g.refuses g.source g.lacks g.shown these loan resolver name

-- such a resolver, which may be asked
abbrev pub MayBeAsked : {R : Type 0} → Ghosts R → (R → Type 0) → ℕ → R → ℕ → Type 0
MayBeAsked g these loan resolver name = g.ready resolver × StaysLent g these loan resolver name

-- no path has two units
abbrev pub HaveOne : List (PathId × Held) → Type 0
HaveOne units = (p : PathId) (u w : Held) → Contains units (p, u) → Contains units (p, w) → u ≡ w

-- the entries after a unit is put at a path: it has that unit alone, and each other path keeps its own
abbrev pub PutsUnit : List (PathId × Held) → PathId → Held → List (PathId × Held) → Type 0
PutsUnit old p unit new = Puts old p unit new

-- the path has a number
abbrev pub IsReadyPath : Numbering → PathId → Type 0
IsReadyPath numbering p = (q : Path) × PathAt numbering p q

-- the marks that are kept with a unit are those of its identifiers, where it stands at the path
abbrev pub IsMarkedAt : Numbering → Path → Held → Type 0
IsMarkedAt numbering q u = AreMarked numbering u.marks.items (uses q (spelled (unit_view u.unit)))

-- the unit is put at the path, with the marks of its identifiers, and the table is the unit's
pub record KeepsUnit (numbering : Numbering) (old : List (PathId × Held)) (p : PathId) (q : Path) (unit : TranslationUnit) (t : Table PathId NameId) (new : List (PathId × Held)) : Type 0 where
  pub marks : Vec (Vec Mark Global) Global
  pub path : t.path ≡ p
  pub numbered : IsNumbered numbering t (table_at q (spelled (unit_view unit)))
  pub marked : IsMarkedAt numbering q (record { unit = unit; marks = marks })
  pub puts : PutsUnit old p (record { unit = unit; marks = marks }) new

-- each unit was handed out at the path that it is kept for, and has its marks
abbrev pub AreHanded : (Path → UnitOf Text → Type 0) → Numbering → List (PathId × Held) → Type 0
AreHanded hands numbering units =
    (p : PathId) (u : Held) → Contains units (p, u) → (q : Path) × PathAt numbering p q × hands q (spelled (unit_view u.unit)) × IsMarkedAt numbering q u

-- the table is that of the unit that is kept for the path, which was handed out there
abbrev pub IsHandedTable : (Path → UnitOf Text → Type 0) → Numbering → List (PathId × Held) → PathId → Table PathId NameId → Type 0
IsHandedTable hands numbering units p t =
    (q : Path) × (u : Held) × PathAt numbering p q × Contains units (p, u) × hands q (spelled (unit_view u.unit))
    × IsNumbered numbering t (table_at q (spelled (unit_view u.unit)))

-- the path of that number is refused with the error
abbrev pub IsRefusedPath : (Path → ResolveError → Type 0) → Numbering → PathId → ResolveError → Type 0
IsRefusedPath refuses numbering p e = (q : Path) × PathAt numbering p q × refuses q e

-- What stays so as modules are loaded: the resolver hands out and refuses what it did, and units and numbers are kept.
pub record Keeps (handed : Path → UnitOf Text → Type 0) (refused : Path → ResolveError → Type 0) (handed_there : Path → UnitOf Text → Type 0) (refused_there : Path → ResolveError → Type 0)
    (first numbering : Numbering) (units : List (PathId × Held)) : Type 0 where
  pub follows : Follows handed refused handed_there refused_there
  pub grows : Grows first numbering
  pub one_unit : HaveOne units
  pub handed_out : AreHanded handed_there numbering units

-- the same of a resolver
abbrev pub KeepsOf : {R : Type 0} → Ghosts R → R → (Path → UnitOf Text → Type 0) → (Path → ResolveError → Type 0) → Numbering → Numbering → List (PathId × Held) → Type 0
KeepsOf g resolver handed_there refused_there first numbering units = Keeps (g.hands resolver) (g.refuses resolver) handed_there refused_there first numbering units

-- what the entries had, they have
abbrev pub StillHold : List (PathId × Held) → List (PathId × Held) → Type 0
StillHold old new = (p : PathId) (u : Held) → Contains old (p, u) → Contains new (p, u)
