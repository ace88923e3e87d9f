-- What the engine's values stand for.
use Rattle.std.specs.Prelude.{◌≡◌, ℕ, List, Option, Vec, ◌++◌, map}
use Rattle.std.specs.List.{All}
use Rattle.std.specs.declared.alloc.Global.{Global}
use Rattle.wesl_tree_names.specs.Path.{Text}
use Rattle.wesl_tree_syntax.specs.Tree.{before, end}
use Rattle.wesl_tree_syntax.specs.Unit.{UnitView}
use Rattle.wesl_tree_syntax.specs.View.{global_view}
use Rattle.wesl_tree_syntax.specs.declared.declaration.GlobalDeclaration.{GlobalDeclaration}
use Rattle.wesl_tree.specs.Translation.{unit_view}
use Rattle.wesl_tree.specs.declared.unit.TranslationUnit.{TranslationUnit}
use Rattle.wesl_scope_occurrences.specs.Views.{occurrence_view}
use Rattle.wesl_scope_occurrences.specs.Walk.{Found}
use Rattle.wesl_scope_occurrences.specs.declared.whole.Identifiers.{Identifiers}
use Rattle.wesl_validate_builtins.specs.Builtins.{BuiltinNames, builtins_view}
use Rattle.wesl_validate_rules.specs.Graphs.{edges_at, graph_view}
use Rattle.wesl_validate_rules.specs.Known.{IsNamedBy}
use Rattle.wesl_validate_rules.specs.Calls as spec
use Rattle.wesl_validate_calls.specs.Ends as ends
use Rattle.wesl_validate_calls.specs.Tables as tables
use Rattle.wesl_validate_calls.specs.Made.{call_told}
use Rattle.wesl_validate_calls.specs.Misfits.{MissesAmong, Passes}
use Rattle.wesl_validate_calls.specs.Verdicts as verdicts
use Rattle.wesl_validate_calls.specs.declared.callables.Callables.{Callables}
use Rattle.wesl_validate_calls.specs.declared.calls.Call.{Call}
use Rattle.wesl_validate_calls.specs.declared.ends.Ends.{Ends}
use Rattle.wesl_validate_calls.specs.declared.misfit.Misfit.{Misfit}
use Rattle.wesl_validate_calls.specs.declared.shape.Shape.{Shape}
use Rattle.wesl_validate_calls.specs.declared.shape.Shape.TheVariants as shapes
use Rattle.wesl_validate_calls.specs.declared.tables.Tables.{Tables}

-- what a value of the code says that a declaration is to a call
abbrev pub shape_view : Shape → spec.ShapeOf ℕ
shape_view (shapes.Function n) = spec.function_with n
shape_view (shapes.Struct n) = spec.struct_with n
shape_view shapes.OpenAlias = spec.open_alias
shape_view (shapes.Alias t) = spec.alias_of t
shape_view shapes.Other = spec.other

-- what the tables in the code say
abbrev pub tables_view : Tables → tables.Tables
tables_view t = record { shapes = map shape_view t.shapes.items; declarers = graph_view t.declarers.items; aliases = graph_view t.aliases.items; bound = t.bound.items }

-- what the code says of where aliases lead
abbrev pub ends_view : Ends → ends.Ends
ends_view e = record { taken = graph_view e.taken.items; any_count = e.any_count.items; counts = e.counts.items; counted = e.counted.items; ended = e.ended.items }

-- what a declaration of the code is to a call
abbrev pub shape_by : GlobalDeclaration → spec.ShapeOf ℕ
shape_by d = spec.shape_in (before (global_view d) end)

-- the identifiers that the code has found, in document order
abbrev pub found_view : Identifiers → List Found
found_view found = map occurrence_view found.all.items

-- the edges are those that these identifiers make
abbrev pub AreEdges : (Found → Option ℕ) → Identifiers → List (Vec ℕ Global) → Type 0
AreEdges edge found g = (m : ℕ) → edges_at (graph_view g) m ≡ tables.edges_of edge m (found_view found)

-- what holds of each module of these names and identifiers
abbrev pub OfNamed : List Text → Identifiers → (UnitView → Type 0) → Type 0
OfNamed names found holds = (u : UnitView) → IsNamedBy u names found → holds u

-- what is built in, as the code keeps it for calls
abbrev pub builtins_in : Callables → BuiltinNames
builtins_in c = builtins_view c.builtins.now

-- the ends tell where the aliases of the tables lead, among these names and what is built in
abbrev pub AreEndsIn : Tables → List Text → Callables → Ends → Type 0
AreEndsIn t names c e = ends.AreEnds (tables_view t) names (builtins_in c) (ends_view e)

-- one of these calls of a module misses so
abbrev pub OneMisses : TranslationUnit → Callables → List (spec.CallOf ℕ) → Misfit → Type 0
OneMisses u c cs m = MissesAmong (unit_view u) (builtins_in c) cs m

-- all of them pass
abbrev pub AllPass : TranslationUnit → Callables → List (spec.CallOf ℕ) → Type 0
AllPass u c cs = All (Passes (unit_view u) (builtins_in c)) cs

-- these calls are put after those before
abbrev pub AddsCalls : List (spec.CallOf ℕ) → Vec Call Global → Vec Call Global → Type 0
AddsCalls cs old new = map call_told new.items ≡ map call_told old.items ++ cs

-- the calls of that declaration, as the code keeps them
abbrev pub numbered_calls : ℕ → Vec Call Global → List (ℕ × spec.CallOf ℕ)
numbered_calls j calls = verdicts.numbered j (map call_told calls.items)

-- the calls in that declaration
abbrev pub calls_within : ℕ → GlobalDeclaration → List (ℕ × spec.CallOf ℕ)
calls_within j d = verdicts.calls_there j (global_view d)

-- of these calls of a module those that fit nothing are put after those before
abbrev pub AddsMisfitsIn : TranslationUnit → Callables → List (ℕ × spec.CallOf ℕ) → Vec (ℕ × Misfit) Global → Vec (ℕ × Misfit) Global → Type 0
AddsMisfitsIn u c cs old new = verdicts.AddsMisfits (unit_view u) (builtins_in c) cs old.items new.items
