-- What is gathered of a module, one after the other.
use Rattle.std.specs.Prelude.{◌≡◌, ℕ, Bool, true, false, ◌==◌, Option, Some, None, List, [], ◌∷◌, ◌++◌, Vec, bytes_eq, map, flat_map, slice_get, if◌then◌else◌}
use Rattle.std.specs.List.{Contains, filter, list_any}
use Rattle.std.specs.Option.{option_map, option_or}
use Rattle.std.specs.declared.alloc.Global.{Global}
use denote.Ref.{Bor}
use Rattle.wesl_tree_names.specs.Path.{Text}
use Rattle.wesl_tree_syntax.specs.Unit.{UnitView, name_in}
use Rattle.wesl_scope_graph.specs.Graphs.{Graph, edges_at, graph_view}
use Rattle.wesl_scope_graph.specs.Marks.{mark_at}
use Rattle.wesl_scope_values.specs.Values.{value_at}
use Rattle.wesl_scope_occurrences.specs.Occurrences.{is_module_name}
use Rattle.wesl_scope_occurrences.specs.Views.{occurrence_view}
use Rattle.wesl_scope_occurrences.specs.Walk.{Found}
use Rattle.wesl_scope_occurrences.specs.declared.occurrence.Occurrence.{Occurrence}
use Rattle.wesl_scope_strip.specs.Marks.{names_here}
use Rattle.wesl_validate_rules.specs.Graphs.{IsRing}
use Rattle.wesl_validate_rules.specs.Known.{is_unknown}
use Rattle.wesl_validate_calls.specs.declared.misfit.Misfit.{Misfit}
use Rattle.wesl_validate_calls.specs.declared.misfit.Misfit.TheVariants as misfit
use Rattle.wesl_validate_misfits.specs.declared.placed.PlacedMisfit.{PlacedMisfit}
use Rattle.wesl_validate_faults.specs.Findings as spec
use Rattle.wesl_validate_faults.specs.Listed.{module_numbers, repeated_after, AreCycles, IsFirst}
use Rattle.wesl_validate_faults.specs.declared.finding.Finding.{Finding}
use Rattle.wesl_validate_faults.specs.declared.finding.Finding.TheVariants as made
use Rattle.wesl_validate_faults.specs.declared.uses.UndefinedUse.{UndefinedUse}
use Rattle.wesl_validate_faults.specs.Members.{Member, member_at}
use Rattle.wesl_validate_faults.specs.Misfitting.{Misfitting, misfitting_at}
use Rattle.wesl_validate_faults.specs.Repeated.{Repeated, again_after, names_at, repeated_at}
use Rattle.wesl_validate_faults.specs.Uses.{Use, use_at}
use Rattle.wesl_validate_faults.specs.declared.misfitting.MisfitCall.{MisfitCall}
use Rattle.wesl_validate_faults.specs.declared.twice.RepeatedName.{RepeatedName}
use Rattle.wesl_validate_faults.specs.declared.members.RingMember.{RingMember}

-- what a finding of the code stands for
abbrev pub finding_view : Finding → spec.Finding
finding_view (made.Undefined d n) = spec.undefined (option_map (λ m. m.now) d) n.now
finding_view (made.Duplicate n) = spec.duplicate n.now
finding_view (made.Cycle n v) = spec.cycle n.now v.now
finding_view (made.Miscounted d n x g) = spec.miscounted (option_map (λ m. m.now) d) n.now x g
finding_view (made.NotCallable d n) = spec.not_callable (option_map (λ m. m.now) d) n.now

-- what the findings of the code stand for, one by one
abbrev pub findings_view : List Finding → List spec.Finding
findings_view = map finding_view

-- what uses of the code stand for, one by one
abbrev pub uses_view : List UndefinedUse → List Use
uses_view = map (λ x. use_at x.place (option_map (λ m. m.now) x.declaration) x.name.now)

-- what members of rings of the code stand for, one by one
abbrev pub members_view : List RingMember → List Member
members_view = map (λ x. member_at x.place x.name.now x.last x.via.now)

-- what repeated names of the code stand for, one by one
abbrev pub repeated_view : List RepeatedName → List Repeated
repeated_view = map (λ x. repeated_at x.place x.first x.name.now)

-- what is found where a call fits nothing: how many arguments are taken and the call has, or that nothing there can be called
abbrev pub misfit_by : Option Text → Text → Option (ℕ × ℕ) → spec.Finding
misfit_by d n None = spec.not_callable d n
misfit_by d n (Some (k, got)) = spec.miscounted d n k got

-- what a call of the code that fits nothing stands for
abbrev pub misfitting_seen : MisfitCall → Misfitting
misfitting_seen x = misfitting_at x.place (misfit_by (option_map (λ m. m.now) x.declaration) x.name.now x.counts)

-- the same of each, one by one
abbrev pub misfitting_view : List MisfitCall → List Misfitting
misfitting_view = map misfitting_seen

-- the number of the name of a misfit
abbrev pub name_number : Misfit → ℕ
name_number (misfit.ParamCount e k got) = e
name_number (misfit.NotCallable e) = e

-- how many arguments are taken, and how many the call has
abbrev pub counts_of : Misfit → Option (ℕ × ℕ)
counts_of (misfit.ParamCount e k got) = Some (k, got)
counts_of (misfit.NotCallable e) = None

-- names with their first places, as the code keeps them
abbrev pub firsts_view : List (Bor Text × ℕ) → List (ℕ × Text)
firsts_view = map (λ e. (e.1, e.0.now))

-- the names at these places that stand before too are put after those before
abbrev pub AddsRepeated : UnitView → List ℕ → List RepeatedName → List RepeatedName → Type 0
AddsRepeated u places old new = repeated_view new ≡ repeated_view old ++ again_after [] (names_at u places)

-- these are put after those before
abbrev pub PutsAgain : List Repeated → Vec RepeatedName Global → Vec RepeatedName Global → Type 0
PutsAgain rs old new = repeated_view new.items ≡ repeated_view old.items ++ rs

-- these members of rings are put after those before
abbrev pub AddsMembers : List Member → Vec RingMember Global → Vec RingMember Global → Type 0
AddsMembers ms old new = members_view new.items ≡ members_view old.items ++ ms

-- these uses are put after those before
abbrev pub AddsUses : List Use → Vec UndefinedUse Global → Vec UndefinedUse Global → Type 0
AddsUses xs old new = uses_view new.items ≡ uses_view old.items ++ xs

-- these findings are put after those before
abbrev pub AreAdded : List Finding → List Finding → List spec.Finding → Type 0
AreAdded old new fs = findings_view new ≡ findings_view old ++ fs

-- findings with one more, which goes last unless it is there
abbrev pub with_finding : List spec.Finding → spec.Finding → List spec.Finding
with_finding seen f = if list_any (spec.same_finding f) seen then seen else seen ++ f ∷ []

-- the number that declaration j declares, where an identifier is its name
abbrev pub named_here : ℕ → Found → List ℕ
named_here j o = if names_here j o then o.name ∷ [] else []

-- an identifier is put down with the declaration of which it is the name, if it is the name of one
abbrev pub AddsHolder : Found → Vec (Vec ℕ Global) Global → Vec (Vec ℕ Global) Global → Type 0
AddsHolder o old new = (j : ℕ) → edges_at (graph_view new.items) j ≡ edges_at (graph_view old.items) j ++ named_here j o

-- the numbers that declaration j declares, by these identifiers
abbrev pub named_in : List Found → ℕ → List ℕ
named_in os j = flat_map (named_here j) os

-- what is found of a name after these: that it is declared again, if it is one of them
abbrev pub duplicate_after : List Text → Text → List spec.Finding
duplicate_after before n = if list_any (bytes_eq n) before then spec.duplicate n ∷ [] else []

-- what is found of the names of these numbers: that they are declared again, each once
abbrev pub duplicates_among : List Text → List ℕ → List spec.Finding
duplicates_among names numbers = map spec.duplicate (repeated_after [] (map (name_in names) numbers))

-- the number of an import or a declaration, where an identifier is its name
abbrev pub declared_here : Found → List ℕ
declared_here o = if is_module_name o.role then o.name ∷ [] else []

-- the numbers of the names of imports and declarations among these identifiers, in their order
abbrev pub declared_among : List Found → List ℕ
declared_among os = flat_map declared_here os

-- the name of an import or a declaration by its place and its number, where an identifier is one
abbrev pub placed_here : Found → List (ℕ × ℕ)
placed_here o = if is_module_name o.role then (o.place, o.name) ∷ [] else []

-- those among these identifiers, in their order
abbrev pub placed_among : List Found → List (ℕ × ℕ)
placed_among os = flat_map placed_here os

-- the first place of a number
abbrev pub place_of : List (ℕ × ℕ) → ℕ → Option ℕ
place_of [] m = None
place_of (x ∷ xs) m = if x.1 == m then Some x.0 else place_of xs m

-- a number that has no first place gets this one
abbrev pub AddsFirst : ℕ → ℕ → List (Option ℕ) → List (Option ℕ) → Type 0
AddsFirst number place old new = (m : ℕ) → value_at new m ≡ option_or (value_at old m) (if number == m then Some place else None)

-- the first place of a number, if there is one, by a table
abbrev pub place_by : List (Option ℕ) → Option ℕ → Option ℕ
place_by firsts None = None
place_by firsts (Some m) = value_at firsts m

module _ (names : List Text) where
  -- the name of a declaration, by a list of what each declares
  abbrev pub name_by : Graph → Option ℕ → Option Text
  name_by holders None = None
  name_by holders (Some j) = option_map (name_in names) (slice_get (edges_at holders j) 0)

  -- What is found of an identifier: that it is not defined, with the name of the declaration in which it lies, or nothing.
  -- `known` marks the numbers whose name means something, and `holders` has of each declaration the number that it declares.
  abbrev pub undefined_here : List Bool → Graph → Found → List spec.Finding
  undefined_here known holders o = if is_unknown known o then spec.undefined (name_by holders o.declaration) (name_in names o.name) ∷ [] else []

  -- the same, by what the code has
  abbrev pub undefined_seen : Vec Bool Global → Vec (Vec ℕ Global) Global → Occurrence → List spec.Finding
  undefined_seen known holders o = undefined_here known.items (graph_view holders.items) (occurrence_view o)

  -- the use that an identifier is, if it is not defined
  abbrev pub use_here : List Bool → Graph → Found → List Use
  use_here known holders o = if is_unknown known o then use_at o.place (name_by holders o.declaration) (name_in names o.name) ∷ [] else []

  -- the same, by what the code has
  abbrev pub use_seen : Vec Bool Global → Vec (Vec ℕ Global) Global → Occurrence → List Use
  use_seen known holders o = use_here known.items (graph_view holders.items) (occurrence_view o)

  -- those that these identifiers are
  abbrev pub uses_among : List Bool → Graph → List Found → List Use
  uses_among known holders os = flat_map (use_here known holders) os

  -- a misfit of a call in declaration j
  abbrev pub misfit_here : Graph → ℕ → Misfit → spec.Finding
  misfit_here holders j (misfit.ParamCount e k got) = spec.miscounted (name_by holders (Some j)) (name_in names e) k got
  misfit_here holders j (misfit.NotCallable e) = spec.not_callable (name_by holders (Some j)) (name_in names e)

  -- those of these misfits
  abbrev pub misfits_here : Graph → List (ℕ × Misfit) → List spec.Finding
  misfits_here holders ms = map (λ p. misfit_here holders p.0 p.1) ms

  -- the same at its place
  abbrev pub misfitting_here : Graph → PlacedMisfit → Misfitting
  misfitting_here holders m = misfitting_at m.place (misfit_here holders m.declaration m.misfit)

  -- those of these misfits
  abbrev pub misfitting_among : Graph → List PlacedMisfit → List Misfitting
  misfitting_among holders ms = map (misfitting_here holders) ms

  -- what is found of the number a, by the last on a way back to it: that it reaches itself; where there is no last one, nothing
  abbrev pub cycle_here : ℕ → Option ℕ → List spec.Finding
  cycle_here a None = []
  cycle_here a (Some last) = spec.cycle (name_in names a) (name_in names last) ∷ []

  -- the member of a ring that a name is, by the number of the last on a way back to it and the place of that
  abbrev pub member_here : ℕ × ℕ → Option ℕ → Option ℕ → List Member
  member_here x (Some last) (Some p) = member_at x.0 (name_in names x.1) p (name_in names last) ∷ []
  member_here x _ _ = []

  -- the same by tables of the last on a way back to each number, and of the first place of each
  abbrev pub member_of : List (Option ℕ) → List (Option ℕ) → ℕ × ℕ → List Member
  member_of closers firsts x = member_here x (value_at closers x.1) (place_by firsts (value_at closers x.1))

  -- those that these names are
  abbrev pub members_among : List (Option ℕ) → List (Option ℕ) → List (ℕ × ℕ) → List Member
  members_among closers firsts xs = flat_map (member_of closers firsts) xs

-- whether two numbers are there and are one
abbrev pub are_one : Option ℕ → Option ℕ → Bool
are_one (Some n) (Some m) = n == m
are_one _ _ = false

-- whether two nodes have one group
abbrev pub have_one_group : List (Option ℕ) → ℕ → ℕ → Bool
have_one_group groups a b = are_one (value_at groups a) (value_at groups b)

-- a node, if it has one group with another
abbrev pub grouped_here : List (Option ℕ) → ℕ → ℕ → List ℕ
grouped_here groups other node = if have_one_group groups other node then node ∷ [] else []

-- the edges of a node that lead into its group
abbrev pub edges_within : List (Option ℕ) → Graph → ℕ → List ℕ
edges_within groups g n = filter (have_one_group groups n) (edges_at g n)

-- of each node the first of these that closes a ring with it
abbrev pub AreFirstClosers : Graph → List ℕ → List (Option ℕ) → Type 0
AreFirstClosers g nodes closers = (n : ℕ) → IsFirst (IsRing g n) nodes (value_at closers n)

-- of each node the first of these that closes a ring with it is kept; a node that is marked as taken is one of these
pub record AreClosers (g : Graph) (nodes : List ℕ) (taken : List Bool) (closers : List (Option ℕ)) : Type 0 where
  pub first : (n : ℕ) → IsFirst (IsRing g n) nodes (value_at closers n)
  pub among : (m : ℕ) → mark_at taken m ≡ true → Contains nodes m

-- these are taken and kept of one node more than those were of any nodes before it
abbrev pub AreClosersNext : Graph → ℕ → List Bool → List Bool → List (Option ℕ) → List (Option ℕ) → Type 0
AreClosersNext g last taken taken_now closers now = (nodes : List ℕ) → AreClosers g nodes taken closers → AreClosers g (nodes ++ last ∷ []) taken_now now

-- of these nodes those that reach themselves
abbrev pub AreRings : List Text → Graph → List ℕ → List ℕ → List spec.Finding → Type 0
AreRings names g declared [] fs = fs ≡ []
AreRings names g declared (a ∷ others) fs =
    (last : Option ℕ) × (rest : List spec.Finding) × IsFirst (IsRing g a) declared last × AreRings names g declared others rest × (fs ≡ cycle_here names a last ++ rest)

-- they are added
abbrev pub AddsRings : List Text → Graph → List ℕ → List spec.Finding → List spec.Finding → Type 0
AddsRings names g declared old new = (cs : List spec.Finding) × AreRings names g declared declared cs × (new ≡ old ++ cs)

-- the declarations of a module that reach themselves are put after those before
abbrev pub AddsCycles : UnitView → List Finding → List Finding → Type 0
AddsCycles u old new = (cs : List spec.Finding) × AreCycles u (module_numbers u) cs × AreAdded old new cs
