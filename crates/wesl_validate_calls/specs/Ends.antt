-- Where the aliases of calls lead, as tables tell it.
use Rattle.std.specs.Prelude.{◌≡◌, ◌↔◌, ◌⊎◌, ◌<◌, ◌≤◌, ℕ, Bool, true, false, not, ◌&&◌, ◌||◌, ◌==◌, Option, Some, None, List, length}
use Rattle.std.specs.List.{list_any}
use Rattle.wesl_tree_names.specs.Path.{Text}
use Rattle.wesl_tree_syntax.specs.Unit.{name_in}
use Rattle.wesl_scope_strip.specs.Marks.{mark_at}
use Rattle.wesl_scope_values.specs.Values.{ReachedFrom, value_at}
use Rattle.wesl_validate_builtins.specs.Builtins.{BuiltinNames, is_callable}
use Rattle.wesl_validate_rules.specs.Graphs.{Graph, edges_at, Leads}
use Rattle.wesl_validate_rules.specs.Calls.{CallOf, ShapeOf, function_with, struct_with, open_alias}
use Rattle.wesl_validate_calls.specs.Tables.{Tables, shape_at}
use Rattle.wesl_validate_calls.specs.Judged.{count_at, ends_at}
use Rattle.wesl_validate_calls.specs.declared.misfit.Misfit.{Misfit}
use Rattle.wesl_validate_calls.specs.declared.misfit.Misfit.TheVariants as misfit

-- whether a function or a struct takes c arguments
abbrev pub takes_count : ℕ → ShapeOf ℕ → Bool
takes_count c (function_with k) = c == k
takes_count c (struct_with k) = c == k || c == 0
takes_count c _ = false

-- whether it takes any count of arguments
abbrev pub is_open : ShapeOf ℕ → Bool
is_open open_alias = true
is_open _ = false

-- whether there is a count
abbrev pub is_count : Option ℕ → Bool
is_count (Some k) = true
is_count None = false

module _ (t : Tables) where
  -- one of the declarations of the number is a function or a struct that takes c arguments
  abbrev pub takes_count_at : ℕ → ℕ → Bool
  takes_count_at c e = list_any (λ j. takes_count c (shape_at t.shapes j)) (edges_at t.declarers e)

  -- one of them takes any count
  abbrev pub opens_at : ℕ → Bool
  opens_at e = list_any (λ j. is_open (shape_at t.shapes j)) (edges_at t.declarers e)

  -- one of them is a function or a struct
  abbrev pub counts_at : ℕ → Bool
  counts_at e = is_count (count_at t e)

module _ (t : Tables) (names : List Text) (b : BuiltinNames) where
  -- no binder has the number, and its name is that of a function or a constructor that is built in
  abbrev pub is_builtin_at : ℕ → Bool
  is_builtin_at e = not (mark_at t.bound e) && is_callable b (name_in names e)

  -- whether the number takes any count of arguments
  abbrev pub is_open_at : ℕ → Bool
  is_open_at e = opens_at t e || is_builtin_at e

  -- whether the number takes c arguments: one of its declarations does, or what is built in
  abbrev pub accepts_at : ℕ → ℕ → Bool
  accepts_at c e = takes_count_at t c e || is_open_at e

module _ (g : Graph) (p : ℕ → Bool) where
  -- aliases lead from the number to one that passes
  abbrev pub LeadsToOne : ℕ → Type 0
  LeadsToOne m = (e : ℕ) × ReachedFrom g m e × (p e ≡ true)

  -- the least such, or none where they lead to none
  abbrev pub IsLeastEnd : ℕ → Option ℕ → Type 0
  IsLeastEnd m None = LeadsToOne m → ⊥
  IsLeastEnd m (Some e) = ReachedFrom g m e × (p e ≡ true) × ((d : ℕ) → d < e → ReachedFrom g m d → p d ≡ true → ⊥)

-- Of each number where its aliases lead: the counts that functions and structs take there, whether anything takes any
-- count there, how many arguments its own first function or struct takes, the least there that has one, and the least
-- there at which aliases end.
pub record Ends : Type 0 where
  pub taken : Graph
  pub any_count : List Bool
  pub counts : List (Option ℕ)
  pub counted : List (Option ℕ)
  pub ended : List (Option ℕ)

-- aliases end at the number, which is one of the graph of aliases
abbrev pub IsEnder : Tables → ℕ → Type 0
IsEnder t e = (e < length t.aliases) × (ends_at t e ≡ true)

-- the least at which aliases end is told of each number of the graph of aliases
abbrev pub AreEnded : Tables → List (Option ℕ) → Type 0
AreEnded t ended = (m : ℕ) → m < length t.aliases → IsLeastEnd t.aliases (ends_at t) m (value_at ended m)

module _ (t : Tables) (names : List Text) (b : BuiltinNames) where
  -- each number with a declaration, with aliases or to which these lead is marked if it takes any count
  pub record AreOpen (marks : List Bool) : Type 0 where
    pub fits : length t.aliases ≤ length marks
    pub sound : (e : ℕ) → mark_at marks e ≡ true → is_open_at t names b e ≡ true
    pub whole : (e : ℕ) → is_open_at t names b e ≡ true → (mark_at marks e ≡ true) ⊎ ((length marks ≤ e) × (is_builtin_at t names b e ≡ true))

  -- each such number is marked if its aliases lead to what takes any count
  pub record AreOpened (marks : List Bool) : Type 0 where
    pub sound : (m : ℕ) → mark_at marks m ≡ true → LeadsToOne t.aliases (is_open_at t names b) m
    pub whole : (m : ℕ) → LeadsToOne t.aliases (is_open_at t names b) m → (mark_at marks m ≡ true) ⊎ (is_builtin_at t names b m ≡ true)

  -- they tell where the aliases of the tables lead
  pub record AreEnds (ends : Ends) : Type 0 where
    pub taken : (m c : ℕ) → Leads ends.taken m c ↔ LeadsToOne t.aliases (takes_count_at t c) m
    pub opened : AreOpened ends.any_count
    pub counts : (e : ℕ) → value_at ends.counts e ≡ count_at t e
    pub counted : (m : ℕ) → IsLeastEnd t.aliases (counts_at t) m (value_at ends.counted m)
    pub ended : AreEnded t ends.ended

  -- whether a call is found in the tables
  abbrev pub is_found : Ends → CallOf ℕ → Bool
  is_found ends c = list_any (λ x. x == c.arguments) (edges_at ends.taken c.callee) || (mark_at ends.any_count c.callee || is_builtin_at t names b c.callee)

  -- aliases lead from the call to what accepts it
  abbrev pub FitsAt : CallOf ℕ → Type 0
  FitsAt c = LeadsToOne t.aliases (accepts_at t names b c.arguments) c.callee

  -- What is told of a call: nothing where it fits or its aliases end nowhere. Else it is the count that the least number
  -- takes to which they lead and that has a function or a struct; and where they lead to none, the least at which they end.
  abbrev pub IsJudged : CallOf ℕ → Option Misfit → Type 0
  IsJudged c None = FitsAt c ⊎ IsLeastEnd t.aliases (ends_at t) c.callee None
  IsJudged c (Some (misfit.ParamCount e k got)) = (FitsAt c → ⊥) × IsLeastEnd t.aliases (counts_at t) c.callee (Some e) × (count_at t e ≡ Some k) × (got ≡ c.arguments)
  IsJudged c (Some (misfit.NotCallable e)) = (FitsAt c → ⊥) × IsLeastEnd t.aliases (counts_at t) c.callee None × IsLeastEnd t.aliases (ends_at t) c.callee (Some e)

-- a number is added to those that take so many arguments as a declaration of this shape
abbrev pub AddsTaker : ShapeOf ℕ → ℕ → Graph → Graph → Type 0
AddsTaker s n old new = (c e : ℕ) → Leads new c e ↔ (Leads old c e ⊎ ((n ≡ e) × (takes_count c s ≡ true)))

-- the same, of each of these declarations of the number
abbrev pub AddsTakers : List (ShapeOf ℕ) → List ℕ → ℕ → Graph → Graph → Type 0
AddsTakers shapes js n old new = (c e : ℕ) → Leads new c e ↔ (Leads old c e ⊎ ((n ≡ e) × (list_any (λ j. takes_count c (shape_at shapes j)) js ≡ true)))

-- edges lead from each number that passes to itself, and nowhere else
abbrev pub LeadToThemselves : (ℕ → Type 0) → Graph → Type 0
LeadToThemselves passes g = (v e : ℕ) → Leads g v e ↔ ((v ≡ e) × passes e)

-- edges lead from a count to each number that takes so many arguments
abbrev pub LeadToTakers : Tables → Graph → Type 0
LeadToTakers t g = (c e : ℕ) → Leads g c e ↔ (takes_count_at t c e ≡ true)

-- an edge from a number to itself is added, if it is one of those
abbrev pub AddsItself : ℕ → Bool → Graph → Graph → Type 0
AddsItself n is_one old new = (v e : ℕ) → Leads new v e ↔ (Leads old v e ⊎ ((n ≡ v) × (n ≡ e) × (is_one ≡ true)))
