-- Events under other names, and what rows of the table stand for.
use Rattle.std.specs.Prelude.{◌≡◌, ℕ, ◌<◌, None, List, [], ◌∷◌, length, get_or}
use Rattle.wesl_tree_names.specs.Path.{Text}
use Rattle.wesl_tree_syntax.specs.Unit.{name_in}
use Rattle.wesl_scope_occurrences.specs.Events.{EventOf, begins, meets, opens, closes, ends}
use Rattle.wesl_scope_open.specs.Open.{Readings, Open}
use Rattle.wesl_scope_open.specs.Table.{Row}

-- an event under another name
abbrev pub event_as : {I J : Type 0} → (I → J) → EventOf I → EventOf J
event_as f begins = begins
event_as f (meets here r x) = meets here r (f x)
event_as f opens = opens
event_as f closes = closes
event_as f (ends here x) = ends here (f x)

-- no two numbers have one name
abbrev pub AreDistinct : List Text → Type 0
AreDistinct names = (i j : ℕ) → i < length names → j < length names → name_in names i ≡ name_in names j → i ≡ j

-- a row by the numbers of names says what references read
pub record Stands (names : List Text) (r : Row) (v : Readings) : Type 0 where
  pub as_wide : length r ≡ length names
  pub reads : (k : ℕ) → k < length names → get_or r k None ≡ v (name_in names k)

-- each of the rows does
abbrev pub AllStand : List Text → List Row → List Readings → Type 0
AllStand names [] [] = Unit {0}
AllStand names (r ∷ rs) (v ∷ vs) = Stands names r v × AllStand names rs vs
AllStand names _ _ = ⊥

-- the row now and those of the open blocks do
pub record StandsOpen (names : List Text) (r : Row) (rs : List Row) (s : Open) : Type 0 where
  pub now : Stands names r s.reads
  pub outer : AllStand names rs s.outer
