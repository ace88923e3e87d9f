-- What the form promises, for any table of nodes.
use Rattle.std.specs.Prelude.{◌≡◌, ℕ, List, Bool, Some, None}
use Rattle.serde_json.specs.Data.{Data}
use Rattle.wesl_json_form.specs.Schema.{Form, Table}
use Rattle.wesl_json_form.specs.Nodes.{whole_form}
use Rattle.wesl_json_form.specs.Reading.{reading}
use Rattle.wesl_json_form.specs.Place.{BreaksAt}
use Rattle.wesl_json_form.specs.Pointer.{Part}

-- a value that breaks its form somewhere has no reading, at any number of levels
abbrev pub BrokenIsRefused : Table → Type 0
BrokenIsRefused table = (path : List Part) (f : Form) (d : Data) → BreaksAt table path (Some f) d → (n : ℕ) → reading table n f d ≡ None

-- so it is with the table of both forms
abbrev pub WholeFormRefuses : Type 0
WholeFormRefuses = (spans : Bool) → BrokenIsRefused (whole_form spans)
