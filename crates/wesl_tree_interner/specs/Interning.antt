-- Names after one was put among them.
use Rattle.std.specs.Prelude.{◌≡◌, ◌⊎◌, List, String, string_eq}
use Rattle.std.specs.Global.{Global}
use Rattle.indexmap.specs.IndexSet.{insert_key}

-- the names are those after one was put, or as before
abbrev pub PutsOrKeeps : List (String Global) → String Global → List (String Global) → Type 0
PutsOrKeeps old name new = (new ≡ old) ⊎ (new ≡ insert_key string_eq old name)
