-- What the modules of a bundle of texts hand out at a path, and what they refuse.
use Rattle.std.specs.Prelude.{◌≡◌, Option, Some, None, Result, Ok, Err, codes, string_bytes}
use Rattle.serde_json.specs.Data.{Data}
use Rattle.serde_json.specs.Find.{as_str}
use Rattle.wesl_tree_names.specs.Path.{Text, Path}
use Rattle.wesl_tree_names.specs.Errors.{IsModuleNotFound, IsRefusedWith}
use Rattle.wesl_tree_names.specs.declared.errors.Error as error
use Rattle.wesl_tree_names.specs.declared.errors.ResolveError.{ResolveError}
use Rattle.wesl_tree_syntax.specs.Unit.{UnitOf}
use Rattle.wesl_cond_features.specs.declared.features.Features.{Features}
use Rattle.wesl_text_form.specs.Says.{TextSays}
use Rattle.wesl_text.specs.Said.{IsUnreadable}
use Rattle.wesl_link.specs.Linking.{hands_left, refuses_left}

-- the value is a text, and the text says the unit
abbrev pub IsSaid : Option Text → UnitOf Text → Type 0
IsSaid (Some t) u = TextSays t u
IsSaid None u = ⊥

-- the fault of a unit that is no text
abbrev pub IsNoText : error.Error → Type 0
IsNoText (error.BadTree reason) = string_bytes reason ≡ codes "expected a text"
IsNoText _ = ⊥

-- the fault of a value that is no text, or of a text that says no unit
abbrev pub IsUnreadText : Option Text → error.Error → Type 0
IsUnreadText (Some t) e = IsUnreadable t e
IsUnreadText None e = IsNoText e

-- the fault of the value of a unit
abbrev pub IsTextFault : Data → error.Error → Type 0
IsTextFault d e = IsUnreadText (as_str d) e

-- the unit that the text at a path says, of what is found there
abbrev pub IsSaidBy : Result Data Text → UnitOf Text → Type 0
IsSaidBy (Ok d) u = IsSaid (as_str d) u
IsSaidBy (Err message) u = ⊥

-- what is found at the path is no text that says a unit, or nothing is found, and that is said
abbrev pub IsUnsaid : Path → Result Data Text → ResolveError → Type 0
IsUnsaid p (Ok d) e = IsRefusedWith (IsTextFault d) e
IsUnsaid p (Err message) e = IsModuleNotFound p message e

module _ (found : Path → Result Data Text) where
  -- at a path the unit that the text there says is handed out
  abbrev pub said_in : Path → UnitOf Text → Type 0
  said_in p u = IsSaidBy (found p) u

  -- or the path is refused
  abbrev pub unsaid_in : Path → ResolveError → Type 0
  unsaid_in p e = IsUnsaid p (found p) e

  -- the unit as the features leave it; without features no condition is judged
  abbrev pub hands_in : Option Features → Path → UnitOf Text → Type 0
  hands_in = hands_left said_in unsaid_in

  -- the path is refused, or a fault of a condition stands in the unit there
  abbrev pub refuses_in : Option Features → Path → ResolveError → Type 0
  refuses_in = refuses_left said_in unsaid_in
