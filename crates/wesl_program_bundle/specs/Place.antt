-- The places of numbers in a bundle that are not read as whole ones.
use Rattle.std.specs.Prelude.{◌≡◌, List, [], ◌∷◌, true, Some, option_map}
use Rattle.serde_json.specs.Data.{Data, Members}
use Rattle.serde_json.specs.Find.{at, as_number, as_object, is_float}
use Rattle.wesl_json_form.specs.Keys.{HasMember}
use Rattle.wesl_json_form.specs.Pointer.{Part, key, index}

-- the parts lead to a number that is not read as a whole one
abbrev pub IsFloatAt : List Part → Data → Type 0
IsFloatAt [] d = option_map is_float (as_number d) ≡ Some true
IsFloatAt (key k ∷ path) d = (ms : Members) × (e : Data) × (as_object d ≡ Some ms) × HasMember k e ms × IsFloatAt path e
IsFloatAt (index i ∷ path) d = (e : Data) × (at i d ≡ Some e) × IsFloatAt path e
