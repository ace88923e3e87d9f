-- The keys of an object.
use Rattle.std.specs.Prelude.{◌≡◌, ◌⊎◌, List, [], ◌∷◌, ◌++◌, Bool, true, false, ◌&&◌, if◌then◌else◌, None, Some}
use Rattle.std.specs.List.{list_any}
use Rattle.std.specs.Str.{bytes_eq}
use Rattle.serde_json.specs.Data.{Data, Members, no_members, member}
use Rattle.serde_json.specs.Find.{as_object}
use Rattle.wesl_tree_names.specs.Path.{Text}

-- each of the members has one of the known keys; so it is where there are no members
abbrev pub all_known : List Text → Members → Bool
all_known known no_members = true
all_known known (member k d ms) = list_any (λ x. bytes_eq x k) known && all_known known ms

-- an object with no other keys
abbrev pub has_only : List Text → Data → Bool
has_only known d = elim (as_object d) as (λ _. Bool) [ None ↦ false | Some ms ↦ all_known known ms ]

-- keys, and where so an extra one beside them
abbrev pub keys_beside : Bool → Text → List Text → List Text
keys_beside beside extra known = (if beside then extra ∷ [] else []) ++ known

-- the object has this value at this key
abbrev pub HasMember : Text → Data → Members → Type 0
HasMember k d no_members = ⊥
HasMember k d (member l e ms) = ((k ≡ l) × (d ≡ e)) ⊎ HasMember k d ms
