-- What is built of events.
use Rattle.std.specs.Prelude.{List, [], ◌∷◌, ◌++◌, Option, Some, None, option_and_then}
use Rattle.serde_json.specs.Data.{Data, array, object, Members, no_members, put}
use Rattle.serde_json.specs.View.{items_of}
use Rattle.wesl_json_print_nodes.specs.Events.{Event, begins, begins_list, ends, ends_list, gives, key}
use Rattle.wesl_tree_names.specs.Path.{Text}

-- a list that has not ended, from its items so far, or an object, from its members so far and the key of the next
pub data Level : Type 0 where
  listing : List Data → Level
  naming : List (Text × Data) → Option Text → Level

-- the members as an object has them; of those with one key the first stays
abbrev pub put_all : List (Text × Data) → Members
put_all [] = no_members
put_all (m ∷ ms) = put m.0 m.1 (put_all ms)

-- what has not ended, the inmost first, and the value that stands alone
abbrev pub State : Type 0
State = List Level × Option Data

-- a value comes: alone, as a further item, or at the key that is told; nothing follows where no key is
abbrev pub take : Data → State → Option State
take d ([], o) = Some ([], Some d)
take d (listing ds ∷ ls, o) = Some (listing (ds ++ d ∷ []) ∷ ls, o)
take d (naming ms (Some k) ∷ ls, o) = Some (naming (ms ++ (k, d) ∷ []) None ∷ ls, o)
take d (naming ms None ∷ ls, o) = None

-- an object ends: it is a value that comes
abbrev pub end_object : State → Option State
end_object (naming ms k ∷ ls, o) = take (object (put_all ms)) (ls, o)
end_object s = None

-- a list ends
abbrev pub end_list : State → Option State
end_list (listing ds ∷ ls, o) = take (array (items_of ds)) (ls, o)
end_list s = None

-- the key of the next member
abbrev pub name : Text → State → Option State
name k (naming ms old ∷ ls, o) = Some (naming ms (Some k) ∷ ls, o)
name k s = None

-- what one event makes of a state, where it fits there
abbrev pub step : Event → State → Option State
step begins s = Some (naming [] None ∷ s.0, s.1)
step ends s = end_object s
step begins_list s = Some (listing [] ∷ s.0, s.1)
step ends_list s = end_list s
step (key k) s = name k s
step (gives d) s = take d s

-- events after one another
abbrev pub run : List Event → State → Option State
run [] s = Some s
run (e ∷ es) s = option_and_then (run es) (step e s)
