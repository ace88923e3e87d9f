-- What a sink that builds a value holds.
use Rattle.std.specs.Prelude.{◌≡◌, List, [], ◌∷◌, ◌++◌, map, false, Option, Some, None, option_and_then, option_map, string_bytes, String, Vec}
use Rattle.std.proofs.Common.{refl, ap, ◌∙◌}
use Rattle.std.specs.declared.alloc.Global.{Global}
use Rattle.serde_json.specs.Data.{Data}
use Rattle.serde_json.specs.View.{view}
use Rattle.serde_json.specs.declared.value.Value.{Value}
use Rattle.wesl_json_print_nodes.specs.Events.{Event}
use Rattle.wesl_tree_names.specs.Path.{Text}
use Rattle.wesl_json_write.specs.Building.{Level, State, listing, naming, run, step, take}
use Rattle.wesl_json_write.specs.declared.values.Open.{Open}
use Rattle.wesl_json_write.specs.declared.values.Open.TheVariants as opens
use Rattle.wesl_json_write.specs.declared.values.ValueSink.{ValueSink}

-- members, each a key and a value
abbrev pub pairs_of : List (String Global × Value) → List (Text × Data)
pairs_of ms = map (λ m. (string_bytes m.0, view m.1)) ms

-- a list or an object that has not ended
abbrev pub level_of : Open → Level
level_of (opens.Items v) = listing (map view v.items)
level_of (opens.Members v k) = naming (pairs_of v.items) (option_map string_bytes k)

-- all that has not ended, before these levels: the inmost first, which stands last
abbrev pub levels : List Open → List Level → List Level
levels [] ls = ls
levels (x ∷ xs) ls = levels xs (level_of x ∷ ls)

-- what has not ended, and the value that stands alone
abbrev pub state_of : ValueSink → State
state_of v = (levels v.open.items [], option_map view v.done)

-- the events were built, unless memory was wanting by then or what was told is no value
pub record Builds (es : List Event) (old new : ValueSink) : Type 0 where
  pub built : new.is_refused ≡ false → run es (state_of old) ≡ Some (state_of new)
  pub noted : new.is_refused ≡ false → old.is_refused ≡ false

-- a level more
pub record Opens (level : Open) (old new : ValueSink) : Type 0 where
  pub held : new.is_refused ≡ false → new.open.items ≡ old.open.items ++ level ∷ []
  pub done : new.done ≡ old.done
  pub noted : new.is_refused ≡ false → old.is_refused ≡ false

-- a value more behind what was the inmost level
pub record Takes (level : Level) (value : Value) (old new : ValueSink) : Type 0 where
  pub built : new.is_refused ≡ false → take (view value) (level ∷ levels old.open.items [], option_map view old.done) ≡ Some (state_of new)
  pub noted : new.is_refused ≡ false → old.is_refused ≡ false

-- the same behind items
abbrev pub TakesIn : Vec Value Global → Value → ValueSink → ValueSink → Type 0
TakesIn items value old new = Takes (level_of (opens.Items items)) value old new

-- the same behind members, at a key
abbrev pub TakesAt : Vec (String Global × Value) Global → Option (String Global) → Value → ValueSink → ValueSink → Type 0
TakesAt members key value old new = Takes (level_of (opens.Members members key)) value old new

pub builds_none : (v : ValueSink) → Builds [] v v
builds_none v = record { built = λ k. refl; noted = λ k. k }

pub run_more : (es fs : List Event) (s : State) → run (es ++ fs) s ≡ option_and_then (run fs) (run es s)
run_more [] fs s = refl
run_more (e ∷ es) fs s = at_step (step e s) (run_more es fs)
  where
    at_step : (o : Option State) → ((t : State) → run (es ++ fs) t ≡ option_and_then (run fs) (run es t)) → option_and_then (run (es ++ fs)) o ≡ option_and_then (run fs) (option_and_then (run es) o)
    at_step None later = refl
    at_step (Some t) later = later t

pub builds_more : (es fs : List Event) (a b c : ValueSink) → Builds es a b → Builds fs b c → Builds (es ++ fs) a c
builds_more es fs a b c h k = record {
  built = λ kept. run_more es fs (state_of a) ∙ ap (option_and_then (run fs)) (h.built (k.noted kept)) ∙ k.built kept;
  noted = λ kept. h.noted (k.noted kept);
}
