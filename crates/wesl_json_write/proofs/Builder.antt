-- What a builder of values holds after a step.
use Rattle.std.proofs.Common.{◌≡◌, List, [], ◌∷◌, ◌++◌, map, false, Option, Some, None, String, Global, Vec, ℕ, string_bytes, refl, sym, ap, ◌∙◌}
use Rattle.std.specs.Prelude.{option_and_then, option_map}
use Rattle.serde_json.specs.Data.{Data, array, object}
use Rattle.serde_json.specs.View.{items_of, view}
use Rattle.serde_json.specs.declared.value.Value.{Value}
use Rattle.wesl_json_print_nodes.specs.Events.{Event, ends, ends_list, gives, key}
use Rattle.wesl_json_write.specs.Building.{Level, State, end_list, end_object, listing, name, naming, put_all, run, step, take}
use Rattle.wesl_json_write.specs.Holds.{Builds, Opens, Takes, level_of, levels, pairs_of, state_of}
use Rattle.wesl_json_write.proofs.Built.{alone}
use Rattle.wesl_json_write.specs.declared.values.Open.{Open}
use Rattle.wesl_json_write.specs.declared.values.Open.TheVariants as opens
use Rattle.wesl_json_write.specs.declared.values.ValueSink.{ValueSink}

levels_more : (xs : List Open) (x : Open) (ls : List Level) → levels (xs ++ x ∷ []) ls ≡ level_of x ∷ levels xs ls
levels_more [] x ls = refl
levels_more (y ∷ xs) x ls = levels_more xs x (level_of y ∷ ls)

map_more : {A B : Type 0} (f : A → B) (xs : List A) (x : A) → map f (xs ++ x ∷ []) ≡ map f xs ++ f x ∷ []
map_more f [] x = refl
map_more f (y ∷ xs) x = ap (λ r. f y ∷ r) (map_more f xs x)

-- a level more, as a state
state_more : {level : Open} {old new : ValueSink} → Opens level old new → new.is_refused ≡ false → (level_of level ∷ levels old.open.items [], option_map view old.done) ≡ state_of new
state_more {level} {old} {new} h kept =
    ap (λ ls. (ls, option_map view old.done)) (sym (ap (λ xs. levels xs []) (h.held kept) ∙ levels_more old.open.items level []))
    ∙ ap (λ d. (levels new.open.items [], option_map view d)) (sym h.done)

pub opened : {level : Open} {e : Event} {old new : ValueSink} (l : Level) → l ≡ level_of level → Opens level old new → ((s : State) → step e s ≡ Some (l ∷ s.0, s.1)) → Builds (e ∷ []) old new
opened {level} {e} {old} {new} l same h is = record {
  built = λ kept. ap (option_and_then (run [])) (is (state_of old)) ∙ ap Some (ap (λ m. (m ∷ levels old.open.items [], option_map view old.done)) same ∙ state_more h kept);
  noted = h.noted;
}

pub taken : {level : Open} {l : Level} {value : Value} {old new : ValueSink} → Opens level old new → ((ls : List Level) (o : Option Data) → take (view value) (l ∷ ls, o) ≡ Some (level_of level ∷ ls, o)) → Takes l value old new
taken {level} {l} {value} {old} {new} h is = record {
  built = λ kept. is (levels old.open.items []) (option_map view old.done) ∙ ap Some (state_more h kept);
  noted = h.noted;
}

pub item_taken : (items grown : Vec Value Global) (value : Value) → grown.items ≡ items.items ++ value ∷ [] → (ls : List Level) (o : Option Data) → take (view value) (level_of (opens.Items items) ∷ ls, o) ≡ Some (level_of (opens.Items grown) ∷ ls, o)
item_taken items grown value is ls o = ap (λ ds. Some (listing ds ∷ ls, o)) (sym (ap (map view) is ∙ map_more view items.items value))

pub member_taken : (members grown : Vec (String Global × Value) Global) (at : String Global) (value : Value) → grown.items ≡ members.items ++ (at, value) ∷ [] → (ls : List Level) (o : Option Data) → take (view value) (level_of (opens.Members members (Some at)) ∷ ls, o) ≡ Some (level_of (opens.Members grown None) ∷ ls, o)
member_taken members grown at value is ls o = ap (λ ms. Some (naming ms None ∷ ls, o)) (sym (ap pairs_of is ∙ map_more (λ m. (string_bytes m.0, view m.1)) members.items (at, value)))

-- what was popped, and then a step from the rest
popped : (old mid : ValueSink) (level : Open) → old.open.items ≡ mid.open.items ++ level ∷ [] → mid.done ≡ old.done → state_of old ≡ (level_of level ∷ levels mid.open.items [], option_map view mid.done)
popped old mid level is done = ap (λ xs. (levels xs [], option_map view old.done)) is ∙ ap (λ ls. (ls, option_map view old.done)) (levels_more mid.open.items level []) ∙ ap (λ d. (level_of level ∷ levels mid.open.items [], option_map view d)) (sym done)

pub taken_over : {old mid new : ValueSink} {value : Value} (level : Open) → old.open.items ≡ mid.open.items ++ level ∷ [] → mid.done ≡ old.done → mid.is_refused ≡ old.is_refused → Takes (level_of level) value mid new → Builds (gives (view value) ∷ []) old new
taken_over {old} {mid} {new} {value} level is done flag h = record {
  built = λ kept. alone (take (view value) (state_of old)) ∙ ap (take (view value)) (popped old mid level is done) ∙ h.built kept;
  noted = λ kept. sym flag ∙ h.noted kept;
}

pub list_ended : {old mid new : ValueSink} (value : Value) (items : Vec Value Global) → old.open.items ≡ mid.open.items ++ opens.Items items ∷ [] → mid.done ≡ old.done → mid.is_refused ≡ old.is_refused → view value ≡ array (items_of (map view items.items)) → Builds (gives (view value) ∷ []) mid new → Builds (ends_list ∷ []) old new
list_ended {old} {mid} {new} value items is done flag what h = record {
  built = λ kept. alone (end_list (state_of old)) ∙ ap end_list (popped old mid (opens.Items items) is done) ∙ ap (λ d. take d (state_of mid)) (sym what) ∙ sym (alone (take (view value) (state_of mid))) ∙ h.built kept;
  noted = λ kept. sym flag ∙ h.noted kept;
}

pub object_ended : {old mid new : ValueSink} (value : Value) (members : Vec (String Global × Value) Global) (at : Option (String Global)) → old.open.items ≡ mid.open.items ++ opens.Members members at ∷ [] → mid.done ≡ old.done → mid.is_refused ≡ old.is_refused → view value ≡ object (put_all (pairs_of members.items)) → Builds (gives (view value) ∷ []) mid new → Builds (ends ∷ []) old new
object_ended {old} {mid} {new} value members at is done flag what h = record {
  built = λ kept. alone (end_object (state_of old)) ∙ ap end_object (popped old mid (opens.Members members at) is done) ∙ ap (λ d. take d (state_of mid)) (sym what) ∙ sym (alone (take (view value) (state_of mid))) ∙ h.built kept;
  noted = λ kept. sym flag ∙ h.noted kept;
}

pub named : {old mid new : ValueSink} (members : Vec (String Global × Value) Global) (before : Option (String Global)) (k : String Global) (t : List ℕ) → string_bytes k ≡ t → old.open.items ≡ mid.open.items ++ opens.Members members before ∷ [] → mid.done ≡ old.done → mid.is_refused ≡ old.is_refused → Opens (opens.Members members (Some k)) mid new → Builds (key t ∷ []) old new
named {old} {mid} {new} members before k t text is done flag h = record {
  built = λ kept. alone (name t (state_of old)) ∙ ap (name t) (popped old mid (opens.Members members before) is done) ∙ ap (λ u. Some (naming (pairs_of members.items) (Some u) ∷ levels mid.open.items [], option_map view mid.done)) (sym text) ∙ ap Some (state_more h kept);
  noted = λ kept. sym flag ∙ h.noted kept;
}
