-- What a sink is told of a value, one after another.
use Rattle.std.specs.Prelude.{List, [], ◌∷◌, ◌++◌}
use Rattle.serde_json.specs.Data.{Data, array, object, Items, no_items, item, Members, no_members, member}
use Rattle.wesl_tree_names.specs.Path.{Text}

-- what a sink is told at a time
pub data Event : Type 0 where
  -- an object begins, and ends
  begins : Event
  ends : Event
  -- a list begins, and ends
  begins_list : Event
  ends_list : Event
  -- the key of the value that comes
  key : Text → Event
  -- a value that is no list and no object
  gives : Data → Event

abbrev mutual
  -- a value, as it is told
  pub events : Data → List Event
  events (array ds) = begins_list ∷ items_events ds
  events (object ms) = begins ∷ members_events ms
  events d = gives d ∷ []

  -- the items of a list, and its end
  pub items_events : Items → List Event
  items_events no_items = ends_list ∷ []
  items_events (item d ds) = events d ++ items_events ds

  -- the members of an object, and its end
  pub members_events : Members → List Event
  members_events no_members = ends ∷ []
  members_events (member k d ms) = key k ∷ (events d ++ members_events ms)
