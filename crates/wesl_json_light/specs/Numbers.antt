-- Whether a number stands in a value.
use Rattle.std.specs.Prelude.{Bool, true, false, ◌||◌}
use Rattle.serde_json.specs.Data.{Data, null, boolean, number, string, array, object, Items, no_items, item, Members, no_members, member}

abbrev mutual
  -- a number stands in the value, however deep
  pub has_number : Data → Bool
  has_number null = false
  has_number (boolean b) = false
  has_number (number n) = true
  has_number (string s) = false
  has_number (array ds) = items_have_number ds
  has_number (object ms) = members_have_number ms

  -- a number stands in one of the items
  pub items_have_number : Items → Bool
  items_have_number no_items = false
  items_have_number (item d ds) = has_number d || items_have_number ds

  -- a number stands in the value of one of the members
  pub members_have_number : Members → Bool
  members_have_number no_members = false
  members_have_number (member k d ms) = has_number d || members_have_number ms
