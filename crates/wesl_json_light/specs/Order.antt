-- Data with the members of each object in the order of their keys.
use Rattle.serde_json.specs.Data.{Data, null, boolean, number, string, array, object, Items, no_items, item, Members, no_members, member, put}

abbrev mutual
  -- the value with the members of each object in it in the order of their keys; of those with one key the first stays
  pub sorted : Data → Data
  sorted null = null
  sorted (boolean b) = boolean b
  sorted (number n) = number n
  sorted (string s) = string s
  sorted (array ds) = array (sorted_items ds)
  sorted (object ms) = object (sorted_members ms)

  -- the items, each with its members in this order; the items keep their own
  pub sorted_items : Items → Items
  sorted_items no_items = no_items
  sorted_items (item d ds) = item (sorted d) (sorted_items ds)

  -- the members in the order of their keys, the value of each so too; of those with one key the first stays
  pub sorted_members : Members → Members
  sorted_members no_members = no_members
  sorted_members (member k d ms) = put k (sorted d) (sorted_members ms)
