-- The places where a value breaks its form, and their JSON Pointers.
use Rattle.std.specs.Prelude.{◌≡◌, ◌⊎◌, List, [], ◌∷◌, ◌++◌, Bool, true, false, if◌then◌else◌, is_some, Option, Some, None, option_map, option_and_then, codes}
use Rattle.std.specs.Str.{bytes_eq}
use Rattle.serde_json.specs.Data.{Data, Members}
use Rattle.serde_json.specs.Find.{get, at, as_number, as_array, as_object, is_float}
use Rattle.wesl_tree_names.specs.Path.{Text}
use Rattle.wesl_tree_syntax.specs.Tree.{kind, present}
use Rattle.wesl_json_form.specs.Schema.{Leaf, a_name, a_text, some_names, one_of, anything, Name, Form, leaf, list_of, node, Head, fixed, chosen, Row, nothing, marked, needs, may, many, given, inner, inner_where, Node, Table, Extra, a_span, second_form, extra, placed, beside}
use Rattle.wesl_json_form.specs.Reading.{leaf_label, known_keys, extra_key}
use Rattle.wesl_json_form.specs.Keys.{has_only}
use Rattle.wesl_json_form.specs.Pointer.{Part, key, index, pointer_text}

-- ---- the members of an object

-- a member that an object may have: its key, whether it must be there, and the form of its value
pub record Field : Type 0 where
  pub named : Text
  pub is_required : Bool
  pub form : Form

-- the member at this key, whether it must be there, and its form
abbrev pub field : Text → Bool → Form → Field
field k required f = record { named = k; is_required = required; form = f }

-- the members that a label is made of: the word that picks it, which must be there; else none
abbrev pub head_fields : Head → List Field
head_fields (fixed l) = []
head_fields (chosen k words) = field k true (leaf (one_of words)) ∷ []
head_fields (placed spans k) = []

-- the member that gives no child must be there: `form` must, and `span` need not
abbrev pub is_needed : Extra → Bool
is_needed second_form = true
is_needed a_span = false

-- the member that gives no child, where it may stand; else no member
abbrev pub extra_fields : Bool → Extra → List Field
extra_fields b x = if b then field (extra_key x) (is_needed x) (leaf (extra x)) ∷ [] else []

-- The members that an object must or may have by its row. An option that is there where the object has a key gives all that
-- it is made of where the object has this key, else this key alone.
abbrev pub fields : Row → Data → List Field
fields nothing d = []
fields (marked k w row) d = head_fields (chosen k ((w, kind present) ∷ [])) ++ fields row d
fields (needs k f row) d = field k true f ∷ fields row d
fields (may k f row) d = field k false f ∷ fields row d
fields (many k f row) d = field k false f ∷ fields row d
fields (given l row) d = fields row d
fields (inner h ins row) d = head_fields h ++ fields ins d ++ fields row d
fields (inner_where k h ins row) d = (if is_some (get k d) then head_fields h ++ fields ins d else field k false (leaf a_text) ∷ []) ++ fields row d
fields (beside b x row) d = extra_fields b x ++ fields row d

-- the first of these members that has this key
abbrev pub find_field : Text → List Field → Option Field
find_field k [] = None
find_field k (f ∷ fs) = if bytes_eq k f.named then Some f else find_field k fs

-- an object that lacks a member that must be there, or has an unknown key
abbrev pub IsWrongObject : Row → Data → Type 0
IsWrongObject row d = (has_only (known_keys row d) d ≡ false) ⊎ (k : Text) × (option_map (λ x. x.is_required) (find_field k (fields row d)) ≡ Some true) × (get k d ≡ None)

module _ (table : Table) where
  -- the fields of the node that an object is
  abbrev pub fields_of : Name → Data → List Field
  fields_of m d = elim (table.nodes m d) as (λ _. List Field) [ None ↦ [] | Some n ↦ fields n.row d ]

  -- the form of a member
  abbrev pub member_form : Form → Text → Data → Option Form
  member_form (leaf anything) k d = Some (leaf anything)
  member_form (leaf _) k d = None
  member_form (list_of which m) k d = None
  member_form (node m) k d = option_map (λ x. x.form) (find_field k (fields_of m d))

  -- the form of an item
  abbrev pub item_form : Form → Option Form
  item_form (leaf some_names) = Some (leaf a_name)
  item_form (leaf anything) = Some (leaf anything)
  item_form (leaf (extra x)) = Some (leaf anything)
  item_form (leaf _) = None
  item_form (list_of which m) = Some (node m)
  item_form (node m) = None

  -- itself no such leaf, whatever its members and items; as `anything`, itself a number that is not whole
  abbrev pub IsWrongLeaf : Leaf → Data → Type 0
  IsWrongLeaf some_names d = as_array d ≡ None
  IsWrongLeaf anything d = option_map is_float (as_number d) ≡ Some true
  IsWrongLeaf l d = leaf_label l d ≡ None

  -- an object that is wrong as this node; where no node is picked, one that lacks `k`: an unknown word is wrong itself
  abbrev pub IsWrongNode : Option Node → Data → Type 0
  IsWrongNode None d = get (codes "k") d ≡ None
  IsWrongNode (Some n) d = IsWrongObject n.row d

  -- itself no value of this name: an object that is wrong, or no object and no short form
  abbrev pub IsWrongValue : Name → Data → Option Members → Type 0
  IsWrongValue m d None = table.shorts m d ≡ None
  IsWrongValue m d (Some ms) = IsWrongNode (table.nodes m d) d

  -- itself no value of this form, whatever its members and items
  abbrev pub IsWrong : Form → Data → Type 0
  IsWrong (leaf l) d = IsWrongLeaf l d
  IsWrong (list_of k m) d = as_array d ≡ None
  IsWrong (node m) d = IsWrongValue m d (as_object d)

  -- the word at `k` of an object that picks no node in the place of this name; no other key has such a word
  abbrev pub IsUnknownWord : Form → Text → Data → Type 0
  IsUnknownWord (leaf l) k d = ⊥
  IsUnknownWord (list_of which m) k d = ⊥
  IsUnknownWord (node m) k d = (k ≡ codes "k") × (table.nodes m d ≡ None)

  -- the same where the object may have no form: without one no word is unknown
  abbrev pub HasUnknownWord : Option Form → Text → Data → Type 0
  HasUnknownWord None k d = ⊥
  HasUnknownWord (Some f) k d = IsUnknownWord f k d

  -- the value breaks the form at this place; where it has no form there, a number does
  abbrev pub BreaksAt : List Part → Option Form → Data → Type 0
  BreaksAt [] None d = is_some (as_number d) ≡ true
  BreaksAt [] (Some f) d = IsWrong f d
  BreaksAt (key k ∷ path) f d = (e : Data) × (get k d ≡ Some e) × (BreaksAt path (option_and_then (λ g. member_form g k d) f) e ⊎ (path ≡ []) × HasUnknownWord f k d)
  BreaksAt (index i ∷ path) f d = (e : Data) × (at i d ≡ Some e) × BreaksAt path (option_and_then item_form f) e

  -- this text is a place at which the value breaks the form
  abbrev pub IsBroken : Form → Data → Text → Type 0
  IsBroken f d place = (path : List Part) × (place ≡ pointer_text path) × BreaksAt path (Some f) d
