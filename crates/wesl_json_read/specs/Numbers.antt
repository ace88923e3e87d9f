-- What reading a part of a tree leaves: numbers for the names met, and the part's tree.
use Rattle.std.specs.Prelude.{Bool, true, ◌≡◌, ◌⊎◌, ℕ, suc, ◌<◌, ◌≤◌, List, [], ◌∷◌, ◌++◌, length, Option, Some, slice_get}
use Rattle.serde_json.specs.Data.{Data, depth}
use Rattle.serde_json.specs.Find.{get}
use Rattle.wesl_tree_names.specs.Path.{Text}
use Rattle.wesl_tree_syntax.specs.Tree.{Tree, Forest, kind, type_expression, before, end, identifiers, forest_below}
use Rattle.wesl_tree_syntax.specs.Unit.{name_in}
use Rattle.wesl_tree_syntax.specs.Shown.{shown, shown_forest}
use Rattle.wesl_json_form.specs.Schema.{Spelled, SpelledForest, Form, Row, a_span, beside}
use Rattle.wesl_json_form.specs.Nodes.{short_type, type_row}
use Rattle.wesl_json_form.specs.Reading.{name_in as name_of, known_keys, reading, needed, optional, or_empty, empty_of, children_in}
use Rattle.wesl_json_form.specs.Keys.{has_only}
use Rattle.wesl_json_form.specs.Units.{NumberedFrom}
use Rattle.wesl_json_form.specs.Nodes.{whole_form}

-- one table begins the other
abbrev pub Begins : List Text → List Text → Type 0
Begins old new = (later : List Text) × (new ≡ old ++ later)

-- the name has the number i in the table `new`, which is `old`, or `old` with the name at the end
pub record IsNumbered (old : List Text) (name : Text) (i : ℕ) (new : List Text) : Type 0 where
  pub named : slice_get new i ≡ Some name
  pub grows : (new ≡ old) × (i < length old) ⊎ (new ≡ old ++ name ∷ []) × (i ≡ length old)

-- The tree's spelling, with its spans, is the reading, at each number of levels from `least` on, under the new table
-- and each that it begins.
-- The tree's numbers come in order, and each has a name in the new table.
pub record IsReadAs (read : ℕ → Option Spelled) (least : ℕ) (t : Tree) (old new : List Text) : Type 0 where
  pub spelled : (n : ℕ) (names : List Text) → least ≤ n → Begins new names → read n ≡ Some (shown true (name_in names) t)
  pub numbered : NumberedFrom (length old) (identifiers (before t end)) (length new)
  pub closed : (n : ℕ) → length new ≤ n → forest_below n (before t end) ≡ true
  pub begins : Begins old new

-- the same of trees after one another
pub record AreReadAs (read : ℕ → Option SpelledForest) (least : ℕ) (ts : Forest) (old new : List Text) : Type 0 where
  pub spelled : (n : ℕ) (names : List Text) → least ≤ n → Begins new names → read n ≡ Some (shown_forest true (name_in names) ts)
  pub numbered : NumberedFrom (length old) (identifiers ts) (length new)
  pub closed : (n : ℕ) → length new ≤ n → forest_below n ts ≡ true
  pub begins : Begins old new

-- a nonempty text is read as a type by this name alone
pub record ReadsPlain (d : Data) (t : Tree) (old new : List Text) : Type 0 where
  pub plain : IsReadAs (λ n. short_type d) 0 t old new

module _ (spans : Bool) where
  -- a value is read as the tree
  abbrev pub ReadsForm : Form → Data → Tree → List Text → List Text → Type 0
  ReadsForm f d = IsReadAs (λ n. reading (whole_form spans) n f d) (suc (depth d))

  -- the member k, which must be there, is read as the tree
  abbrev pub ReadsMember : Text → Form → Data → Tree → List Text → List Text → Type 0
  ReadsMember k f d = IsReadAs (λ n. needed (reading (whole_form spans) n f) (get k d)) (depth d)

  -- the member k is read as the tree of an option, an absent one where it is not there
  abbrev pub ReadsOptional : Text → Form → Data → Tree → List Text → List Text → Type 0
  ReadsOptional k f d = IsReadAs (λ n. optional (reading (whole_form spans) n f) (get k d)) (depth d)

  -- the list at k is read as the tree, an empty one where it is not there
  abbrev pub ReadsList : Text → Form → Data → Tree → List Text → List Text → Type 0
  ReadsList k f d = IsReadAs (λ n. or_empty (empty_of f) (reading (whole_form spans) n f) (get k d)) (depth d)

  -- the members of an object are read as the children
  abbrev pub ReadsRow : Row → Data → Forest → List Text → List Text → Type 0
  ReadsRow row d = AreReadAs (λ n. children_in (reading (whole_form spans) n) row d) (depth d)

  -- an object is read as a type, with a list of arguments or without one, and with a span where it takes one
  pub record ReadsType (takes_span : Bool) (d : Data) (t : Tree) (old new : List Text) : Type 0 where
    pub children : Forest
    pub is_type : t ≡ record { label = kind type_expression; children = children }
    pub known : has_only (known_keys (beside takes_span a_span type_row) d) d ≡ true
    pub row_is : ReadsRow type_row d children old new

  -- ---- the same, each under a name of its own

  -- a value is read as the tree, as `ReadsForm` says
  pub record Reads (f : Form) (d : Data) (t : Tree) (old new : List Text) : Type 0 where
    pub form : ReadsForm f d t old new

  -- a member that must be there is read as the tree, as `ReadsMember` says
  pub record ReadsNeeded (k : Text) (f : Form) (d : Data) (t : Tree) (old new : List Text) : Type 0 where
    pub member : ReadsMember k f d t old new

  -- a member that may be there is read as the tree, as `ReadsOptional` says
  pub record ReadsMay (k : Text) (f : Form) (d : Data) (t : Tree) (old new : List Text) : Type 0 where
    pub member : ReadsOptional k f d t old new

  -- a list is read as the tree, as `ReadsList` says
  pub record ReadsMany (k : Text) (f : Form) (d : Data) (t : Tree) (old new : List Text) : Type 0 where
    pub member : ReadsList k f d t old new

  -- the members of an object are read as the children, as `ReadsRow` says
  pub record ReadsRows (row : Row) (d : Data) (ts : Forest) (old new : List Text) : Type 0 where
    pub row_is : ReadsRow row d ts old new

-- the value is a name, which has this number
abbrev pub IsNameNumbered : Data → ℕ → List Text → List Text → Type 0
IsNameNumbered d i old new = (name : Text) × (name_of d ≡ Some name) × IsNumbered old name i new
