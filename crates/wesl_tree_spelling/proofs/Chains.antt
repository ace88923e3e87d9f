-- Trees whose parts are compared one after the other.
use Rattle.std.proofs.Common.{◌≡◌, ℕ, Bool, true, false, ◌&&◌, sym, ap, ◌∙◌}
use Rattle.wesl_tree_names.specs.Path.{Text}
use Rattle.wesl_tree_syntax.specs.Kinds.{same_kind}
use Rattle.wesl_tree_syntax.specs.Tree.{Forest, Kind, Label, Tree, before, end, kind}
use Rattle.wesl_tree_spelling.specs.Same.{same_forest, same_label, same_tree}
use Rattle.wesl_tree_spelling.specs.Tables.{naming, same_in}
use Rattle.wesl_tree_spelling.specs.declared.tables.Tables.{Tables}
use mathlib.Core.Bool.{and-true}

-- what the left table calls identifiers, and what the right one calls them
abbrev pub left_by : Tables → ℕ → Text
left_by tables = naming tables.places tables.left.now

abbrev pub right_by : Tables → ℕ → Text
right_by tables = naming tables.places tables.right.now

-- two trees, compared
pub record Same (places : Bool) (f g : ℕ → Text) (r : Bool) (t u : Tree) : Type 0 where
  pub is : r ≡ same_tree places f g t u

-- some trees, compared one after the other
pub record Alike (places : Bool) (f g : ℕ → Text) (r : Bool) (ts us : Forest) : Type 0 where
  pub is : r ≡ same_forest places f g ts us

module _ {places : Bool} {f g : ℕ → Text} where
  -- a pair that agrees, before others
  pub then : {a r : Bool} {t u : Tree} {ts us : Forest} → a ≡ same_tree places f g t u → a ≡ true → Alike places f g r ts us → Alike places f g r (before t ts) (before u us)
  then {ts = ts} {us = us} e y w = record { is = w.is ∙ ap (λ b. b && same_forest places f g ts us) (sym y ∙ e) }

  -- a pair that differs, whatever follows
  pub stop : {a : Bool} {t u : Tree} {ts us : Forest} → a ≡ same_tree places f g t u → a ≡ false → Alike places f g a (before t ts) (before u us)
  stop {ts = ts} {us = us} e n = record { is = n ∙ ap (λ b. b && same_forest places f g ts us) (sym n ∙ e) }

  pub last : {a : Bool} {t u : Tree} → a ≡ same_tree places f g t u → Alike places f g a (before t end) (before u end)
  last e = record { is = e ∙ sym (and-true _) }

  -- a node of such parts
  pub of_kind : (k : Kind) {r : Bool} {ts us : Forest} → same_kind k k ≡ true → Alike places f g r ts us → Same places f g r (record { label = kind k; children = ts }) (record { label = kind k; children = us })
  of_kind k h w = record { is = rw h w.is }

  -- the same, where the labels hold something that agrees
  pub of_labels : (l m : Label) {a r : Bool} {ts us : Forest} → a ≡ same_label places f g l m → a ≡ true → Alike places f g r ts us → Same places f g r (record { label = l; children = ts }) (record { label = m; children = us })
  of_labels l m {ts = ts} {us = us} e y w = record { is = w.is ∙ ap (λ b. b && same_forest places f g ts us) (sym y ∙ e) }

  pub plainly : {r : Bool} {t u : Tree} → r ≡ same_tree places f g t u → Same places f g r t u
  plainly e = record { is = e }

-- as seen by its parts
pub seen : (tables : Tables) {r : Bool} {t u v w : Tree} → t ≡ v → u ≡ w → Same tables.places (left_by tables) (right_by tables) r v w → r ≡ same_in tables t u
seen tables p q e = rw (p, q) e.is

-- as seen by its parts, where the left one is of a group
pub grouped : (tables : Tables) (test : Label → Bool) {r : Bool} {t u v w : Tree} → t ≡ v → u ≡ w → test v.label ≡ true → Same tables.places (left_by tables) (right_by tables) r v w → r ≡ (test t.label && same_in tables t u)
grouped tables test p q h e = rw (p, q, h) e.is

-- the same at other places
pub at_places : {A : Type 0} (view : A → Tree) (tables : Tables) {x y p q : A} {r : Bool} → x ≡ p → y ≡ q → r ≡ same_in tables (view x) (view y) → r ≡ same_in tables (view p) (view q)
at_places view tables is js e = rw (sym is, sym js) e
