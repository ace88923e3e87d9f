-- What is promised of the text of linked units.
use Rattle.std.specs.Prelude.{◌≡◌, ◌↔◌, ◌⊎◌, ℕ, ◌-◌, ◌==◌, Bool, true, ◌&&◌, ◌||◌, List, Contains}
use Rattle.wesl_tree_names.specs.Path.{Text, Path}
use Rattle.wesl_tree_syntax.specs.Tree.{ident, assignment, end, tree}
use Rattle.wesl_tree_syntax.specs.Unit.{UnitOf, UnitView, forest_of_unit, spelled, trees_of}
use Rattle.wesl_tree_syntax.specs.declared.statement.AssignmentOperator.TheVariants as assignment_operator
use Rattle.wesl_text_form.specs.Names.{is_name}
use Rattle.wesl_text_form.specs.Spelling.{Label, Forest, is_wildcard}
use Rattle.wesl_text_form.specs.Says.{TextSays, IsWritable}
use Rattle.wesl_cond_features.specs.Features.{Replies, by_number}
use Rattle.wesl_cond_chains.specs.Laws.{IsFaultless}
use Rattle.wesl_cond_unit.specs.Left.{left_of}
use Rattle.wesl_text_judged.specs.Within.{all_end_within}
use Rattle.wesl_link_reach.specs.World.{Task}
use Rattle.wesl_link_engine.specs.Worlds.{Module}
use Rattle.wesl_link_engine.specs.Linked.{IsAssembled}
use Rattle.wesl_link_engine.specs.Resolved.{Resolved, AssemblesTo}

-- the unit of each module is writable
abbrev pub AreWritable : List Module → Type 0
AreWritable w = (m : Module) → Contains w m → IsWritable m.unit ≡ true

-- the unit of each module is said by a text
abbrev pub AreSaid : List Module → Type 0
AreSaid w = (m : Module) → Contains w m → (t : Text) × TextSays t m.unit

-- What features left of a unit that a text says, and in which no fault of a condition stands: of its statements that assign, at any
-- depth, each has attributes that end before its target. It is what `condition` leaves.
pub record IsJudged (unit : UnitOf Text) : Type 0 where
  pub text : Text
  pub read : UnitView
  pub reply : Replies Text
  pub said : TextSays text (spelled read)
  pub faultless : IsFaultless (by_number read.names reply) (trees_of read)
  pub left : unit ≡ spelled (left_of reply read)
  pub apart : all_end_within (forest_of_unit unit) ≡ true

-- the unit of each module is said by a text, or left of one that is
abbrev pub AreSaidOrJudged : List Module → Type 0
AreSaidOrJudged w = (m : Module) → Contains w m → ((t : Text) × TextSays t m.unit) ⊎ IsJudged m.unit

-- a label that is an identifier is a name
abbrev pub has_name : Label → Bool
has_name (ident r t) = is_name t
has_name l = true

-- which of the trees below a label is the target of `=`, counted from 1; 0 where none is
abbrev pub target_below : Label → ℕ
target_below (assignment assignment_operator.Equal) = 2
target_below l = 0

-- whether each identifier is a name, but for `_` alone as the target of `=`, which is the tree with this number
abbrev pub are_named : ℕ → Forest → Bool
are_named n end = true
are_named n (tree l children others) =
    (((n == 1) && is_wildcard l children) || (has_name l && are_named (target_below l) children)) && are_named (n - 1) others

-- Each name that the unit declares or refers to may be declared and used. The `_` of an assignment that discards its value, as in
-- `_ = f();`, is none.
abbrev pub HasNames : UnitView → Type 0
HasNames unit = are_named 0 (forest_of_unit (spelled unit)) ≡ true

-- the linked form of modules whose units are writable is so exactly where its printed names are names
abbrev pub LinkedAreWritable : Type 0
LinkedAreWritable =
    (w : List Module) (task : Task Path Text) (names : Path → Text → Text) (unit : UnitView)
    → AreWritable w → IsAssembled w task names unit → (IsWritable (spelled unit) ≡ true) ↔ HasNames unit

-- text in, text out: so is the unit of a `Resolutions` whose modules were said by texts
abbrev pub LinkedTexts : Type 0
LinkedTexts = (r : Resolved) (unit : UnitView) → AreSaid r.modules → AssemblesTo r unit → (IsWritable (spelled unit) ≡ true) ↔ HasNames unit

-- and so where the conditions of the modules were judged
abbrev pub LinkedJudged : Type 0
LinkedJudged = (r : Resolved) (unit : UnitView) → AreSaidOrJudged r.modules → AssemblesTo r unit → (IsWritable (spelled unit) ≡ true) ↔ HasNames unit
