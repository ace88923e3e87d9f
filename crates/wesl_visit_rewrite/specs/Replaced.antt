-- What a rewriting call leaves.
use Rattle.std.specs.Prelude.{◌≡◌, Bool, true, false, ◌||◌}
use Rattle.wesl_tree_syntax.specs.Tree.{Label, Forest, Tree, end, tree}
use Rattle.wesl_tree_syntax.specs.Nodes.{is_formula, is_import_or_directive}
use Rattle.wesl_visit_collect.specs.Sought.{Sought, expressions, types, statements, attribute_lists, test}

-- Which nodes are replaced, what one may become, and whether those inside it are replaced before it.
pub record Rule : Type 1 where
  pub sought : Sought
  pub turns : Tree → Tree → Type 0
  pub inner : Bool

-- the rule that replaces the nodes of a kind as a relation says, those inside a node before it where the last is true
abbrev pub rule : Sought → (Tree → Tree → Type 0) → Bool → Rule
rule sought turns inner = record { sought = sought; turns = turns; inner = inner }

-- what the rewriting of expressions and types passes over
abbrev pub is_passed_over : Sought → Label → Bool
is_passed_over expressions l = is_formula l || is_import_or_directive l
is_passed_over types l = is_formula l || is_import_or_directive l
is_passed_over statements l = false
is_passed_over attribute_lists l = false

-- The second forest is the first with each outermost node of the kind replaced: as it stands, or once those inside it
-- are. All else is as it was.
pub data Replaced (k : Rule) : Forest → Forest → Type 0 where
  nothing : Replaced k end end
  word : {l : Label} {f g h : Forest} → is_passed_over k.sought l ≡ true → Replaced k g h → Replaced k (tree l f g) (tree l f h)
  other : {l : Label} {f f' g h : Forest} → is_passed_over k.sought l ≡ false → test k.sought l ≡ false → Replaced k f f' → Replaced k g h → Replaced k (tree l f g) (tree l f' h)
  as_it_stands : {l m : Label} {f f' g h : Forest}
      → test k.sought l ≡ true → k.inner ≡ false
      → k.turns (record { label = l; children = f }) (record { label = m; children = f' })
      → Replaced k g h → Replaced k (tree l f g) (tree m f' h)
  inner_first : {l m : Label} {f f' f'' g h : Forest}
      → test k.sought l ≡ true → k.inner ≡ true → Replaced k f f'
      → k.turns (record { label = l; children = f' }) (record { label = m; children = f'' })
      → Replaced k g h → Replaced k (tree l f g) (tree m f'' h)

-- The same after a refusal: the nodes met hold their replacement, the one at which it was refused and those after it
-- are as they were.
pub data Stopped (k : Rule) : Forest → Forest → Type 0 where
  at_node : {l : Label} {f g : Forest} → test k.sought l ≡ true → k.inner ≡ false → Stopped k (tree l f g) (tree l f g)
  after_inner : {l : Label} {f f' g : Forest} → test k.sought l ≡ true → k.inner ≡ true → Replaced k f f' → Stopped k (tree l f g) (tree l f' g)
  inside_node : {l : Label} {f f' g : Forest} → test k.sought l ≡ true → k.inner ≡ true → Stopped k f f' → Stopped k (tree l f g) (tree l f' g)
  inside_other : {l : Label} {f f' g : Forest} → is_passed_over k.sought l ≡ false → test k.sought l ≡ false → Stopped k f f' → Stopped k (tree l f g) (tree l f' g)
  later : {l m : Label} {f f' g h : Forest} → Replaced k (tree l f end) (tree m f' end) → Stopped k g h → Stopped k (tree l f g) (tree m f' h)

-- The same strictly below a node, whose label stays.
pub data ReplacedBelow (k : Rule) : Tree → Tree → Type 0 where
  of_word : {l : Label} {f : Forest} → is_passed_over k.sought l ≡ true → ReplacedBelow k (record { label = l; children = f }) (record { label = l; children = f })
  of_other : {l : Label} {f g : Forest} → is_passed_over k.sought l ≡ false → Replaced k f g → ReplacedBelow k (record { label = l; children = f }) (record { label = l; children = g })

-- The same after a refusal.
pub data StoppedBelow (k : Rule) : Tree → Tree → Type 0 where
  within : {l : Label} {f g : Forest} → is_passed_over k.sought l ≡ false → Stopped k f g → StoppedBelow k (record { label = l; children = f }) (record { label = l; children = g })
