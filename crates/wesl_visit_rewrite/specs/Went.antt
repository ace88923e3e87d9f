-- A step of the rewriting walk: what it made of a forest, and whether it goes on. Once a rewriter has refused, the rest
-- stands as it was.
use Rattle.std.specs.Prelude.{◌≡◌, Bool, true, false, List, map}
use Rattle.wesl_tree_syntax.specs.Tree.{Forest, Tree, before, end, forest_of}
use Rattle.wesl_visit_rewrite.specs.Replaced.{Rule, Replaced, ReplacedBelow, Stopped, StoppedBelow}

-- One forest became another, where the truth value before each tells whether no rewriter had refused by then. All was
-- replaced, or a refusal stopped it on the way, or one had come before and nothing changed. No refusal is taken back.
abbrev pub WentBy : Rule → Bool → Forest → Bool → Forest → Type 0
WentBy k true f true g = Replaced k f g
WentBy k true f false g = Stopped k f g
WentBy k false f true g = ⊥
WentBy k false f false g = g ≡ f

-- The same in one: trees `f` became `g`; `a` tells whether no rewriter had refused before, `b` whether none has after.
pub record Went (k : Rule) (a : Bool) (f : Forest) (b : Bool) (g : Forest) : Type 0 where
  pub went : WentBy k a f b g

-- the same of one node, by its tree
abbrev pub WentTo : {X : Type 0} → Rule → (X → Tree) → Bool → X → Bool → X → Type 0
WentTo k view a x b y = Went k a (before (view x) end) b (before (view y) end)

-- the same of the nodes of a list, by their trees
abbrev pub AllWent : {X : Type 0} → Rule → (X → Tree) → Bool → List X → Bool → List X → Type 0
AllWent k view a xs b ys = Went k a (forest_of (map view xs)) b (forest_of (map view ys))

-- the same of what lies strictly below a node, where none had refused before
abbrev pub WentBelowBy : Rule → Tree → Bool → Tree → Type 0
WentBelowBy k s true t = ReplacedBelow k s t
WentBelowBy k s false t = StoppedBelow k s t

-- The same in one: the node `s` became `t`, and `b` tells whether no rewriter refused.
pub record WentBelow (k : Rule) (s : Tree) (b : Bool) (t : Tree) : Type 0 where
  pub went : WentBelowBy k s b t
