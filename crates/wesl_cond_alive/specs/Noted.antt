-- Memory may be wanting at each step of the walk. The walk notes it and goes on, and a note stays: what is said of a
-- step holds where nothing is noted after it.
use Rattle.std.specs.Prelude.{◌≡◌, ℕ, cond, false, List, [], ◌∷◌, ◌++◌, map}
use Rattle.wesl_tree_syntax.specs.Tree.{Forest, Tree, before, end}
use Rattle.wesl_cond_alive.specs.Sound.{Outline}
use Rattle.wesl_cond_alive.specs.Walk.{Ahead, listed, leaf, Here, Node, State, walk, judged, places_in}
use Rattle.wesl_cond_alive.specs.Views.{state_of, here_view, spot_view}
use Rattle.wesl_cond_alive.specs.declared.walk.Here as code
use Rattle.wesl_cond_alive.specs.declared.walk.Walk.{Walk}

-- unless memory was wanting
abbrev pub IfKept : Walk → Type 0 → Type 0
IfKept w P = w.is_refused ≡ false → P

-- a step after which the walk has found this
pub record Becomes (old new : Walk) (s : State ℕ) : Type 0 where
  pub noted : IfKept new (old.is_refused ≡ false)
  pub found : IfKept new (state_of new ≡ s)

-- the steps over one tree that stands here, of which this is known
pub record WalksAs (ahead : Ahead) (here : Here) (old new : Walk) (t : Tree) : Type 0 where
  pub noted : IfKept new (old.is_refused ≡ false)
  pub found : IfKept new (state_of new ≡ walk (record { here = here; ahead = ahead }) (state_of old) (before t end))

-- the steps over one tree below which judged lists may lie
abbrev pub Walks : Here → Walk → Walk → Tree → Type 0
Walks here old new t = WalksAs (listed []) here old new t

-- the steps over one tree below which no judged list may lie
abbrev pub Leaves : Here → Walk → Walk → Tree → Type 0
Leaves here old new t = WalksAs leaf here old new t

-- the steps over trees, of which this is known
pub record WalksIn (node : Node) (old new : Walk) (f : Forest) : Type 0 where
  pub noted : IfKept new (old.is_refused ≡ false)
  pub found : IfKept new (state_of new ≡ walk node (state_of old) f)

-- an identifier more
abbrev pub with_mark : Here → ℕ → State ℕ → State ℕ
with_mark here x s = record s { marks = s.marks ++ record { name = x; set = here.set } ∷ []; flags = cond here.is_formula (s.flags ++ x ∷ []) s.flags }

-- a list is judged: its branches are added, and the places of its nodes are told
pub record JudgesList (holder : ℕ) (old new : Walk) (xs : List (Outline ℕ)) (places : List code.Here) : Type 0 where
  pub noted : IfKept new (old.is_refused ≡ false)
  pub found : IfKept new (state_of new ≡ judged holder xs (state_of old))
  pub told : IfKept new (map here_view places ≡ places_in holder xs (state_of old))

-- trees of which this is known, in a place that has no attributes of its own
abbrev pub below : code.Here → Ahead → Node
below h ahead = record { here = spot_view h; ahead = ahead }

-- the nodes of a judged list there, which stand in these places in turn
abbrev pub standing_by : code.Here → List code.Here → Node
standing_by h places = below h (listed (map here_view places))
