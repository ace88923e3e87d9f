-- What a rewriter made of a node that may be of the kind.
use Rattle.std.specs.Prelude.{◌≡◌, Bool, true, false}
use Rattle.wesl_tree_syntax.specs.Tree.{Tree}

-- what it made of a node of the kind, and whether it goes on: once it has refused, nodes stand as they were
abbrev pub TurnedBy : (Tree → Tree → Type 0) → Bool → Tree → Bool → Tree → Type 0
TurnedBy turns true s true t = turns s t
TurnedBy turns true s false t = t ≡ s
TurnedBy turns false s true t = ⊥
TurnedBy turns false s false t = t ≡ s

-- the same of a node that may be of another kind, which stays as it is
abbrev pub FinishedBy : Bool → (Tree → Tree → Type 0) → Bool → Tree → Bool → Tree → Type 0
FinishedBy true turns a s b t = TurnedBy turns a s b t
FinishedBy false turns a s b t = (b ≡ a) × (t ≡ s)

-- The same in one: the node `s` became `t`; `a` tells whether no rewriter had refused before, `b` whether none has after.
pub record Finished (of_kind : Bool) (turns : Tree → Tree → Type 0) (a : Bool) (s : Tree) (b : Bool) (t : Tree) : Type 0 where
  pub finished : FinishedBy of_kind turns a s b t
