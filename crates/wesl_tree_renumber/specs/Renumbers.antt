-- What a walk that gives numbers leaves.
use Rattle.std.specs.Prelude.{◌≡◌}
use Rattle.wesl_tree_syntax.specs.Tree.{Tree}
use Rattle.wesl_tree_copies.specs.Renumbered.{renumbered_tree, after_tree}
use Rattle.wesl_tree_renumber.specs.declared.renumbering.Renumbering.{Renumbering}

-- A tree has the numbers that were not given yet, and those are left that its identifiers did not take.
pub record Renumbered (old new : Renumbering) (before after : Tree) : Type 0 where
  pub tree : after ≡ renumbered_tree before old.rest.now
  pub rest : new.rest.now ≡ after_tree before old.rest.now

-- the same of what is seen as trees
abbrev pub Renumbers : {X : Type 0} → Renumbering → Renumbering → (X → Tree) → X → X → Type 0
Renumbers old new view before after = Renumbered old new (view before) (view after)
