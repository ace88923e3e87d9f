-- What a walk that notes want of memory says of the copy that it makes.
use Rattle.std.specs.Prelude.{◌≡◌, false}
use Rattle.wesl_tree_syntax.specs.Tree.{Tree}
use Rattle.wesl_tree_copies.specs.declared.copying.Copying.{Copying}
use Rattle.wesl_tree_copies.specs.Renumbered.{renumbered_tree, after_tree}

-- Unless memory was wanting by then: the copy is the original with the numbers that were not given yet, those are left that
-- the original's identifiers did not take, and memory was not wanting before either.
pub record Copied (old new : Copying) (original copy : Tree) : Type 0 where
  pub tree : new.is_refused ≡ false → copy ≡ renumbered_tree original old.rest.now
  pub rest : new.is_refused ≡ false → new.rest.now ≡ after_tree original old.rest.now
  pub noted : new.is_refused ≡ false → old.is_refused ≡ false

-- the same of what is seen as trees
abbrev pub Copies : {X : Type 0} → Copying → Copying → (X → Tree) → X → X → Type 0
Copies old new view original copy = Copied old new (view original) (view copy)
