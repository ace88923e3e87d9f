-- Lists of nodes that are lent.
use Rattle.std.specs.Prelude.{List, map}
use Rattle.std.specs.Borrow.{Bor}
use Rattle.wesl_tree_syntax.specs.Tree.{Tree}

-- the trees of nodes that are lent
abbrev pub views : {T : Type 0} → (T → Tree) → List (Bor T) → List Tree
views view lent = map (λ r. view r.now) lent
