-- What a walk adds to what it has collected. Nothing is said of the nodes once memory was wanting, which stays noted.
use Rattle.std.specs.Prelude.{◌≡◌, Bool, false, [], ◌++◌, Vec}
use Rattle.std.specs.Borrow.{Bor}
use Rattle.std.specs.declared.alloc.Global.{Global}
use Rattle.wesl_tree_syntax.specs.Tree.{Forest, Tree}
use Rattle.wesl_visit_collect.specs.Sought.{Sought}
use Rattle.wesl_visit_collect.specs.Lent.{views}
use Rattle.wesl_visit_collect.specs.Walk.{found_in, goes_on, itself}
use Rattle.wesl_visit_collect.specs.declared.collected.Collected.{Collected}

-- none are collected yet
pub record Begins {T : Type 0} (asked : Bool) (begun : Collected T) : Type 0 where
  pub deep : begun.deep ≡ asked
  pub none : begun.nodes.items ≡ []

-- those that are found in trees side by side
pub record Adds {T : Type 0} (k : Sought) (view : T → Tree) (old : Collected T) (f : Forest) (new : Collected T) : Type 0 where
  pub deep : new.deep ≡ old.deep
  pub added : new.is_refused ≡ false → (old.is_refused ≡ false) × (views view new.nodes.items ≡ views view old.nodes.items ++ found_in k old.deep f)

-- the tree itself, where it is of the kind, and whether those below it are found too
pub record Enters {T : Type 0} (k : Sought) (view : T → Tree) (old : Collected T) (t : Tree) (on : Bool) (new : Collected T) : Type 0 where
  pub deep : new.deep ≡ old.deep
  pub goes : on ≡ goes_on k old.deep t.label
  pub added : new.is_refused ≡ false → (old.is_refused ≡ false) × (views view new.nodes.items ≡ views view old.nodes.items ++ itself k t)

-- all of them, and memory was never wanting
pub record Ends {T : Type 0} (found : Collected T) (nodes : Vec (Bor T) Global) : Type 0 where
  pub noted : found.is_refused ≡ false
  pub same : nodes ≡ found.nodes
