use Rattle.std.proofs.Common.{List, length, map, take}
use Rattle.wesl_tree_base.specs.Borrowed.{texts}
use Rattle.wesl_cond_choices.specs.Choices.{Choices}
use Rattle.wesl_cond_alive.specs.Choices.{choice_by}
use Rattle.wesl_cond_sets.specs.SetNumbers.{HasSets}
use Rattle.wesl_cond_alive.specs.Views.{branch_view}
use Rattle.wesl_cond_alive.proofs.BranchSets.{SoFar}
use Rattle.wesl_cond_alive.proofs.sets.sets_of.Given as goal

abbrev pub invariant-loop-branch : goal.invariant-loop-branch
invariant-loop-branch l =
    (sets : List Choices) × HasSets l.sets sets × SoFar (length l.flags) (choice_by l.names (texts l.flags)) sets l.left (map branch_view (take l.branch-index l.branches))
