-- A list walked branch by branch.
use Rattle.std.proofs.Common.{List, [], ◌∷◌, Bool, cond, ◌&&◌, Option, Some, None}
use Rattle.wesl_cond_features.specs.declared.chain.Role.{Role}
use Rattle.wesl_cond_chains.specs.Chains.{Judged, is_branch, branch}
use Rattle.wesl_cond_features.specs.Branch.{fate, kept_after, decided_after}
use Rattle.wesl_cond_features.specs.Answers.{Answers}

module _ {I N : Type 0} (J : Judged I N) where
  abbrev pub enact : Answers I → Option Role → N → List N → List N
  enact known None n rest = rest
  enact known (Some role) n rest = J.in_role known role n ∷ rest

  -- a list after branches of which one is kept, one was true
  abbrev pub scan : Answers I → Bool → Bool → List N → List N
  scan known kept decided [] = []
  scan known kept decided (n ∷ ns) =
      cond (J.is_void n)
      (scan known kept decided ns)
      (let k = is_branch J n && kept in
      let d = is_branch J n && decided in
      enact known (fate k d (branch J known n)) n (scan known (kept_after k d (branch J known n)) (decided_after d (branch J known n)) ns))
