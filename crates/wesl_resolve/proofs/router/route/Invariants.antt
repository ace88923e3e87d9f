use Rattle.wesl_tree_names.specs.Path.{path_view}
use Rattle.wesl_resolve.proofs.RouteLemmas.{IsBest}
use Rattle.wesl_resolve.proofs.router.route.Given as goal

abbrev pub invariant-loop-place : goal.invariant-loop-place
invariant-loop-place g l = IsBest l.mounts (path_view l.path) l.place l.best
