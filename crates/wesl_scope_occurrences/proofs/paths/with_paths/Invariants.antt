use Rattle.std.proofs.Common.{◌≡◌, List, map}
use Rattle.wesl_tree_names.specs.Path.{path_view}
use Rattle.wesl_scope_occurrences.specs.Walk.{Found}
use Rattle.wesl_scope_occurrences.specs.Bare.{bare, partly, path_places, paths_in}
use Rattle.wesl_scope_occurrences.specs.Views.{occurrence_view}
use Rattle.wesl_scope_occurrences.proofs.paths.with_paths.Given as goal

abbrev pub invariant-loop-i : goal.invariant-loop-i
invariant-loop-i l = (os : List Found) → map occurrence_view l.initial.patched.items ≡ map bare os → l.places ≡ path_places 0 os → map (λ p. path_view p.now) l.paths ≡ paths_in os → map occurrence_view l.patched.items ≡ partly l.i os
